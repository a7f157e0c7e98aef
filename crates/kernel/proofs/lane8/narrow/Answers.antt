-- `kernel::lane8::narrow` meets its contract: each arm's tests are those of the definition.
use mir.Syntax.{w8}
use Rattle.integer.proofs.Narrow.{narrow-low, narrow_high, narrow-fits, narrow-inside}
use Rattle.kernel.proofs.lane8.narrow.Goals as goal

pub overflow_cast-result : goal.overflow_cast-result
overflow_cast-result c = narrow-fits w8 c.ranges.x c.if-x-ltminus128.false c.if-x-gt127.false

pub returns-then-x-ltminus128 : goal.returns-then-x-ltminus128
returns-then-x-ltminus128 c = narrow-low w8 c.ranges.x c.if-x-ltminus128.true

pub returns-then-x-gt127 : goal.returns-then-x-gt127
returns-then-x-gt127 c = narrow_high w8 c.ranges.x c.if-x-ltminus128.false c.if-x-gt127.true

pub returns-else-x-gt127 : goal.returns-else-x-gt127
returns-else-x-gt127 c = narrow-inside w8 c.ranges.x c.if-x-ltminus128.false c.if-x-gt127.false
