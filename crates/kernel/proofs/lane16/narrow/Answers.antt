-- `kernel::lane16::narrow` meets its contract: each arm's tests are those of the definition.
use mir.Syntax.{w16}
use Rattle.integer.proofs.Narrow.{narrow-low, narrow_high, narrow-fits, narrow-inside}
use Rattle.kernel.proofs.lane16.narrow.Goals as goal

pub overflow_cast-result : goal.overflow_cast-result
overflow_cast-result c = narrow-fits w16 c.ranges.x c.if-x-ltminus32768.false c.if-x-gt32767.false

pub returns-then-x-ltminus32768 : goal.returns-then-x-ltminus32768
returns-then-x-ltminus32768 c = narrow-low w16 c.ranges.x c.if-x-ltminus32768.true

pub returns-then-x-gt32767 : goal.returns-then-x-gt32767
returns-then-x-gt32767 c = narrow_high w16 c.ranges.x c.if-x-ltminus32768.false c.if-x-gt32767.true

pub returns-else-x-gt32767 : goal.returns-else-x-gt32767
returns-else-x-gt32767 c = narrow-inside w16 c.ranges.x c.if-x-ltminus32768.false c.if-x-gt32767.false
