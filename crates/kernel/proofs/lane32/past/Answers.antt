-- `kernel::lane32::past` meets its contract: the tests are those of the definition.
use mir.Syntax.{w32}
use Rattle.integer.proofs.Narrow.{overflows-low, overflows-high}
use Rattle.isa.specs.Register.{bits, bytes}
use Rattle.kernel.proofs.lane32.past.Goals as goal

pub returns-then-x-ltminus2147483648 : goal.returns-then-x-ltminus2147483648
unfolding bits bytes
returns-then-x-ltminus2147483648 c = overflows-low w32 c.ranges.x c.if-x-ltminus2147483648.true

pub returns-else-x-ltminus2147483648 : goal.returns-else-x-ltminus2147483648
unfolding bits bytes
returns-else-x-ltminus2147483648 c = overflows-high w32 c.ranges.x c.if-x-ltminus2147483648.false
