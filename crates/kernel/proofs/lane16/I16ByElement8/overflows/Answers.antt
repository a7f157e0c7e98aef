-- `kernel::lane16::I16ByElement8::overflows` meets its contract: the tests are those of the definition.
use mir.Syntax.{w16}
use Rattle.integer.proofs.Narrow.{overflows-low, overflows-high}
use Rattle.isa.specs.Register.{bits, bytes}
use Rattle.kernel.proofs.lane16.I16ByElement8.overflows.Goals as goal

pub returns-then-s-ltminus32768 : goal.returns-then-s-ltminus32768
unfolding bits bytes
returns-then-s-ltminus32768 c = overflows-low w16 c.ranges.s c.if-s-ltminus32768.true

pub returns-else-s-ltminus32768 : goal.returns-else-s-ltminus32768
unfolding bits bytes
returns-else-s-ltminus32768 c = overflows-high w16 c.ranges.s c.if-s-ltminus32768.false
