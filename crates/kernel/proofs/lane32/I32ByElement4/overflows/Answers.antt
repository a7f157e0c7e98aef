-- `kernel::lane32::I32ByElement4::overflows` meets its contract: the test.
use mathlib.Core.Path.{ap, ◌∙◌}
use mir.Facts.{to_z-of_z}
use Rattle.integer.specs.Number.{clamps}
use Rattle.isa.specs.Register.{bits, bytes}
use Rattle.kernel.proofs.lane32.I32ByElement4.overflows.Goals as goal

pub returns : goal.returns
unfolding bits bytes
returns c = c.past.ensures ∙ ap (clamps 32) (to_z-of_z c.ranges.s)
