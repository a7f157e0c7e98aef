-- `kernel::lane16::I16ByElement8::narrow` meets its contract: the clamp.
use mathlib.Core.Path.{ap, ◌∙◌}
use mir.Facts.{to_z-of_z}
use mir.Syntax.{w16}
use Rattle.integer.specs.Number.{clamp}
use Rattle.integer.proofs.Word.{kept}
use Rattle.isa.specs.Register.{bits, bytes}
use Rattle.kernel.proofs.lane16.I16ByElement8.narrow.Goals as goal

pub returns : goal.returns
unfolding bits bytes
returns c = kept w16 _ c.narrow.type_inv ∙ c.narrow.ensures ∙ ap (clamp 16) (to_z-of_z c.ranges.s)
