-- `kernel::lane32::I32ByElement4::narrow` meets its contract: the clamp.
use mathlib.Core.Path.{ap, ◌∙◌}
use mir.Facts.{to_z-of_z}
use mir.Syntax.{w32}
use Rattle.integer.specs.Number.{clamp}
use Rattle.integer.proofs.Widen.{wide32, read-cast}
use Rattle.integer.proofs.Word.{kept}
use Rattle.isa.specs.Register.{bits, bytes}
use Rattle.kernel.proofs.lane32.I32ByElement4.narrow.Goals as goal

pub clamp_toward-requires : goal.clamp_toward-requires
unfolding bits bytes
clamp_toward-requires c = rw (to_z-of_z c.ranges.s, read-cast wide32 c.ranges.toward) c.requires

pub returns : goal.returns
unfolding bits bytes
returns c = kept w32 _ c.clamp_toward.type_inv ∙ c.clamp_toward.ensures ∙ ap (clamp 32) (to_z-of_z c.ranges.s)
