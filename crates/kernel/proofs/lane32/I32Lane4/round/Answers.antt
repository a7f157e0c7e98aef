-- `kernel::lane32::I32Lane4::round` meets its contract: the rounded sum fits, and is clamped to the end that the sign of what is added gives.
use mathlib.Core.Path.{ap, ◌∙◌}
use mir.Syntax.{w32}
use Rattle.integer.specs.Number.{clamp}
use Rattle.integer.specs.Lane.{saturated}
use Rattle.integer.proofs.Word.{kept}
use Rattle.integer.proofs.Widen.{wide32, fits-cast, fits-rounded, read-rounded, toward-rounded}
use Rattle.isa.specs.Register.{bits, bytes}
use Rattle.kernel.proofs.lane32.I32Lane4.round.Goals as goal

pub overflow_cast-c : goal.overflow_cast-c
overflow_cast-c c = fits-cast wide32 c.ranges.c

pub overflow_add-c : goal.overflow_add-c
overflow_add-c c = search (fits-rounded wide32)

pub clamp_toward-requires : goal.clamp_toward-requires
unfolding bits bytes
clamp_toward-requires c = search (toward-rounded wide32)

pub returns : goal.returns
unfolding saturated bits bytes
returns c = kept w32 _ c.clamp_toward.type_inv ∙ c.clamp_toward.ensures
    ∙ ap (clamp 32) (read-rounded wide32 c.args.minus c.ranges.a c.ranges.b c.ranges.c c.upper-t.type_inv c.upper-t.ensures)
