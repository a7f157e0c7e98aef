-- `kernel::lane8::I8Lane16::round` meets its contract: the rounded sum fits, and is clamped.
use mathlib.Core.Path.{ap, ◌∙◌}
use mir.Syntax.{w8}
use Rattle.integer.specs.Number.{clamp}
use Rattle.integer.specs.Lane.{saturated}
use Rattle.integer.proofs.Word.{kept}
use Rattle.integer.proofs.Widen.{wide8, fits-cast, fits-rounded, read-rounded}
use Rattle.isa.specs.Register.{bits, bytes}
use Rattle.kernel.proofs.lane8.I8Lane16.round.Goals as goal

pub overflow_cast-c : goal.overflow_cast-c
overflow_cast-c c = fits-cast wide8 c.ranges.c

pub overflow_add-c : goal.overflow_add-c
overflow_add-c c = search (fits-rounded wide8)

pub returns : goal.returns
unfolding saturated bits bytes
returns c = kept w8 _ c.narrow.type_inv ∙ c.narrow.ensures
    ∙ ap (clamp 8) (read-rounded wide8 c.args.minus c.ranges.a c.ranges.b c.ranges.c c.upper.type_inv c.upper.ensures)
