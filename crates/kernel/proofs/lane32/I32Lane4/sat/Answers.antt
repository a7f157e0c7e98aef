-- `kernel::lane32::I32Lane4::sat` meets its contract: the exact sum fits, and is clamped to the end that the addend's sign gives.
use Rattle.integer.specs.Number.{clamp}
use Rattle.integer.specs.Lane.{clamped}
use Rattle.integer.proofs.Widen.{wide32, fits-cast, lanes-in, read_through, lanes-sum, toward-lanes}
use Rattle.isa.specs.Register.{bits, bytes}
use Rattle.kernel.proofs.lane32.I32Lane4.sat.Goals as goal

pub overflow_cast-c : goal.overflow_cast-c
overflow_cast-c c = fits-cast wide32 c.ranges.c

pub overflow_cast-b : goal.overflow_cast-b
overflow_cast-b c = fits-cast wide32 c.ranges.b

pub plus_minus-requires : goal.plus_minus-requires
plus_minus-requires c = lanes-in wide32 c.ranges.c c.ranges.b

pub overflow_cast-c-2 : goal.overflow_cast-c-2
overflow_cast-c-2 c = fits-cast wide32 c.ranges.c

pub clamp_toward-requires : goal.clamp_toward-requires
unfolding bits bytes
clamp_toward-requires c = let f = c.ranges in
    let minus = c.args.minus in
    toward-lanes wide32 minus f.c f.b c.plus_minus.type_inv (lanes-sum wide32 minus f.c f.b c.plus_minus.ensures)

pub returns : goal.returns
unfolding clamped bits bytes
returns c = let f = c.ranges in
    read_through wide32 (clamp 32) c.clamp_toward.type_inv c.plus_minus.type_inv c.clamp_toward.ensures (lanes-sum wide32 c.args.minus f.c f.b c.plus_minus.ensures)
