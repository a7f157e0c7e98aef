-- `kernel::lane8::I8Lane16::add` meets its contract: the exact sum fits, and is wrapped.
use Rattle.integer.specs.Number.{wrap}
use Rattle.integer.specs.Lane.{wrapped}
use Rattle.integer.proofs.Widen.{wide8, fits-cast, lanes-in, read_through, lanes-sum}
use Rattle.isa.specs.Register.{bits, bytes}
use Rattle.kernel.proofs.lane8.I8Lane16.add.Goals as goal

pub overflow_cast-c : goal.overflow_cast-c
overflow_cast-c c = fits-cast wide8 c.ranges.c

pub overflow_cast-b : goal.overflow_cast-b
overflow_cast-b c = fits-cast wide8 c.ranges.b

pub plus_minus-requires : goal.plus_minus-requires
plus_minus-requires c = lanes-in wide8 c.ranges.c c.ranges.b

pub returns : goal.returns
unfolding wrapped bits bytes
returns c = let f = c.ranges in
    read_through wide8 (wrap 8) c.cut.type_inv c.plus_minus.type_inv c.cut.ensures (lanes-sum wide8 c.args.minus f.c f.b c.plus_minus.ensures)
