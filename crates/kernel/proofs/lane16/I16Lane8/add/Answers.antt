-- `kernel::lane16::I16Lane8::add` meets its contract: the exact sum fits, and is wrapped.
use Rattle.integer.specs.Number.{wrap}
use Rattle.integer.specs.Lane.{wrapped}
use Rattle.integer.proofs.Widen.{wide16, fits-cast, lanes-in, read_through, lanes-sum}
use Rattle.isa.specs.Register.{bits, bytes}
use Rattle.kernel.proofs.lane16.I16Lane8.add.Goals as goal

pub overflow_cast-c : goal.overflow_cast-c
overflow_cast-c c = fits-cast wide16 c.ranges.c

pub overflow_cast-b : goal.overflow_cast-b
overflow_cast-b c = fits-cast wide16 c.ranges.b

pub plus_minus-requires : goal.plus_minus-requires
plus_minus-requires c = lanes-in wide16 c.ranges.c c.ranges.b

pub returns : goal.returns
unfolding wrapped bits bytes
returns c = let f = c.ranges in
    read_through wide16 (wrap 16) c.cut.type_inv c.plus_minus.type_inv c.cut.ensures (lanes-sum wide16 c.args.minus f.c f.b c.plus_minus.ensures)
