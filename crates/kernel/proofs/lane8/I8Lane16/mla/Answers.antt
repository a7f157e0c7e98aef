-- `kernel::lane8::I8Lane16::mla` meets its contract: the exact sum fits, and is wrapped.
use Rattle.integer.specs.Number.{wrap}
use Rattle.integer.specs.Lane.{wrapped}
use Rattle.integer.proofs.Widen.{wide8, fits-cast, read_through, product-sum, sum-in}
use Rattle.isa.specs.Register.{bits, bytes}
use Rattle.kernel.proofs.lane8.I8Lane16.mla.Goals as goal

pub overflow_cast-c : goal.overflow_cast-c
overflow_cast-c c = fits-cast wide8 c.ranges.c

pub plus_minus-requires : goal.plus_minus-requires
plus_minus-requires c = sum-in wide8 c.ranges.a c.ranges.b c.product.type_inv c.product.ensures c.ranges.c

pub returns : goal.returns
unfolding wrapped bits bytes
returns c = read_through wide8 (wrap 8) c.cut.type_inv c.plus_minus.type_inv c.cut.ensures (product-sum wide8 c.ranges.a c.ranges.b c.product.type_inv c.product.ensures c.args.minus c.ranges.c c.plus_minus.ensures)
