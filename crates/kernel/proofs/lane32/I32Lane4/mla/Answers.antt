-- `kernel::lane32::I32Lane4::mla` meets its contract: the exact sum fits, and is wrapped.
use Rattle.integer.specs.Number.{wrap}
use Rattle.integer.specs.Lane.{wrapped}
use Rattle.integer.proofs.Widen.{wide32, fits-cast, read_through, product-sum, sum-in}
use Rattle.isa.specs.Register.{bits, bytes}
use Rattle.kernel.proofs.lane32.I32Lane4.mla.Goals as goal

pub overflow_cast-c : goal.overflow_cast-c
overflow_cast-c c = fits-cast wide32 c.ranges.c

pub plus_minus-requires : goal.plus_minus-requires
plus_minus-requires c = sum-in wide32 c.ranges.a c.ranges.b c.product.type_inv c.product.ensures c.ranges.c

pub returns : goal.returns
unfolding wrapped bits bytes
returns c = read_through wide32 (wrap 32) c.cut.type_inv c.plus_minus.type_inv c.cut.ensures (product-sum wide32 c.ranges.a c.ranges.b c.product.type_inv c.product.ensures c.args.minus c.ranges.c c.plus_minus.ensures)
