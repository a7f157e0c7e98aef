-- `kernel::lane32::upper` meets its contract: a quarter of 2^32 and the product, divided by 2^31, is the definition's sum divided by 2^32.
use lib.Dec.{lit<}
use Rattle.integer.proofs.Widen.{wide32, small-in, read_upper}
use Rattle.kernel.proofs.lane32.upper.Goals as goal

pub plus_minus-requires : goal.plus_minus-requires
plus_minus-requires c = small-in wide32 c.ranges.a c.ranges.b c.product.type_inv c.product.ensures (lit< tt)

pub returns : goal.returns
returns c = search (read_upper wide32)
