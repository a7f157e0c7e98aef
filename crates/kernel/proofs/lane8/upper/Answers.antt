-- `kernel::lane8::upper` meets its contract: a quarter of 2^8 and the product, divided by 2^7, is the definition's sum divided by 2^8.
use lib.Dec.{lit<}
use Rattle.integer.proofs.Widen.{wide8, small-in, read_upper}
use Rattle.kernel.proofs.lane8.upper.Goals as goal

pub plus_minus-requires : goal.plus_minus-requires
plus_minus-requires c = small-in wide8 c.ranges.a c.ranges.b c.product.type_inv c.product.ensures (lit< tt)

pub returns : goal.returns
returns c = search (read_upper wide8)
