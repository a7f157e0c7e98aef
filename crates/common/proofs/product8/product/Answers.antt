-- `common::product8::product` meets its contract: a product of 8-bit numbers fits 16 bits.
use Rattle.std.proofs.Common.{w32}
use Rattle.integer.proofs.Widen.{wide8, fits-cast, fits_wider, read-wider}
use Rattle.common.proofs.product8.product.Goals as goal

pub overflow_cast-a : goal.overflow_cast-a
overflow_cast-a c = fits-cast wide8 c.ranges.a

pub overflow_cast-b : goal.overflow_cast-b
overflow_cast-b c = fits-cast wide8 c.ranges.b

pub overflow_cast-result : goal.overflow_cast-result
overflow_cast-result c = fits_wider wide8 w32 c.ranges.a c.ranges.b c.product.type_inv c.product.ensures

pub returns : goal.returns
returns c = read-wider wide8 w32 c.ranges.a c.ranges.b c.product.type_inv c.product.ensures
