-- `common::product32::product` meets its contract: of biased factors, and the bias taken off again.
use Rattle.integer.proofs.Widen.{wide32, fits-cast}
use Rattle.integer.proofs.Biased.{biased-product}
use Rattle.common.proofs.product32.product.Goals as goal

pub overflow_cast-a : goal.overflow_cast-a
overflow_cast-a c = fits-cast wide32 c.ranges.a

pub returns : goal.returns
returns c = biased-product wide32 c.ranges.a c.ranges.b c.biased-u.ensures.0 c.biased-v.ensures.0 c.half_product.ensures.0 c.wrapping_sub_u64-p.type_inv c.wrapping_sub_u64.type_inv c.wrapping_sub_u64-p.ensures.value c.to_bits.ensures c.wrapping_sub_u64.ensures.value c.of_bits.type_inv c.of_bits.ensures
