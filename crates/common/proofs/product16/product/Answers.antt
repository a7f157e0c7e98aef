-- `common::product16::product` meets its contract: of biased factors, and the bias taken off again.
use Rattle.integer.proofs.Widen.{wide16, fits-cast}
use Rattle.integer.proofs.Biased.{biased-product}
use Rattle.common.proofs.product16.product.Goals as goal

pub overflow_cast-a : goal.overflow_cast-a
overflow_cast-a c = fits-cast wide16 c.ranges.a

pub returns : goal.returns
returns c = biased-product wide16 c.ranges.a c.ranges.b c.biased-u.ensures.0 c.biased-v.ensures.0 c.multiply.ensures c.wrapping_sub_u32-p.type_inv c.wrapping_sub_u32.type_inv c.wrapping_sub_u32-p.ensures.value c.to_bits.ensures c.wrapping_sub_u32.ensures.value c.of_bits.type_inv c.of_bits.ensures
