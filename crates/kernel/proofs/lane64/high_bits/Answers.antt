-- `kernel::lane64::high_bits` meets its contract: the biases taken off again.
use Rattle.std.proofs.Common.{◌^◌, ℤ, pos, ◌+ℤ◌, ap, ◌∙◌, to_z-of_z}
use Rattle.integer.proofs.High.{biased-high}
use Rattle.kernel.proofs.lane64.high_bits.Goals as goal

pub returns : goal.returns
returns c = biased-high 63 c.args.a c.args.b
    (c.biased-u.ensures ∙ ap (λ (z : ℤ). z +ℤ pos (2 ^ 63)) (to_z-of_z c.ranges.a)) (c.biased-v.ensures ∙ ap (λ (z : ℤ). z +ℤ pos (2 ^ 63)) (to_z-of_z c.ranges.b))
    c.biased-u.type_inv c.biased-v.type_inv c.doubled_word.ensures
    c.wrapping_sub_u64-t.type_inv c.wrapping_sub_u64-t.ensures.value c.wrapping_sub_u64.type_inv c.wrapping_sub_u64.ensures.value c.wrapping_add_u64.ensures.value
