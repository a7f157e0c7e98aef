-- `kernel::lane64::doubled_word` meets its contract: twice the upper word, and the highest bit of the lower.
use Rattle.std.proofs.Common.{ℕ, ◌/◌, ◌%◌, ◌^◌, sym, ap, ◌∙◌}
use Rattle.integer.proofs.High.{word-divided}
use Rattle.kernel.proofs.lane64.doubled_word.Goals as goal

pub returns : goal.returns
returns c = let w = c.wide_product-p in
    c.wrapping_add_u64.ensures.value ∙ sym (word-divided 63 w.result.hi w.result.lo) ∙ ap (λ (n : ℕ). n / 2 ^ 63 % 2 ^ 64) w.ensures
