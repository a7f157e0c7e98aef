-- Numbers of two words, which the code of 64-bit lanes works with.
-- Assumes nothing.
use Rattle.std.specs.Prelude.{◌≡◌, ℕ, ◌^◌, ◌<◌, ◌≤◌, true, false, ℤ, pos, ◌+ℤ◌, ◌*ℤ◌, int_lt, unsigned_abs}
use Rattle.integer.specs.Number.{floor_div, lowest, highest}

-- A signed number of two words.
abbrev pub wide_of : ℤ → ℕ → ℤ
wide_of hi lo = hi *ℤ pos (2 ^ 64) +ℤ pos lo

-- A number of two words that a product of two numbers of 64 bits can be.
pub record WideIn (hi : ℤ) (lo : ℕ) : Type 0 where
  pub size : unsigned_abs (wide_of hi lo) ≤ 2 ^ 126

-- Twice high plus low is outside 64 bits only at the end that hi's sign says.
pub record NarrowIn (high : ℤ) (low : ℕ) (hi : ℤ) : Type 0 where
  pub bit : low < 2
  pub positive : int_lt hi (pos 0) ≡ false → int_lt (high *ℤ pos 2 +ℤ pos low) (lowest 64) ≡ false
  pub negative : int_lt hi (pos 0) ≡ true → int_lt (highest 64) (high *ℤ pos 2 +ℤ pos low) ≡ false

-- c × 2^63 + 2^62 + z, divided by 2^63 rounding down: `rounded` at 64 bits, halved.
unfoldable pub sum_high : ℤ → ℤ → ℤ
sum_high c z = floor_div (c *ℤ pos (2 ^ 63) +ℤ pos (2 ^ 62) +ℤ z) (2 ^ 63)
