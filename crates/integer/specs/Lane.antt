-- What a lane of N bits becomes of its old number and of what is added, and what the code of a lane takes and gives.
-- Assumes nothing.
use Rattle.std.specs.Prelude.{◌≡◌, true, false, ℕ, ◌+◌, ◌*◌, ◌^◌, ◌<◌, ℤ, pos, ◌+ℤ◌, ◌*ℤ◌}
use Rattle.std.specs.Int.Signed.{lt_z, mag}
use Rattle.integer.specs.Number.{clamp, rounded, upper_half, wrap, lowest, highest}

-- The rounded sum, clamped once.
unfoldable pub saturated : ℕ → ℤ → ℤ → ℤ
saturated N c t = clamp N (rounded N c t)

-- The sum, modulo 2^N.
unfoldable pub wrapped : ℕ → ℤ → ℤ → ℤ
wrapped N c t = wrap N (c +ℤ t)

-- The sum, clamped.
unfoldable pub clamped : ℕ → ℤ → ℤ → ℤ
clamped N c t = clamp N (c +ℤ t)

-- The upper half of the doubled product, clamped once.
unfoldable pub doubled_high : ℕ → ℤ → ℤ → ℤ
doubled_high N a b = clamp N (upper_half N (a *ℤ b))

-- What a sum takes in the code: a lane of s + 1 bits, and a number as large as a product of two lanes.
pub record SumIn (s : ℕ) (x y : ℤ) : Type 0 where
  pub lane_size : mag x < 2 ^ s
  pub small : mag y < 2 ^ s * 2 ^ s + 1

-- What a clamp of x to N bits takes in the code, where it picks the end by the sign of t: past the highest t is not negative, and below the lowest it is.
pub record Toward (N : ℕ) (x t : ℤ) : Type 0 where
  pub above : lt_z (highest N) x ≡ true → lt_z t (pos 0) ≡ false
  pub below : lt_z x (lowest N) ≡ true → lt_z t (pos 0) ≡ true
