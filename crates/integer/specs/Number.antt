-- Numbers of N bits in two's complement, and the ways in which an exact integer becomes one.
-- `lt_z` of the kit is the test of order of integers.
-- Assumes nothing.
use Rattle.std.specs.Prelude.{ℕ, suc, ◌-◌, ◌/◌, ◌%◌, ◌^◌, Bool, true, false, cond, ltb, ℤ, pos, negsuc, neg_ℤ, ◌+ℤ◌, ◌-ℤ◌, ◌*ℤ◌}
use Rattle.std.specs.Int.Signed.{lt_z, shr_z}

-- The signed value of the N-bit pattern u.
unfoldable pub signed : ℕ → ℕ → ℤ
signed N u = cond (ltb u (2 ^ (N - 1))) (pos u) (pos u -ℤ pos (2 ^ N))

-- z modulo m, from 0 to m - 1.
abbrev pub mod_z : ℤ → ℕ → ℕ
mod_z (pos n) m = n % m
mod_z (negsuc n) m = m - suc (n % m)

-- z divided by m, rounded down also at negative z: -(n + 1) gives -(n / m + 1).
abbrev pub floor_div : ℤ → ℕ → ℤ
floor_div z m = shr_z z m

-- The N-bit pattern of z: z modulo 2^N.
unfoldable pub pattern : ℕ → ℤ → ℕ
pattern N z = mod_z z (2 ^ N)

-- z modulo 2^N, as a signed number of N bits.
unfoldable pub wrap : ℕ → ℤ → ℤ
wrap N z = signed N (pattern N z)

-- The ends of the range of N bits.
abbrev pub lowest : ℕ → ℤ
lowest N = neg_ℤ (pos (2 ^ (N - 1)))

abbrev pub highest : ℕ → ℤ
highest N = pos (2 ^ (N - 1) - 1)

-- z brought into low .. high.
unfoldable pub clamp_to : ℤ → ℤ → ℤ → ℤ
clamp_to low high z = cond (lt_z z low) low (cond (lt_z high z) high z)

abbrev pub clamp : ℕ → ℤ → ℤ
clamp N z = clamp_to (lowest N) (highest N) z

-- What a clamp did: nothing, or it cut z down to the highest, or raised it to the lowest.
pub data End : Type 0 where
  neither : End
  cut_down : End
  raised : End

abbrev pub pick_end : Bool → End → End → End
pick_end true a b = a
pick_end false a b = b

unfoldable pub end_to : ℤ → ℤ → ℤ → End
end_to low high z = pick_end (lt_z z low) raised (pick_end (lt_z high z) cut_down neither)

abbrev pub end_of : ℕ → ℤ → End
end_of N z = end_to (lowest N) (highest N) z

-- The clamp changed the number.
abbrev pub changed : End → Bool
changed neither = false
changed cut_down = true
changed raised = true

abbrev pub clamps : ℕ → ℤ → Bool
clamps N z = changed (end_of N z)

-- (c × 2^N + 2 × t + 2^(N-1)) / 2^N rounded down: t, twice and rounded to its upper half, on top of c. Nothing is clamped.
unfoldable pub rounded : ℕ → ℤ → ℤ → ℤ
rounded N c t = floor_div (c *ℤ pos (2 ^ N) +ℤ pos 2 *ℤ t +ℤ pos (2 ^ (N - 1))) (2 ^ N)

-- 2 × t / 2^N rounded down: the upper half of t doubled. Nothing is rounded to nearest, and nothing is clamped.
unfoldable pub upper_half : ℕ → ℤ → ℤ
upper_half N t = floor_div (pos 2 *ℤ t) (2 ^ N)

-- z, or its negative.
abbrev pub signed_by : Bool → ℤ → ℤ
signed_by minus z = cond minus (neg_ℤ z) z

-- Byte j of a number, byte 0 the lowest.
unfoldable pub digit : ℕ → ℕ → ℕ
digit u j = u / 256 ^ j % 256

-- Byte j of the N-bit pattern of z.
unfoldable pub byte_of : ℕ → ℤ → ℕ → ℕ
byte_of N z j = digit (pattern N z) j
