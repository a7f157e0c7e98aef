-- Numbers of N bits and their patterns, and what a signed local reads.
-- Assumes nothing.
use mathlib.Core.Path.{◌≡◌, refl, sym, ap, ◌∙◌, subst}
use mathlib.Core.Bool.{Bool, true, false, cond}
use Prim.Native.Nat.{ℕ, suc, ◌+◌, ◌-◌, ◌*◌, ◌%◌, ◌^◌, ◌≤◌, ◌<◌}
use native.Mathlib.Nat.{mod-eq_of_lt, mod-lt, mul_assoc}
use native.Mathlib.Omega.{arith}
use lib.Pow.{pow_pos, pow-add, mod-mod-pow}
use borrow.Author.Tests.{ltb-true, le-ltb, lt-ltb}
use lib.Dec.{ltb, T}
use lib.IntN.{ℤ, pos, negsuc, nat_abs, ◌+ℤ◌, ◌-ℤ◌}
use lib.Signed.{lt_z, non_neg, mag}
use mir.Syntax.{Width}
use mir.Val.{to_z, of_z, hbits}
use mir.Facts.{to_z-of_z}
use Rattle.integer.specs.Number.{signed, pattern, mod_z, wrap}
use Rattle.integer.specs.Lane.{wrapped}
use Rattle.integer.proofs.Difference.{diff, pos-diff, minus_pos, is_pos, is-neg, diff-eq, diff-mod, all-multiple}

-- a negative number, and one that is not
pub flipped : (a : ℤ) → lt_z a (pos 0) ≡ true → negsuc 0 -ℤ a ≡ pos (mag a)
unfolding diff
flipped (pos n) e = absurd (no n (ltb-true n 0 e))
  where
    no : (n : ℕ) → n < 0 → ⊥
    no n h = omega arith
flipped (negsuc n) e = is_pos (suc n) 1 n (omega arith)

pub not_negative : (a : ℤ) → lt_z a (pos 0) ≡ false → T (non_neg a) × (nat_abs a ≡ mag a)
not_negative (pos n) e = (tt, refl)
not_negative (negsuc n) e = absurd (subst T e tt)

-- the number of a pattern
pub signed_low : (N u : ℕ) → u < 2 ^ (N - 1) → pos u ≡ signed N u
unfolding signed
signed_low N u h = rw (lt-ltb u (2 ^ (N - 1)) h)

pub signed_high : (N u : ℕ) → 2 ^ (N - 1) ≤ u → u < 2 ^ N → negsuc (2 ^ N - 1 - u) ≡ signed N u
unfolding signed
signed_high N u h l =
    rw (le-ltb u (2 ^ (N - 1)) h)
    (sym (ap (λ (z : ℤ). z -ℤ pos (2 ^ N)) (pos-diff u) ∙ minus_pos u 0 (2 ^ N) ∙ is-neg u (0 + 2 ^ N) (2 ^ N - 1 - u) (omega arith)))

-- what is read back from a number that fits, and of one that was widened
pub kept : (w : Width) (z : ℤ) → mag z < 2 ^ hbits w → to_z w (of_z w z) ≡ z
kept w z h = to_z-of_z (record { sfits = h })

-- ---- wrapping

-- the low bits of a wider pattern
pub pattern-narrow : (j N : ℕ) (z : ℤ) → pattern (j + N) z % 2 ^ N ≡ pattern N z
unfolding pattern
pattern-narrow j N =
    all-multiple (2 ^ (j + N)) (pow_pos (j + N)) (λ z. mod_z z (2 ^ (j + N)) % 2 ^ N ≡ mod_z z (2 ^ N))
    (λ u k. ap (λ (n : ℕ). n % 2 ^ N) (diff-mod (2 ^ (j + N)) (pow_pos (j + N)) u k) ∙ mod-mod-pow u j N
    ∙ sym (ap (λ (n : ℕ). mod_z (diff u n) (2 ^ N)) (ap (λ (n : ℕ). k * n) (pow-add 2 j N) ∙ sym (mul_assoc k (2 ^ j) (2 ^ N))) ∙ diff-mod (2 ^ N) (pow_pos N) u (k * 2 ^ j)))

-- the pattern of a signed number is the one it is read from
pub pattern-signed : (N u : ℕ) → u < 2 ^ N → pattern N (signed N u) ≡ u
unfolding pattern signed
pattern-signed N u h = by-test (ltb u (2 ^ (N - 1)))
  where
    by-test : (t : Bool) → mod_z (cond t (pos u) (pos u -ℤ pos (2 ^ N))) (2 ^ N) ≡ u
    by-test true = mod-eq_of_lt h
    by-test false =
        ap (λ (z : ℤ). mod_z z (2 ^ N)) (ap (λ (z : ℤ). z -ℤ pos (2 ^ N)) (pos-diff u) ∙ minus_pos u 0 (2 ^ N) ∙ diff-eq u (0 + 2 ^ N) u (1 * 2 ^ N) (omega arith))
        ∙ diff-mod (2 ^ N) (pow_pos N) u 1 ∙ mod-eq_of_lt h

pub pattern-below : (N : ℕ) (z : ℤ) → pattern N z < 2 ^ N
unfolding pattern
pattern-below N (pos n) = mod-lt n (pow_pos N)
pattern-below N (negsuc n) = omega (arith, pow_pos N)

pub pattern-wrapped : (N : ℕ) (a b : ℤ) → pattern N (wrapped N a b) ≡ pattern N (a +ℤ b)
unfolding wrapped wrap
pattern-wrapped N a b = pattern-signed N (pattern N (a +ℤ b)) (pattern-below N (a +ℤ b))
