-- Signs and sizes of numbers of two words.
-- Assumes nothing.
use Rattle.std.proofs.Common.{◌≡◌, ℕ, zero, suc, ◌+◌, ◌-◌, ◌*◌, ◌^◌, ◌<◌, ◌≤◌, Bool, true, false, not, ℤ, pos, negsuc, ◌+ℤ◌, ◌-ℤ◌, ◌*ℤ◌, neg_ℤ, nat_abs, sym, refl, ap, ◌∙◌, subst, arith, ltb-true, le-ltb}
use mathlib.Core.Bool.{beq}
use lib.IntN.{neg_ℤ-neg_ℤ}
use lib.Signed.{lt_z, mag}
use Rattle.integer.specs.Number.{signed_by}
use Rattle.kernel.specs.Wide.{wide_of}
use Rattle.integer.proofs.Difference.{diff, diff-eq, diff-scale, add-pos, neg-diff, minus_pos, zero_minus, diff-mag}

pub abs-negative : (a : ℤ) → lt_z a (pos 0) ≡ true → mag a + 1 ≡ nat_abs a
abs-negative (pos n) e = omega (arith, ltb-true n 0 e)
abs-negative (negsuc n) e = omega arith

-- the sign of a product
pub product-sign : (a b : ℤ) (minus : Bool) → signed_by minus (a *ℤ b) ≡ signed_by (not (beq (lt_z a (pos 0)) (not (beq (lt_z b (pos 0)) minus)))) (pos (nat_abs a * nat_abs b))
product-sign (pos a) (pos b) true = rw (le-ltb a 0 (omega arith), le-ltb b 0 (omega arith))
product-sign (pos a) (pos b) false = rw (le-ltb a 0 (omega arith), le-ltb b 0 (omega arith))
product-sign (pos a) (negsuc b) true = rw (le-ltb a 0 (omega arith)) (neg_ℤ-neg_ℤ (pos (a * suc b)))
product-sign (pos a) (negsuc b) false = rw (le-ltb a 0 (omega arith))
product-sign (negsuc a) (pos b) true = rw (le-ltb b 0 (omega arith)) (neg_ℤ-neg_ℤ (pos (suc a * b)))
product-sign (negsuc a) (pos b) false = rw (le-ltb b 0 (omega arith))
product-sign (negsuc a) (negsuc b) true = refl
product-sign (negsuc a) (negsuc b) false = refl

-- a number of two words, as a difference
pub wide-diff : (a b lo : ℕ) → wide_of (diff a b) lo ≡ diff (a * 2 ^ 64 + lo) (b * 2 ^ 64)
wide-diff a b lo = ap (λ (z : ℤ). z +ℤ pos lo) (diff-scale a b (2 ^ 64)) ∙ add-pos (a * 2 ^ 64) (b * 2 ^ 64) lo

-- its negative
pub negate-even : (h : ℕ) → wide_of (pos 0 -ℤ pos h) 0 ≡ neg_ℤ (pos (h * 2 ^ 64 + 0))
negate-even h =
    ap (λ (z : ℤ). wide_of z 0) (zero_minus h) ∙ wide-diff 0 h 0
    ∙ diff-eq (0 * 2 ^ 64 + 0) (h * 2 ^ 64) 0 (h * 2 ^ 64 + 0) (omega arith) ∙ sym (neg-diff (h * 2 ^ 64 + 0))

pub negate-odd : (h lo : ℕ) → 0 < lo → lo < 2 ^ 64 → wide_of (pos 0 -ℤ pos h -ℤ pos 1) (18446744073709551615 - lo + 1) ≡ neg_ℤ (pos (h * 2 ^ 64 + lo))
negate-odd h lo p q =
    ap (λ (z : ℤ). wide_of (z -ℤ pos 1) (18446744073709551615 - lo + 1)) (zero_minus h)
    ∙ ap (λ (z : ℤ). wide_of z (18446744073709551615 - lo + 1)) (minus_pos 0 h 1)
    ∙ wide-diff 0 (h + 1) (18446744073709551615 - lo + 1)
    ∙ diff-eq (0 * 2 ^ 64 + (18446744073709551615 - lo + 1)) ((h + 1) * 2 ^ 64) 0 (h * 2 ^ 64 + lo) (omega arith) ∙ sym (neg-diff (h * 2 ^ 64 + lo))

pub negated_fits : (h : ℕ) → h ≤ 2 ^ 62 → mag (pos 0 -ℤ pos h) < 2 ^ 63
negated_fits h p = subst (λ (z : ℤ). mag z < 2 ^ 63) (sym (zero_minus h)) (diff-mag 0 h (2 ^ 63) (omega arith) (omega arith))

pub lowered-fits : (h : ℕ) → h ≤ 2 ^ 62 → mag (pos 0 -ℤ pos h -ℤ pos 1) < 2 ^ 63
lowered-fits h p = subst (λ (z : ℤ). mag z < 2 ^ 63) (sym (ap (λ (z : ℤ). z -ℤ pos 1) (zero_minus h) ∙ minus_pos 0 h 1)) (diff-mag 0 (h + 1) (2 ^ 63) (omega arith) (omega arith))

pub abs-signed : (t : Bool) (z : ℤ) → nat_abs (signed_by t z) ≡ nat_abs z
abs-signed true (pos zero) = refl
abs-signed true (pos (suc n)) = refl
abs-signed true (negsuc n) = refl
abs-signed false z = refl
