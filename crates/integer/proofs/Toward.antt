-- A clamp whose end is picked by the sign of another number t, and the sums of which t is a part.
-- Assumes nothing.
use mathlib.Core.Path.{◌≡◌, refl, sym, ap, ap₂, subst, ◌∙◌}
use mathlib.Core.Bool.{Bool, true, false, cond}
use Prim.Native.Nat.{ℕ, zero, suc, ◌+◌, ◌-◌, ◌^◌, ◌≤◌, ◌<◌}
use native.Mathlib.Omega.{arith}
use borrow.Author.Tests.{ltb-true, lt-ltb, le-ltb}
use lib.Dec.{ltb, T}
use lib.IntN.{ℤ, pos, negsuc, neg_ℤ, nat_abs, ◌+ℤ◌, +ℤ_comm}
use lib.Pow.{pow_pos}
use lib.Signed.{lt_z, mag}
use mir.Syntax.{Width}
use mir.Val.{bits, SFits, to_z, of_z}
use mir.Facts.{to_z-of_z}
use Rattle.integer.specs.Number.{clamp_to, clamp, clamps, end_to, changed, pick_end, raised, cut_down, neither, lowest, highest, signed_by}
use Rattle.integer.specs.Lane.{Toward}
use Rattle.integer.proofs.Round.{within}
use Rattle.integer.proofs.Bits.{half}
use Rattle.integer.proofs.Difference.{diff, diff-add, diff-lt, diff-abs, neg-diff, pos-diff, all}

-- ---- the end of the clamp

module _ {N : ℕ} {x t : ℤ} (h : Toward N x t) where
  end_low : lt_z t (pos 0) ≡ true → clamps N x ≡ true → lowest N ≡ clamp N x
  unfolding clamp_to end_to
  end_low s o = by_tests (lt_z x (lowest N)) (lt_z (highest N) x) refl o
    where
      by_tests : (p q : Bool) → lt_z (highest N) x ≡ q → changed (pick_end p raised (pick_end q cut_down neither)) ≡ true → lowest N ≡ cond p (lowest N) (cond q (highest N) x)
      by_tests true q e o = refl
      by_tests false true e o = let no = h.above e in cc
      by_tests false false e o = cc

  end-high : lt_z t (pos 0) ≡ false → clamps N x ≡ true → highest N ≡ clamp N x
  unfolding clamp_to end_to
  end-high s o = by_tests (lt_z x (lowest N)) (lt_z (highest N) x) refl o
    where
      by_tests : (p q : Bool) → lt_z x (lowest N) ≡ p → changed (pick_end p raised (pick_end q cut_down neither)) ≡ true → highest N ≡ cond p (lowest N) (cond q (highest N) x)
      by_tests true q e o = let no = h.below e in cc
      by_tests false true e o = refl
      by_tests false false e o = cc

inside : (N : ℕ) (x : ℤ) → clamps N x ≡ false → (mag x < 2 ^ (N - 1)) × (x ≡ clamp N x)
unfolding clamp_to end_to
inside N x o = by_tests (lt_z x (lowest N)) (lt_z (highest N) x) refl refl o
  where
    by_tests : (p q : Bool) → lt_z x (lowest N) ≡ p → lt_z (highest N) x ≡ q → changed (pick_end p raised (pick_end q cut_down neither)) ≡ false → (mag x < 2 ^ (N - 1)) × (x ≡ cond p (lowest N) (cond q (highest N) x))
    by_tests true q e g o = absurd (subst T o tt)
    by_tests false true e g o = absurd (subst T o tt)
    by_tests false false e g o = (within x (2 ^ (N - 1)) (pow_pos (N - 1)) e g, refl)

-- what the code reads: x and t are of the width w, o is the test whether x has no place in n, and z the end that the sign of t gives
module _ (n : Width) {w : Width} {x : ℤ} (f : SFits w x) {o : Bool} (e : o ≡ clamps (bits n) (to_z w (of_z w x))) where
  tested : {k : Bool} → o ≡ k → clamps (bits n) x ≡ k
  tested p = sym (e ∙ ap (clamps (bits n)) (to_z-of_z f)) ∙ p

  module _ {t : ℤ} (g : SFits w t) (h : Toward (bits n) x t) (p : o ≡ true) {z : ℤ} where
    pub clamp-toward-low : lt_z (to_z w (of_z w t)) (pos 0) ≡ true → z ≡ lowest (bits n) → z ≡ clamp (bits n) x
    clamp-toward-low s q = q ∙ end_low h (simp (to_z-of_z g) at s) (tested p)

    pub clamp-toward-high : lt_z (to_z w (of_z w t)) (pos 0) ≡ false → z ≡ highest (bits n) → z ≡ clamp (bits n) x
    clamp-toward-high s q = q ∙ end-high h (simp (to_z-of_z g) at s) (tested p)

  module _ (p : o ≡ false) where
    fits-inside : SFits n x
    fits-inside = record { sfits = subst (λ (P : ℕ). mag x < P) (half n) (inside (bits n) x (tested p)).0 }

    pub clamp-toward-fits : SFits n (to_z w (of_z w x))
    clamp-toward-fits = simp (to_z-of_z f) fits-inside

    pub clamp-toward-inside : to_z n (of_z n (to_z w (of_z w x))) ≡ clamp (bits n) x
    clamp-toward-inside = ap (λ (z : ℤ). to_z n (of_z n z)) (to_z-of_z f) ∙ to_z-of_z fits-inside ∙ (inside (bits n) x (tested p)).1

-- ---- a sum with a number that is no larger than the range has room: the other part picks the end

module _ (P : ℕ) (a b c e : ℕ) where
  sign : lt_z (diff c e) (pos 0) ≡ ltb (c + 0) (0 + e)
  sign = ap (lt_z (diff c e)) (pos-diff 0) ∙ diff-lt c e 0 0

  past_top : 0 < P → a ≤ b + P → lt_z (pos (P - 1)) (diff a b +ℤ diff c e) ≡ true → lt_z (diff c e) (pos 0) ≡ false
  past_top l k h =
      let test : lt_z (pos (P - 1)) (diff a b +ℤ diff c e) ≡ ltb (P - 1 + (b + e)) (a + c + 0) = ap₂ lt_z (pos-diff (P - 1)) (diff-add a b c e) ∙ diff-lt (P - 1) 0 (a + c) (b + e) in
      sign ∙ le-ltb (c + 0) (0 + e) (omega (arith, ltb-true (P - 1 + (b + e)) (a + c + 0) (sym test ∙ h)))

  past-bottom : b ≤ a + P → lt_z (diff a b +ℤ diff c e) (neg_ℤ (pos P)) ≡ true → lt_z (diff c e) (pos 0) ≡ true
  past-bottom k h =
      let test : lt_z (diff a b +ℤ diff c e) (neg_ℤ (pos P)) ≡ ltb (a + c + P) (0 + (b + e)) = ap₂ lt_z (diff-add a b c e) (neg-diff P) ∙ diff-lt (a + c) (b + e) 0 P in
      sign ∙ lt-ltb (c + 0) (0 + e) (omega (arith, ltb-true (a + c + P) (0 + (b + e)) (sym test ∙ h)))

pub toward : (N : ℕ) (d t : ℤ) → nat_abs d ≤ 2 ^ (N - 1) → Toward N (d +ℤ t) t
toward N d t h =
    all (λ d. nat_abs d ≤ 2 ^ (N - 1) → Toward N (d +ℤ t) t)
    (λ a b h. all (λ t. Toward N (diff a b +ℤ t) t)
    (λ c e.
    let r = diff-abs a b (2 ^ (N - 1)) h in
    record { above = past_top (2 ^ (N - 1)) a b c e (pow_pos (N - 1)) r.0; below = past-bottom (2 ^ (N - 1)) a b c e r.1 }) t) d h

pub abs-signed : (minus : Bool) (z : ℤ) → nat_abs (signed_by minus z) ≡ nat_abs z
abs-signed false z = refl
abs-signed true (pos zero) = refl
abs-signed true (pos (suc n)) = refl
abs-signed true (negsuc n) = refl

-- the addend picks it
pub toward-addend : (N : ℕ) (minus : Bool) (c b : ℤ) → nat_abs b ≤ 2 ^ (N - 1) → Toward N (c +ℤ signed_by minus b) c
toward-addend N minus c b h = rw (+ℤ_comm c (signed_by minus b)) (toward N (signed_by minus b) c (rw (abs-signed minus b) h))
