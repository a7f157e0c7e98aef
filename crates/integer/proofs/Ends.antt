-- The end that a sum of N bits meets, told by signs: of its summands, and of the wrapped sum.
-- Assumes nothing.
use mathlib.Core.Path.{◌≡◌, refl, sym, ap, ◌∙◌}
use mathlib.Core.Bool.{Bool, true, false, not, cond, ◌&&◌, ◌||◌, beq, true≢false}
use Prim.Native.Nat.{ℕ, zero, suc, ◌+◌, ◌-◌, ◌^◌, ◌≤◌, ◌<◌}
use native.Mathlib.Nat.{mod-eq_of_lt}
use native.Mathlib.Omega.{arith}
use borrow.Author.Tests.{ltb-true, ltb-false, lt-ltb, le-ltb}
use lib.Dec.{ltb}
use lib.IntN.{ℤ, pos, negsuc, neg_ℤ, nat_abs, ◌+ℤ◌}
use lib.Pow.{pow_pos}
use lib.Signed.{lt_z, mag, nat_abs-le}
use Rattle.integer.specs.Number.{signed, pattern, wrap, lowest, highest, clamp_to, clamp, signed_by}
use Rattle.integer.proofs.Difference.{diff, diff-add, diff-mag, add-pos, neg-diff, as-diff, is-neg}
use Rattle.integer.proofs.Word.{signed_low, signed_high}
use Rattle.integer.proofs.Round.{clamp-inside}
use Rattle.integer.proofs.Wrap.{in-range, double}

-- ---- a number that is outside at one end only

or-false : (t : Bool) → t || false ≡ t
or-false true = refl
or-false false = refl

pub neither : (a b : Bool) → a || b ≡ false → (a ≡ false) × (b ≡ false)
neither true b e = absurd (true≢false e)
neither false b e = (refl, e)

module _ (N : ℕ) (z : ℤ) (out : lt_z z (lowest N) || lt_z (highest N) z ≡ true) where
  pub end_low : lt_z (highest N) z ≡ false → lowest N ≡ clamp N z
  unfolding clamp_to
  end_low h = let e : lt_z z (lowest N) ≡ true = sym (or-false (lt_z z (lowest N))) ∙ (rw h at out) in rw e

  pub end-high : lt_z z (lowest N) ≡ false → highest N ≡ clamp N z
  unfolding clamp_to
  end-high h = let e : lt_z (highest N) z ≡ true = rw h at out in rw (h, e)

-- ---- a sum, by the signs of c, of what is added and of the wrapped sum

-- both summands have one sign and the wrapped sum z the other, where c and t say which summands are negative
abbrev turns : ℕ → Bool → Bool → ℤ → Bool
turns N c t z = beq c t && not (beq (lt_z (wrap N z) (pos 0)) c)

-- what is taken of the sum
abbrev by_signs : ℕ → Bool → Bool → ℤ → ℤ
by_signs N c t z = cond (turns N c t z) (cond c (lowest N) (highest N)) (wrap N z)

-- the sign of what is added, and its size. The negative of zero counts as negative, and turns no sign
sign_of : (b : ℤ) (minus : Bool) → signed_by minus b ≡ signed_by (not (beq (lt_z b (pos 0)) minus)) (pos (nat_abs b))
sign_of (pos y) true = rw (le-ltb y 0 (omega arith))
sign_of (pos y) false = rw (le-ltb y 0 (omega arith))
sign_of (negsuc y) true = refl
sign_of (negsuc y) false = refl

-- the ends' tests
over-low : (a H : ℕ) → lt_z (pos a) (neg_ℤ (pos H)) ≡ false
over-low a zero = le-ltb a 0 (omega arith)
over-low a (suc H) = refl

under_low : (a H : ℕ) → 0 < H → H ≤ a → lt_z (negsuc a) (neg_ℤ (pos H)) ≡ true
under_low a zero h l = absurd (omega arith)
under_low a (suc H) h l = lt-ltb H a (omega arith)

module _ (N : ℕ) (some : 0 < N) where
  -- the sum of two numbers that are not negative
  over : (a : ℕ) → a < 2 ^ N → by_signs N false false (pos a) ≡ clamp N (pos a)
  unfolding clamp_to wrap pattern
  over a h = by-test (ltb a (2 ^ (N - 1))) refl
    where
      by-test : (t : Bool) → ltb a (2 ^ (N - 1)) ≡ t → by_signs N false false (pos a) ≡ clamp N (pos a)
      by-test true e =
          let l : a < 2 ^ (N - 1) = ltb-true a (2 ^ (N - 1)) e in
          rw (in-range N some (pos a) l, le-ltb a 0 (omega arith)) (sym (clamp-inside N (pos a) l))
      by-test false e =
          let l : 2 ^ (N - 1) ≤ a = ltb-false a (2 ^ (N - 1)) e in
          let r : wrap N (pos a) ≡ negsuc (2 ^ N - 1 - a) = ap (signed N) (mod-eq_of_lt h) ∙ sym (signed_high N a l h) in
          rw (r, over-low a (2 ^ (N - 1)), lt-ltb (2 ^ (N - 1) - 1) a (omega (arith, pow_pos (N - 1))))

  -- of two that are negative
  under : (a : ℕ) → a < 2 ^ N → by_signs N true true (negsuc a) ≡ clamp N (negsuc a)
  unfolding clamp_to wrap pattern
  under a h = by-test (ltb a (2 ^ (N - 1))) refl
    where
      by-test : (t : Bool) → ltb a (2 ^ (N - 1)) ≡ t → by_signs N true true (negsuc a) ≡ clamp N (negsuc a)
      by-test true e =
          let l : a < 2 ^ (N - 1) = ltb-true a (2 ^ (N - 1)) e in
          rw (in-range N some (negsuc a) l) (sym (clamp-inside N (negsuc a) l))
      by-test false e =
          let l : 2 ^ (N - 1) ≤ a = ltb-false a (2 ^ (N - 1)) e in
          let r : wrap N (negsuc a) ≡ pos (2 ^ N - suc a) = ap (λ (n : ℕ). signed N (2 ^ N - suc n)) (mod-eq_of_lt h) ∙ sym (signed_low N (2 ^ N - suc a) (omega (arith, double N some))) in
          rw (r, le-ltb (2 ^ N - suc a) 0 (omega arith), under_low a (2 ^ (N - 1)) (pow_pos (N - 1)) l)

  -- of one of each
  apart : (a b : ℕ) {z : ℤ} → z ≡ diff a b → a < b + 2 ^ (N - 1) → b ≤ a + 2 ^ (N - 1) → wrap N z ≡ clamp N z
  apart a b {z} e h k =
      let l : mag z < 2 ^ (N - 1) = rw e (diff-mag a b (2 ^ (N - 1)) h k) in
      in-range N some z l ∙ sym (clamp-inside N z l)

  added : (c : ℤ) (t : Bool) (y : ℕ) → mag c < 2 ^ (N - 1) → y ≤ 2 ^ (N - 1) → by_signs N (lt_z c (pos 0)) t (c +ℤ signed_by t (pos y)) ≡ clamp N (c +ℤ signed_by t (pos y))
  added (pos x) false y h k = rw (le-ltb x 0 (omega arith)) (over (x + y) (omega (arith, double N some)))
  added (pos x) true y h k = rw (le-ltb x 0 (omega arith)) (apart (x + 0) (0 + y) (ap (λ (z : ℤ). pos x +ℤ z) (neg-diff y) ∙ ap (λ (z : ℤ). z +ℤ diff 0 y) (as-diff (pos x)) ∙ diff-add x 0 0 y) (omega arith) (omega arith))
  added (negsuc x) false y h k = apart (0 + y) (suc x) (ap (λ (z : ℤ). z +ℤ pos y) (as-diff (negsuc x)) ∙ add-pos 0 (suc x) y) (omega arith) (omega arith)
  added (negsuc x) true y h k =
      let e : negsuc x +ℤ neg_ℤ (pos y) ≡ negsuc (x + y) = ap (λ (z : ℤ). negsuc x +ℤ z) (neg-diff y) ∙ ap (λ (z : ℤ). z +ℤ diff 0 y) (as-diff (negsuc x)) ∙ diff-add 0 (suc x) 0 y ∙ is-neg (0 + 0) (suc x + y) (x + y) (omega arith) in
      rw e (under (x + y) (omega (arith, double N some)))

  module _ (c b : ℤ) (minus : Bool) (h : mag c < 2 ^ (N - 1)) (k : mag b < 2 ^ (N - 1)) where
    by-signs : by_signs N (lt_z c (pos 0)) (not (beq (lt_z b (pos 0)) minus)) (c +ℤ signed_by minus b) ≡ clamp N (c +ℤ signed_by minus b)
    by-signs = rw (sign_of b minus) (added c (not (beq (lt_z b (pos 0)) minus)) (nat_abs b) h (nat_abs-le b k))

    -- the sum has turned its sign, or not
    pub sum-turned : turns N (lt_z c (pos 0)) (not (beq (lt_z b (pos 0)) minus)) (c +ℤ signed_by minus b) ≡ true → cond (lt_z c (pos 0)) (lowest N) (highest N) ≡ clamp N (c +ℤ signed_by minus b)
    sum-turned t = rw t at by-signs

    pub sum_kept : turns N (lt_z c (pos 0)) (not (beq (lt_z b (pos 0)) minus)) (c +ℤ signed_by minus b) ≡ false → wrap N (c +ℤ signed_by minus b) ≡ clamp N (c +ℤ signed_by minus b)
    sum_kept t = rw t at by-signs
