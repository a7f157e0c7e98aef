-- How far two texts begin alike.
use Prim.Native.Nat.{ℕ, zero, suc, ◌+◌, ◌≤◌, ◌<◌}
use mathlib.Core.Path.{◌≡◌, refl, sym, ap, ◌∙◌}
use mathlib.Core.List.{List, [], ◌∷◌, ◌++◌}
use native.Mathlib.Omega.{arith}
use native.Mathlib.Decide.{ℕ_discrete}
use borrow.Author.Tests.{eq-eqb, ne_eqb}
use lib.ListN.{length, take, drop}
use Rattle.grammar.specs.Follow.{common_prefix}

-- the two cases of a first byte
pub common-same : (a : ℕ) (w s : List ℕ) → common_prefix (a ∷ w) (a ∷ s) ≡ suc (common_prefix w s)
unfolding common_prefix
common-same a w s = rw (eq-eqb a a refl)

pub common-other : (a b : ℕ) (w s : List ℕ) → (a ≡ b → ⊥) → common_prefix (a ∷ w) (b ∷ s) ≡ 0
unfolding common_prefix
common-other a b w s h = rw (ne_eqb a b h)

pub common-none : (w : List ℕ) → common_prefix w [] ≡ 0
unfolding common_prefix
common-none [] = refl
common-none (a ∷ w) = refl

pub common-nil : (s : List ℕ) → common_prefix [] s ≡ 0
unfolding common_prefix
common-nil s = refl

-- by the first bytes of both
pub by_first : (a b : ℕ) (w s : List ℕ) (P : ℕ → Type 0) → (a ≡ b → P (suc (common_prefix w s))) → ((a ≡ b → ⊥) → P 0) → P (common_prefix (a ∷ w) (b ∷ s))
by_first a b w s P f g =
    elim (ℕ_discrete a b) [
      | yes e ↦ rw (ap (λ (x : ℕ). common_prefix (a ∷ w) (x ∷ s)) (sym e) ∙ common-same a w s) (f e)
      | no n ↦ rw (common-other a b w s n) (g n)
    ]

pub common-le : (w s : List ℕ) → common_prefix w s ≤ length w
common-le [] s = rw (common-nil s) (omega arith)
common-le (a ∷ w) [] = rw (common-none (a ∷ w)) (omega arith)
common-le (a ∷ w) (b ∷ s) = by_first a b w s (λ n. n ≤ suc (length w)) (λ e. omega (arith, common-le w s)) (λ n. omega arith)

-- a text that is not followed to its end: what comes after it does not count
pub common-short : (w t s : List ℕ) → common_prefix w s < length w → common_prefix (w ++ t) s ≡ common_prefix w s
common-short [] t s h = absurd (omega (arith, common-nil s))
common-short (a ∷ w) t [] h = common-none (a ∷ w ++ t) ∙ sym (common-none (a ∷ w))
common-short (a ∷ w) t (b ∷ s) h =
    elim (ℕ_discrete a b) [
      | yes e ↦
          let p : common_prefix (a ∷ w) (b ∷ s) ≡ suc (common_prefix w s) = ap (λ (x : ℕ). common_prefix (a ∷ w) (x ∷ s)) (sym e) ∙ common-same a w s in
          let q : common_prefix (a ∷ w ++ t) (b ∷ s) ≡ suc (common_prefix (w ++ t) s) = ap (λ (x : ℕ). common_prefix (a ∷ w ++ t) (x ∷ s)) (sym e) ∙ common-same a (w ++ t) s in
          q ∙ ap suc (common-short w t s (omega arith)) ∙ sym p
      | no n ↦ common-other a b (w ++ t) s n ∙ sym (common-other a b w s n)
    ]

-- a text that is followed to its end: what comes after it goes on from there
pub common-long : (w t s : List ℕ) → common_prefix w s ≡ length w → common_prefix (w ++ t) s ≡ length w + common_prefix t (drop (length w) s)
common-long [] t s h = omega arith
common-long (a ∷ w) t [] h = absurd (omega (arith, common-none (a ∷ w)))
common-long (a ∷ w) t (b ∷ s) h =
    elim (ℕ_discrete a b) [
      | yes e ↦
          let p : common_prefix (a ∷ w) (b ∷ s) ≡ suc (common_prefix w s) = ap (λ (x : ℕ). common_prefix (a ∷ w) (x ∷ s)) (sym e) ∙ common-same a w s in
          let q : common_prefix (a ∷ w ++ t) (b ∷ s) ≡ suc (common_prefix (w ++ t) s) = ap (λ (x : ℕ). common_prefix (a ∷ w ++ t) (x ∷ s)) (sym e) ∙ common-same a (w ++ t) s in
          omega (arith, common-long w t s (omega arith))
      | no n ↦ absurd (omega (arith, common-other a b w s n))
    ]

-- followed to its end: it is the text's beginning
pub common-all : (w s : List ℕ) → common_prefix w s ≡ length w → w ++ drop (length w) s ≡ s
common-all [] s h = refl
common-all (a ∷ w) [] h = absurd (omega (arith, common-none (a ∷ w)))
common-all (a ∷ w) (b ∷ s) h =
    elim (ℕ_discrete a b) [
      | yes e ↦
          let p : common_prefix (a ∷ w) (b ∷ s) ≡ suc (common_prefix w s) = ap (λ (x : ℕ). common_prefix (a ∷ w) (x ∷ s)) (sym e) ∙ common-same a w s in
          let q : w ++ drop (length w) s ≡ s = common-all w s (omega arith) in
          cc
      | no n ↦ absurd (omega (arith, common-other a b w s n))
    ]

pub common-own : (w t : List ℕ) → common_prefix w (w ++ t) ≡ length w
common-own [] t = common-nil t
common-own (a ∷ w) t = common-same a w (w ++ t) ∙ ap suc (common-own w t)

pub common-le-right : (w s : List ℕ) → common_prefix w s ≤ length s
common-le-right [] s = rw (common-nil s) (omega arith)
common-le-right (a ∷ w) [] = rw (common-none (a ∷ w)) (omega arith)
common-le-right (a ∷ w) (b ∷ s) = by_first a b w s (λ n. n ≤ suc (length s)) (λ e. omega (arith, common-le-right w s)) (λ n. omega arith)

-- a text begins as the other does, so far
pub common-take : (w s : List ℕ) → w ≡ take (common_prefix w s) s ++ drop (common_prefix w s) w
common-take [] s = rw (common-nil s)
common-take (a ∷ w) [] = rw (common-none (a ∷ w))
common-take (a ∷ w) (b ∷ s) =
    by_first a b w s (λ n. a ∷ w ≡ take n (b ∷ s) ++ drop n (a ∷ w))
    (λ e. let k : w ≡ take (common_prefix w s) s ++ drop (common_prefix w s) w = common-take w s in cc)
    (λ n. refl)

-- and what begins so goes as far
pub common-begins : (j : ℕ) (s rest : List ℕ) → j ≤ length s → j ≤ common_prefix (take j s ++ rest) s
common-begins zero s rest h = omega arith
common-begins (suc j) [] rest h = absurd (omega arith)
common-begins (suc j) (a ∷ s) rest h = omega (arith, common-same a (take j s ++ rest) s, common-begins j s rest (omega arith))
