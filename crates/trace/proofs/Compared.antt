-- The comparison of two files of one size. `compared-differs`, `compared_same`: what is told is the first byte that differs, if there is one.
-- `first-difference`: there is one, or the files are the same. Assumes nothing.
use mathlib.Core.Path.{◌≡◌, refl, ap, ap₂, ◌∙◌}
use mathlib.Core.List.{List, [], ◌∷◌}
use Prim.Native.Nat.{ℕ, zero, suc, ◌+◌, ◌<◌}
use native.Mathlib.Nat.{add-zero}
use native.Mathlib.Omega.{arith}
use lib.Dec.{eqb}
use lib.ListN.{length, get_or}
use borrow.Author.Tests.{eqb-true, eqb-false, eq-eqb, ne_eqb}
use Rattle.isa.proofs.File.{cases}
use Rattle.trace.specs.Verdict.{compared}
use Rattle.trace.specs.Returned.{FirstDifference}
use Rattle.trace.specs.declared.types.Verdict.{Verdict}

module _ (v : Verdict) where
  pub compared_same : (xs ys : List ℕ) (k : ℕ) → length ys ≡ length xs → ((i : ℕ) → i < length xs → get_or xs i 0 ≡ get_or ys i 0) → compared k xs ys v ≡ v
  unfolding compared
  compared_same [] ys k e same = refl
  compared_same (x ∷ xs) [] k e same = refl
  compared_same (x ∷ xs) (y ∷ ys) k e same =
      rw (eq-eqb x y (same 0 (omega arith))) (compared_same xs ys (suc k) (omega arith) (λ i l. same (suc i) (omega arith)))

  pub compared-differs : (xs ys : List ℕ) (k n : ℕ) → length ys ≡ length xs → n < length xs → ((i : ℕ) → i < n → get_or xs i 0 ≡ get_or ys i 0) →
      (get_or xs n 0 ≡ get_or ys n 0 → ⊥) → compared k xs ys v ≡ Verdict.FileDiffers (k + n) (get_or xs n 0)
  unfolding compared
  compared-differs [] ys k n e l same here = absurd (omega arith)
  compared-differs (x ∷ xs) [] k n e l same here = absurd (omega arith)
  compared-differs (x ∷ xs) (y ∷ ys) k zero e l same here = rw (ne_eqb x y here, add-zero k)
  compared-differs (x ∷ xs) (y ∷ ys) k (suc n) e l same here =
      let place : suc k + n ≡ k + suc n = omega arith in
      rw (eq-eqb x y (same 0 (omega arith)))
      (compared-differs xs ys (suc k) n (omega arith) (omega arith) (λ i b. same (suc i) (omega arith)) here ∙ ap (λ (m : ℕ). Verdict.FileDiffers m (get_or xs n 0)) place)

-- two files of one size are the same, or there is a byte in which they first differ
pub first-difference : {A : Type 0} (xs ys : List ℕ) → length xs ≡ length ys → (xs ≡ ys → A) → ((i : ℕ) → FirstDifference i xs ys → A) → A
first-difference [] [] e same other = same refl
first-difference [] (y ∷ ys) e same other = absurd (omega arith)
first-difference (x ∷ xs) [] e same other = absurd (omega arith)
first-difference (x ∷ xs) (y ∷ ys) e same other =
    cases (eqb x y)
    (λ h. first-difference xs ys (omega arith) (λ p. same (ap₂ ◌∷◌ (eqb-true x y h) p))
    (λ i d. other (suc i) (record { within = omega (arith, d.within); earlier = later (eqb-true x y h) i d.earlier; here = d.here })))
    (λ h. other 0 (record { within = omega arith; earlier = (λ j l. absurd (omega arith)); here = eqb-false x y h }))
  where
    later : x ≡ y → (i : ℕ) → ((j : ℕ) → j < i → get_or xs j 0 ≡ get_or ys j 0) → (j : ℕ) → j < suc i → get_or (x ∷ xs) j 0 ≡ get_or (y ∷ ys) j 0
    later p i earlier zero l = p
    later p i earlier (suc j) l = earlier j (omega arith)
