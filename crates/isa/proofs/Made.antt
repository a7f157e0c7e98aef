-- A loop that makes a list from the front, one store after the other: after n stores the first n elements are those of f.
-- Assumes nothing.
use mathlib.Core.Path.{◌≡◌, refl, sym, ap, ◌∙◌, subst}
use mathlib.Core.Bool.{Bool, true, false, cond}
use mathlib.Core.List.{List}
use Prim.Native.Nat.{ℕ, zero, suc, ◌+◌, ◌≤◌, ◌<◌}
use native.Mathlib.Omega.{arith}
use native.Mathlib.Decide.{ℕ_discrete}
use borrow.Author.Tests.{ltb-true, ltb-false}
use lib.Dec.{ltb}
use lib.ListN.{get_or, set, length, length-set, replicate, length-replicate}
use lib.Seq.{get_or-set_same, get_or-set_other}

pub record Made {A : Type 0} (d : A) (size n : ℕ) (f : ℕ → A) (r : List A) : Type 0 where
  pub within : n ≤ size
  pub sized : length r ≡ size
  pub at : (k : ℕ) → k < n → get_or r k d ≡ f k

module _ {A : Type 0} {d : A} {size : ℕ} {f : ℕ → A} where
  pub made_none : {r : List A} → length r ≡ size → Made d size 0 f r
  made_none e = record { within = omega arith; sized = e; at = (λ k h. absurd (no k h)) }
    where
      no : (k : ℕ) → k < 0 → ⊥
      no k h = omega arith

  pub made_more : {n : ℕ} {r : List A} → Made d size n f r → n < size → (v : A) → v ≡ f n → Made d size (n + 1) f (set r n v)
  made_more {n} {r} m l v e =
      record { within = omega arith; sized = length-set r n v ∙ m.sized; at = (λ k h. by_place k h (ℕ_discrete k n)) }
    where
      by_place : (k : ℕ) → k < n + 1 → Dec (k ≡ n) → get_or (set r n v) k d ≡ f k
      by_place k h (yes p) =
          ap (λ (j : ℕ). get_or (set r n v) j d) p ∙ get_or-set_same r n v d (subst (λ (j : ℕ). n < j) (sym m.sized) l) ∙ e ∙ ap f (sym p)
      by_place k h (no p) = get_or-set_other r n k v d p ∙ m.at k (omega (arith, p))

  -- the loop has ended
  pub made_all : {n : ℕ} {r : List A} → Made d size n f r → size ≤ n → (k : ℕ) → k < size → get_or r k d ≡ f k
  made_all m l k h = m.at k (omega arith)

  -- the same number of stores, written otherwise
  pub made_as : {n : ℕ} (j : ℕ) {r : List A} → Made d size n f r → n ≡ j → Made d size j f r
  made_as {n} j {r} m e = subst (λ (i : ℕ). Made d size i f r) e m

-- the same for the first `count` elements only: the others stay d
pub record Begun {A : Type 0} (d : A) (size count n : ℕ) (f : ℕ → A) (r : List A) : Type 0 where
  pub made : Made d size n f r
  pub below : n ≤ count
  pub rest : (k : ℕ) → n ≤ k → get_or r k d ≡ d

pub all_same : {A : Type 0} (d : A) (n k : ℕ) → get_or (replicate n d) k d ≡ d
all_same d zero k = refl
all_same d (suc n) zero = refl
all_same d (suc n) (suc k) = all_same d n k

module _ {A : Type 0} {d : A} {count : ℕ} {f : ℕ → A} where
  pub begun-none : (size : ℕ) → Begun d size count 0 f (replicate size d)
  begun-none size = record { made = made_none (length-replicate size d); below = omega arith; rest = (λ k h. all_same d size k) }

  module _ {size n : ℕ} {r : List A} (b : Begun d size count n f r) where
    pub begun_more : n < count → count ≤ size → (v : A) → v ≡ f n → Begun d size count (n + 1) f (set r n v)
    begun_more h l v e =
        record { made = made_more b.made (omega arith) v e; below = omega arith; rest = (λ k p. get_or-set_other r n k v d (λ q. other k p q) ∙ b.rest k (omega arith)) }
      where
        other : (k : ℕ) → n + 1 ≤ k → k ≡ n → ⊥
        other k p q = omega arith

    pub begun_all : count ≤ n → (k : ℕ) → get_or r k d ≡ cond (ltb k count) (f k) d
    begun_all l k = by-test (ltb k count) refl
      where
        by-test : (t : Bool) → ltb k count ≡ t → get_or r k d ≡ cond t (f k) d
        by-test true p = b.made.at k (omega (arith, ltb-true k count p))
        by-test false p = b.rest k (omega (arith, b.below, ltb-false k count p))
