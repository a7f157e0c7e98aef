-- The table of contents. `contents-exact`: it is allowed exactly where it is whole, its number of cases is, and each entry is. `contents-numbers`: and where
-- it is whole and each of its numbers is. `begins-short`: a body starts within a bound. `begins-mono`: bodies start at rising places. `body-within`: each body
-- ends at or before the end of the last. Assumes nothing.
use mathlib.Core.Path.{◌≡◌, refl, sym, ◌∙◌}
use mathlib.Core.Logic.{◌↔◌}
use mathlib.Core.List.{List}
use mathlib.Core.Bool.{Bool, true, false, ◌&&◌}
use Prim.Native.Nat.{ℕ, zero, suc, ◌+◌, ◌*◌, ◌-◌, ◌/◌, ◌%◌, ◌<◌, ◌≤◌}
use native.Mathlib.Nat.{add-zero, add-suc}
use native.Mathlib.Omega.{arith}
use lib.Dec.{leb, eqb}
use lib.ListN.{length}
use borrow.Author.Tests.{leb-true, eqb-true, eqb-false, le-leb, eq-eqb}
use Rattle.isa.proofs.File.{legal-exact, cases}
use Rattle.isa.proofs.Fields.{and_left, and_right}
use Rattle.trace.specs.Trace.{cases_of, length_at, count_at, contents_size, body_size, begins, total_of, field_allowed, number_allowed, allowed, contents_allowed, total_allowed}
use Rattle.trace.specs.Returned.{EntryAllowed, ContentsAllowed, TotalAllowed}

pub and_both : {a b : Bool} → a ≡ true → b ≡ true → (a && b) ≡ true
and_both e f = rw (e, f)

pub refused : {A : Type 0} {t : Bool} → ((t ≡ true) ↔ A) → (A → ⊥) → t ≡ false
refused {t = t} e bad = cases t (λ h. absurd (bad (e.0 h))) (λ h. h)

module _ (t : List ℕ) where
  -- ---- number by number

  number-field : (f k : ℕ) → f < 3 → number_allowed t (suc (3 * k + f)) ≡ field_allowed f t k
  unfolding number_allowed
  number-field f k l =
      let r : (3 * k + f) % 3 ≡ f = omega arith in
      let q : (3 * k + f) / 3 ≡ k = omega arith in
      rw (r, q)

  allowed_at : (n i : ℕ) → allowed t n ≡ true → i < n → number_allowed t i ≡ true
  unfolding allowed
  allowed_at zero i e l = absurd (omega arith)
  allowed_at (suc n) i e l =
      cases (eqb i n)
      (λ same. rw (eqb-true i n same) (and_right (allowed t n) (number_allowed t n) e))
      (λ other. let ne = eqb-false i n other in allowed_at n i (and_left (allowed t n) (number_allowed t n) e) (omega (arith, ne)))

  allowed_all : (n : ℕ) → ((i : ℕ) → i < n → number_allowed t i ≡ true) → allowed t n ≡ true
  unfolding allowed
  allowed_all zero f = refl
  allowed_all (suc n) f = and_both (allowed_all n (λ i l. f i (omega arith))) (f n (omega arith))

  pub contents-numbers : (contents_allowed t ≡ true) ↔ ((contents_size t ≤ length t) × ((i : ℕ) → i < 1 + 3 * cases_of t → number_allowed t i ≡ true))
  unfolding contents_allowed
  contents-numbers =
      let n : ℕ = 1 + 3 * cases_of t in
      let whole = leb (contents_size t) (length t) in (
        (λ e. (leb-true _ _ (and_left whole (allowed t n) e), λ i l. allowed_at n i (and_right whole (allowed t n) e) l)),
        (λ p. and_both (le-leb _ _ p.0) (allowed_all n p.1)),
      )

  -- ---- entry by entry

  field-allowed : (k : ℕ) → EntryAllowed t k → (f : ℕ) → field_allowed f t k ≡ true
  field-allowed k e zero = e.ok
  field-allowed k e (suc zero) = le-leb _ _ e.few
  field-allowed k e (suc (suc f)) = eq-eqb _ _ e.start

  pub entry-allowed : (k : ℕ) → ((f : ℕ) → f < 3 → number_allowed t (suc (3 * k + f)) ≡ true) → EntryAllowed t k
  entry-allowed k numbers =
      let at : (f : ℕ) → f < 3 → field_allowed f t k ≡ true = λ f l. sym (number-field f k l) ∙ numbers f l in
      record { ok = at 0 (omega arith); few = leb-true _ _ (at 1 (omega arith)); start = eqb-true _ _ (at 2 (omega arith)) }

  pub cases-allowed : number_allowed t 0 ≡ true → (1 ≤ cases_of t) × (cases_of t ≤ 1024)
  unfolding number_allowed
  cases-allowed e =
      let some = leb 1 (cases_of t) in
      let few = leb (cases_of t) 1024 in
      (leb-true _ _ (and_left some few e), leb-true _ _ (and_right some few e))

  entries-allowed : 1 ≤ cases_of t → cases_of t ≤ 1024 → ((k : ℕ) → k < cases_of t → EntryAllowed t k) → (i : ℕ) → i < 1 + 3 * cases_of t → number_allowed t i ≡ true
  unfolding number_allowed
  entries-allowed some few entries zero l = and_both (le-leb _ _ some) (le-leb _ _ few)
  entries-allowed some few entries (suc j) l = field-allowed (j / 3) (entries (j / 3) (omega arith)) (j % 3)

  contents-said : contents_allowed t ≡ true → ContentsAllowed t
  contents-said e =
      let numbers = contents-numbers.0 e in
      let count = cases-allowed (numbers.1 0 (omega arith)) in
      record { whole = numbers.0; some = count.0; few = count.1; entries = λ k l. entry-allowed k (λ f m. numbers.1 (suc (3 * k + f)) (omega arith)) }

  contents-so : ContentsAllowed t → contents_allowed t ≡ true
  contents-so c = contents-numbers.1 (c.whole, entries-allowed c.some c.few c.entries)

  pub contents-exact : (contents_allowed t ≡ true) ↔ ContentsAllowed t
  contents-exact = (contents-said, contents-so)

  pub contents-refused : (ContentsAllowed t → ⊥) → contents_allowed t ≡ false
  contents-refused = refused contents-exact

  pub total-exact : (total_allowed t ≡ true) ↔ TotalAllowed t
  total-exact =
      let short = leb (length t) 65536 in
      let exact = eqb (length t) (total_of t) in
      ((λ e. record { short = leb-true _ _ (and_left short exact e); exact = eqb-true _ _ (and_right short exact e) }), (λ a. and_both (le-leb _ _ a.short) (eq-eqb _ _ a.exact)))

  -- ---- the bodies follow each other

  -- the longest body has 32,776 bytes
  pub begins-short : (k : ℕ) → cases_of t ≤ 1024 → ((j : ℕ) → j < k → EntryAllowed t j) → begins t k ≤ 12292 + 32776 * k
  unfolding begins
  begins-short zero few e = omega arith
  begins-short (suc k) few e =
      let here = e k (omega arith) in
      omega (arith, begins-short k few (λ j l. e j (omega arith)), ((legal-exact _).0 here.ok).most, here.few)

  begins-more : (k n : ℕ) → begins t k + 8 * n ≤ begins t (k + n)
  unfolding begins
  begins-more k zero = rw (add-zero k) (omega arith)
  begins-more k (suc n) = rw (add-suc k n) (omega (arith, begins-more k n))

  -- a body has at least 8 bytes
  pub begins-mono : (k m : ℕ) → k ≤ m → begins t k + 8 * (m - k) ≤ begins t m
  begins-mono k m l =
      let e : k + (m - k) ≡ m = omega arith in
      rw e at (begins-more k (m - k))

  pub body-within : (k : ℕ) → k < cases_of t → begins t k + body_size (length_at t k) (count_at t k) ≤ total_of t
  unfolding begins
  body-within k l = omega (arith, begins-mono (suc k) (cases_of t) (omega arith))
