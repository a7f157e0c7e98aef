-- What falls due, by where the bytes end. `due-inside`: within a number of the contents nothing. `due-number`: at the end of one, 15 where it is not allowed.
-- `due-past`: past the last body, 16. `due-body`: within a body nothing, and at its end its verdict. `verdict-due`: a verdict is told nowhere
-- else. Assumes nothing.
use mathlib.Core.Path.{◌≡◌, refl, sym, ap, ◌∙◌}
use mathlib.Core.List.{List}
use mathlib.Core.Bool.{Bool, true, false, ◌&&◌, not, true≢false}
use Prim.Native.Nat.{ℕ, zero, suc, ◌+◌, ◌*◌, ◌-◌, ◌/◌, ◌%◌, ◌<◌, ◌≤◌}
use native.Mathlib.Omega.{arith}
use native.Mathlib.Decide.{dec_le}
use lib.Dec.{leb, ltb, eqb}
use lib.ListN.{length}
use borrow.Author.Tests.{eqb-true, lt-ltb, le-ltb, le-leb, lt-leb, eq-eqb, ne_eqb}
use Rattle.trace.specs.Trace.{cases_of, contents_size, begins, total_of, number_allowed}
use Rattle.trace.specs.Verdict.{case_of}
use Rattle.trace.specs.Stream.{pick_told, number_due, case_due, due_of}
use Rattle.trace.specs.Streamed.{EndsBody}
use Rattle.trace.specs.declared.types.Verdict.{Verdict}
use Rattle.trace.specs.declared.types.Told.{Told}
use Rattle.isa.proofs.File.{cases}
use Rattle.trace.proofs.Contents.{begins-mono}
use Rattle.trace.specs.declared.types.TraceRefusal.{TraceRefusal}
use Rattle.std.specs.Prelude.{Err}

module _ (h : List ℕ) where
  pub due-contents : length h ≤ contents_size h → due_of h ≡ number_due h
  unfolding due_of
  due-contents l = rw (le-leb (length h) (contents_size h) l)

  pub due-inside : length h ≤ contents_size h → (length h % 4 ≡ 0 → ⊥) → due_of h ≡ Told.Nothing
  unfolding number_due
  due-inside l n = due-contents l ∙ rw (ne_eqb (length h % 4) 0 n)

  pub due-number : (i : ℕ) → length h ≡ 4 * i + 4 → i ≤ 3 * cases_of h →
      due_of h ≡ pick_told (not (number_allowed h i)) (Told.Over (Err TraceRefusal.BadContents)) Told.Nothing
  unfolding number_due
  due-number i e l =
      let m : length h % 4 ≡ 0 = omega arith in
      let d : length h / 4 - 1 ≡ i = omega arith in
      due-contents (omega arith) ∙ rw (eq-eqb (length h % 4) 0 m, d)

  pub due-past : contents_size h < length h → total_of h < length h → due_of h ≡ Told.Over (Err TraceRefusal.BadTotal)
  unfolding due_of
  due-past l m = rw (lt-leb (length h) (contents_size h) l, lt-ltb (total_of h) (length h) m)

  -- none of the first n bodies ends here
  case-none : (n : ℕ) → begins h n < length h → case_due h n ≡ Told.Nothing
  unfolding case_due
  case-none zero l = refl
  case-none (suc n) l =
      let m = begins-mono h n (suc n) (omega arith) in
      rw (ne_eqb (length h) (begins h (suc n)) (λ e. omega arith)) (case-none n (omega arith))

  -- among the first n bodies, where body k ends at or behind the bytes and starts before their end
  case-due : (k n : ℕ) → begins h k < length h → length h ≤ begins h (suc k) → k < n →
      case_due h n ≡ pick_told (eqb (length h) (begins h (suc k))) (Told.Case (case_of h k)) Told.Nothing
  unfolding case_due
  case-due k zero l m s = absurd (omega arith)
  case-due k (suc n) l m s =
      elim (dec_le n k) [
        | yes q ↦ let e : n ≡ k = omega arith in rw (e, case-none k l)
        | no q ↦
            let mono = begins-mono h (suc k) (suc n) (omega arith) in
            rw (ne_eqb (length h) (begins h (suc n)) (λ e. omega arith)) (case-due k n l m (omega arith))
      ]

  pub due-body : (k : ℕ) → k < cases_of h → begins h k < length h → length h ≤ begins h (suc k) →
      due_of h ≡ pick_told (eqb (length h) (begins h (suc k))) (Told.Case (case_of h k)) Told.Nothing
  unfolding due_of begins
  due-body k s l m =
      let first = begins-mono h 0 k (omega arith) in
      let last = begins-mono h (suc k) (cases_of h) (omega arith) in
      let in_body : contents_size h < length h = omega arith in
      let within : length h ≤ total_of h = omega arith in
      rw (lt-leb (length h) (contents_size h) in_body, le-ltb (total_of h) (length h) within) (case-due k (cases_of h) l m s)

-- ---- a verdict is told with the last byte of its body, and never earlier

-- the verdict that is told, if one is
abbrev verdict_in : Told → Verdict → Verdict
verdict_in Told.Nothing v = v
verdict_in (Told.Case w) v = w
verdict_in (Told.Over e) v = v

abbrev is_case : Told → Bool
is_case Told.Nothing = false
is_case (Told.Case v) = true
is_case (Told.Over e) = false

no_case : {A : Type 0} {v : Verdict} (t : Told) → is_case t ≡ false → t ≡ Told.Case v → A
no_case t e f = absurd (true≢false (sym (ap is_case f) ∙ e))

module _ (h : List ℕ) (v : Verdict) where
  case-ends : (n : ℕ) → n ≤ cases_of h → case_due h n ≡ Told.Case v → EndsBody h v
  unfolding case_due
  case-ends zero l e = no_case Told.Nothing refl e
  case-ends (suc n) l e =
      cases (eqb (length h) (begins h (suc n)))
      (λ t. record { k = n; below = l; here = eqb-true _ _ t; verdict = sym (ap (λ (x : Told). verdict_in x v) (rw t at e)) })
      (λ t. case-ends n (omega arith) (rw t at e))

  number-none : is_case (number_due h) ≡ false
  unfolding number_due
  number-none = by-test (eqb (length h % 4) 0 && not (number_allowed h (length h / 4 - 1)))
    where
      by-test : (t : Bool) → is_case (pick_told t (Told.Over (Err TraceRefusal.BadContents)) Told.Nothing) ≡ false
      by-test true = refl
      by-test false = refl

  pub verdict-due : due_of h ≡ Told.Case v → EndsBody h v
  unfolding due_of
  verdict-due e =
      cases (leb (length h) (contents_size h))
      (λ t. no_case (number_due h) number-none (rw t at e))
      (λ t. cases (ltb (total_of h) (length h)) (λ u. no_case (Told.Over (Err TraceRefusal.BadTotal)) refl (rw (t, u) at e)) (λ u. case-ends (cases_of h) (omega arith) (rw (t, u) at e)))
