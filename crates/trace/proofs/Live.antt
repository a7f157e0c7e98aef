-- A stream of which nothing was refused so far, with more bytes. `live-empty`: the start. Within the contents: `quiet-listing`: bytes within a number bring
-- nothing. `refused-listing`, `allowed-listing`: what the last byte of a number brings; `on-listing`, `listed`: where it leaves the stream; `number-ends`:
-- it is not past the contents. `listing-cases`, `listing-entry`: what was read is allowed. Past the contents: `quiet-within`: bytes within a body bring
-- nothing. `whole-within`: the last byte of a body brings its verdict (`case-whole`: that of the case). `past-within`: a byte too many brings 16.
-- `cases-kept`, `begins-kept`, `length-kept`, `count_kept`, `contents-kept`, `case-kept`: the contents and the verdicts of whole bodies are as before.
-- `close-listing`, `close-within`, `close-past`: what an end tells. Assumes nothing.
use mathlib.Core.Path.{◌≡◌, refl, ◌∙◌}
use mathlib.Core.List.{List, [], ◌∷◌, ◌++◌}
use mathlib.Core.Bool.{true, false}
use Prim.Native.Nat.{ℕ, suc, ◌+◌, ◌*◌, ◌/◌, ◌<◌, ◌≤◌}
use native.Mathlib.Omega.{arith}
use native.Mathlib.Decide.{dec_le}
use lib.ListN.{length, drop, length-append, length-drop}
use lib.Seq.{take_all}
use borrow.Author.Tests.{le-leb, lt-leb, eq-eqb, ne_eqb}
use Rattle.trace.specs.Trace.{cases_of, length_at, count_at, contents_size, begins, body_of, number_allowed, contents_allowed}
use Rattle.trace.specs.Verdict.{verdict_of, case_of}
use Rattle.trace.specs.Returned.{EntryAllowed}
use Rattle.trace.specs.Stream.{due_of, close_of, Listing, Within, then}
use Rattle.trace.specs.declared.types.Told.{Told}
use Rattle.trace.proofs.Contents.{contents-numbers, contents-exact, entry-allowed, cases-allowed, begins-mono}
use Rattle.trace.proofs.Prefix.{word-append, begins-append, allowed-append, case-append}
use Rattle.trace.proofs.Due.{due-inside, due-number, due-past, due-body}
use Rattle.trace.specs.declared.types.TraceRefusal.{TraceRefusal}
use Rattle.std.specs.Prelude.{Ok, Err}

-- ---- within the contents

pub live-empty : Listing []
live-empty = record { short = omega arith; numbers = λ i l. absurd (omega arith) }

module _ (h : List ℕ) (v : Listing h) where
  -- what was read of the contents
  pub listing-cases : 4 ≤ length h → (1 ≤ cases_of h) × (cases_of h ≤ 1024)
  listing-cases l = cases-allowed h (v.numbers 0 (omega arith))

  pub listing-entry : (k : ℕ) → 16 + 12 * k ≤ length h → EntryAllowed h k
  listing-entry k l = entry-allowed h k (λ f m. v.numbers (suc (3 * k + f)) (omega arith))

  pub close-listing : close_of h ≡ (Err TraceRefusal.BadContents)
  unfolding close_of
  close-listing = rw (lt-leb (contents_size h) (length h) v.short)

module _ (h x : List ℕ) (v : Listing h) where
  -- number i, of which bytes are still to come, is one of the contents
  number-within : (i : ℕ) → 4 * i ≤ length h → length h < 4 * i + 4 → i ≤ 3 * cases_of (h ++ x)
  number-within i l m =
      elim (dec_le 4 (length h)) [
        | yes four ↦ omega (arith, word-append h x 0 four, v.short)
        | no few ↦ omega arith
      ]

  pub quiet-listing : 0 < length x → length h / 4 ≡ length (h ++ x) / 4 → (due_of (h ++ x) ≡ Told.Nothing) × Listing (h ++ x)
  quiet-listing some same =
      let n = length-append h x in
      let m = number-within (length h / 4) (omega arith) (omega arith) in (
        due-inside (h ++ x) (omega arith) (λ e. omega arith),
        record { short = omega arith; numbers = λ i l. allowed-append h x i (omega arith) ∙ v.numbers i (omega arith) },
      )

-- the last byte of number i
module _ (h : List ℕ) (b i : ℕ) (v : Listing h) (place : length h ≡ 4 * i + 3) where
  longer : length (then h b) ≡ 4 * i + 4
  longer = length-append h (b ∷ []) ∙ (let e : length h + 1 ≡ 4 * i + 4 = omega arith in e)

  within : i ≤ 3 * cases_of (then h b)
  within = number-within h (b ∷ []) v i (omega arith) (omega arith)

  pub number-ends : length (then h b) ≤ contents_size (then h b)
  number-ends = omega (arith, longer, within)

  pub refused-listing : number_allowed (then h b) i ≡ false → due_of (then h b) ≡ Told.Over (Err TraceRefusal.BadContents)
  refused-listing e = due-number (then h b) i longer within ∙ rw e

  module _ (e : number_allowed (then h b) i ≡ true) where
    pub allowed-listing : due_of (then h b) ≡ Told.Nothing
    allowed-listing = due-number (then h b) i longer within ∙ rw e

    numbered : (j : ℕ) → 4 * j + 4 ≤ length (then h b) → number_allowed (then h b) j ≡ true
    numbered j l =
        let n = longer in
        elim (dec_le i j) [
          | yes m ↦ let same : j ≡ i = omega arith in rw same e
          | no m ↦ allowed-append h (b ∷ []) j (omega arith) ∙ v.numbers j (omega arith)
        ]

    pub on-listing : length (then h b) < contents_size (then h b) → Listing (then h b)
    on-listing l = record { short = l; numbers = numbered }

    pub listed : length (then h b) ≡ contents_size (then h b) → Within (then h b) 0
    unfolding begins
    listed l = record {
      contents = (contents-numbers (then h b)).1 (omega arith, λ j m. numbered j (omega arith));
      few = omega arith;
      from = omega arith;
      to = λ m. omega arith;
      last = λ m. l;
    }

-- ---- past the contents

module _ (h : List ℕ) (k : ℕ) (v : Within h k) where
  pub contents-whole : contents_size h ≤ length h
  contents-whole = ((contents-numbers h).0 v.contents).0

  pub close-within : k < cases_of h → close_of h ≡ (Err TraceRefusal.BadTotal)
  unfolding close_of
  close-within l =
      let short : length h < begins h (cases_of h) = omega (arith, v.to l, begins-mono h (suc k) (cases_of h) (omega arith)) in
      rw (le-leb (contents_size h) (length h) contents-whole, ne_eqb (length h) (begins h (cases_of h)) (λ e. omega arith))

module _ (h x : List ℕ) (k : ℕ) (v : Within h k) where
  pub cases-kept : cases_of (h ++ x) ≡ cases_of h
  cases-kept = word-append h x 0 (omega (arith, contents-whole h k v))

  pub begins-kept : (j : ℕ) → j ≤ cases_of h → begins (h ++ x) j ≡ begins h j
  begins-kept j l = begins-append h x j (omega (arith, contents-whole h k v))

  pub length-kept : (j : ℕ) → j < cases_of h → length_at (h ++ x) j ≡ length_at h j
  length-kept j l = word-append h x (4 + 12 * j) (omega (arith, contents-whole h k v))

  pub count_kept : (j : ℕ) → j < cases_of h → count_at (h ++ x) j ≡ count_at h j
  count_kept j l = word-append h x (8 + 12 * j) (omega (arith, contents-whole h k v))

  pub contents-kept : contents_allowed (h ++ x) ≡ true
  contents-kept =
      let l = contents-whole h k v in
      let c = cases-kept in
      let n = length-append h x in
      (contents-numbers (h ++ x)).1 (omega arith, λ i m. allowed-append h x i (omega arith) ∙ ((contents-numbers h).0 v.contents).1 i (omega arith))

  -- case j, whose body is whole
  pub case-kept : (j : ℕ) → j < k → case_of (h ++ x) j ≡ case_of h j
  unfolding begins
  case-kept j l =
      let few = v.few in
      let at = (((contents-exact h).0 v.contents).entries j (omega arith)).start in
      let ends = begins-mono h (suc j) k (omega arith) in
      case-append h x j (omega (arith, contents-whole h k v)) (omega (arith, v.from))

  -- within body k
  module _ (l : k < cases_of h) where
    pub quiet-within : 0 < length x → length (h ++ x) < begins h (suc k) → (due_of (h ++ x) ≡ Told.Nothing) × Within (h ++ x) k
    quiet-within some short =
        let n = length-append h x in
        let c = cases-kept in
        let from = begins-kept k (omega arith) in
        let to = begins-kept (suc k) l in
        let began : begins (h ++ x) k < length (h ++ x) = omega (arith, v.from) in (
          due-body (h ++ x) k (omega arith) began (omega arith) ∙ rw (ne_eqb (length (h ++ x)) (begins (h ++ x) (suc k)) (λ e. omega arith)),
          record { contents = contents-kept; few = omega arith; from = omega arith; to = λ m. omega arith; last = λ m. absurd (omega arith) },
        )

    module _ (exact : length (h ++ x) ≡ begins h (suc k)) where
      -- the body is all bytes from its start on
      body-whole : body_of (h ++ x) k ≡ drop (begins h k) (h ++ x)
      unfolding body_of begins
      body-whole =
          let at = (((contents-exact (h ++ x)).0 contents-kept).entries k (omega (arith, cases-kept))).start ∙ begins-kept k (omega arith) in
          let size : length (drop (begins h k) (h ++ x)) ≤ 8 + 8 * length_at (h ++ x) k + 4 * count_at (h ++ x) k =
          rw length-drop (omega (arith, length-kept k l, count_kept k l)) in
          rw at (take_all _ (drop (begins h k) (h ++ x)) size)

      pub case-whole : case_of (h ++ x) k ≡ verdict_of (length_at h k) (count_at h k) (drop (begins h k) (h ++ x))
      unfolding case_of
      case-whole = rw (length-kept k l, count_kept k l, body-whole)

      pub whole-within : (due_of (h ++ x) ≡ Told.Case (verdict_of (length_at h k) (count_at h k) (drop (begins h k) (h ++ x)))) × Within (h ++ x) (suc k)
      whole-within =
          let c = cases-kept in
          let n = length-append h x in
          let from = begins-kept k (omega arith) in
          let to = begins-kept (suc k) l in
          let rises = begins-mono (h ++ x) (suc k) (suc (suc k)) (omega arith) in
          let began : begins (h ++ x) k < length (h ++ x) = omega (arith, v.from, v.to l) in (
            due-body (h ++ x) k (omega arith) began (omega arith) ∙ rw (eq-eqb (length (h ++ x)) (begins (h ++ x) (suc k)) (omega arith), case-whole),
            record { contents = contents-kept; few = omega arith; from = omega arith; to = λ m. omega arith; last = λ m. omega arith },
          )

-- all bodies are whole
pub close-past : (h : List ℕ) → Within h (cases_of h) → close_of h ≡ (Ok tt)
unfolding close_of
close-past h v = rw (le-leb (contents_size h) (length h) (contents-whole h (cases_of h) v), eq-eqb (length h) (begins h (cases_of h)) (v.last refl))

pub past-within : (h : List ℕ) (b : ℕ) → Within h (cases_of h) → due_of (then h b) ≡ Told.Over (Err TraceRefusal.BadTotal)
past-within h b v =
    let n = length-append h (b ∷ []) in
    let c = cases-kept h (b ∷ []) (cases_of h) v in
    let same : begins (then h b) (cases_of (then h b)) ≡ begins h (cases_of h) = rw c (begins-kept h (b ∷ []) (cases_of h) v (cases_of h) (omega arith)) in
    due-past (then h b) (omega (arith, contents-whole h (cases_of h) v)) (omega (arith, v.last refl))
