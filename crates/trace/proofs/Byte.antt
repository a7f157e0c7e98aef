-- One byte more of a stream of which nothing was refused so far: what falls due, and where the byte leaves the stream. `listing-then`: within the contents.
-- `within-then`: past them. Assumes nothing.
use mathlib.Core.Path.{◌≡◌, subst}
use mathlib.Core.List.{List, [], ◌∷◌}
use mathlib.Core.Bool.{false}
use Prim.Native.Nat.{ℕ, suc, ◌+◌, ◌*◌, ◌/◌, ◌%◌, ◌<◌, ◌≤◌}
use native.Mathlib.Omega.{arith}
use native.Mathlib.Decide.{dec_le, ℕ_discrete}
use lib.ListN.{length, length-append}
use Rattle.isa.proofs.File.{cases}
use Rattle.trace.specs.Trace.{cases_of, contents_size, begins, number_allowed}
use Rattle.trace.specs.Verdict.{case_of}
use Rattle.trace.specs.Stream.{due_of, Listing, Within, then}
use Rattle.trace.specs.declared.types.Told.{Told}
use Rattle.trace.proofs.Live.{quiet-listing, number-ends, refused-listing, allowed-listing, on-listing, listed}
use Rattle.trace.proofs.Live.{quiet-within, case-whole, whole-within, past-within}
use Rattle.trace.specs.declared.types.TraceRefusal.{TraceRefusal}
use Rattle.std.specs.Prelude.{Err}

-- ---- within the contents

-- the contents go on; they are whole, and allowed; number i, which is whole, is not allowed
pub data ListingThen (h : List ℕ) (b : ℕ) : Told → Type 0 where
  on : Listing (then h b) → ListingThen h b Told.Nothing
  whole : Within (then h b) 0 → ListingThen h b Told.Nothing
  refused : (i : ℕ) → 4 * i + 4 ≤ length (then h b) → length (then h b) ≤ contents_size (then h b) → number_allowed (then h b) i ≡ false →
      ListingThen h b (Told.Over (Err TraceRefusal.BadContents))

module _ (h : List ℕ) (b : ℕ) (v : Listing h) where
  longer : length (then h b) ≡ length h + 1
  longer = length-append h (b ∷ [])

  number-then : (i : ℕ) → length h ≡ 4 * i + 3 → ListingThen h b (due_of (then h b))
  number-then i place =
      let short = number-ends h b i v place in
      cases (number_allowed (then h b) i)
      (λ e.
      elim (ℕ_discrete (length (then h b)) (contents_size (then h b))) [
        | yes l ↦ rw (allowed-listing h b i v place e) (ListingThen.whole (listed h b i v place e l))
        | no l ↦ rw (allowed-listing h b i v place e) (ListingThen.on (on-listing h b i v place e (omega arith)))
      ])
      (λ e. rw (refused-listing h b i v place e) (ListingThen.refused i (omega (arith, longer)) short e))

  pub listing-then : ListingThen h b (due_of (then h b))
  listing-then =
      elim (ℕ_discrete (length h % 4) 3) [
        | yes e ↦ number-then (length h / 4) (omega arith)
        | no e ↦
            let n = longer in
            let w = quiet-listing h (b ∷ []) v (omega arith) (omega arith) in
            rw w.0 (ListingThen.on w.1)
      ]

-- ---- past the contents

-- body k goes on; it is whole; all bodies were
pub data WithinThen (h : List ℕ) (b k : ℕ) : Told → Type 0 where
  on : k < cases_of h → Within (then h b) k → WithinThen h b k Told.Nothing
  whole : length (then h b) ≡ begins h (suc k) → Within (then h b) (suc k) → WithinThen h b k (Told.Case (case_of (then h b) k))
  past : k ≡ cases_of h → WithinThen h b k (Told.Over (Err TraceRefusal.BadTotal))

module _ (h : List ℕ) (b k : ℕ) (v : Within h k) where
  body-then : k < cases_of h → WithinThen h b k (due_of (then h b))
  body-then l =
      elim (ℕ_discrete (length (then h b)) (begins h (suc k))) [
        | yes e ↦
            let w = whole-within h (b ∷ []) k v l e in
            rw (w.0, ← case-whole h (b ∷ []) k v l e) (WithinThen.whole e w.1)
        | no e ↦
            let n = length-append h (b ∷ []) in
            let short = v.to l in
            let w = quiet-within h (b ∷ []) k v l (omega arith) (omega arith) in
            rw w.0 (WithinThen.on l w.1)
      ]

  pub within-then : WithinThen h b k (due_of (then h b))
  within-then =
      elim (dec_le (cases_of h) k) [
        | yes l ↦
            let all : k ≡ cases_of h = omega (arith, v.few) in
            rw (past-within h b (subst (Within h) all v)) (WithinThen.past all)
        | no l ↦ body-then (omega arith)
      ]
