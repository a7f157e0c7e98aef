-- What the phase of a state tells of its stream. `contents-bodies`, `contents-ended`, `bodies-ended`: no two phases are the same. `listing-phase`,
-- `over-phase`: within the contents, and where the stream is over. `close-contents`, `close-whole`, `close-short`, `close-ended`: what an end tells. Assumes
-- nothing.
use mathlib.Core.Path.{◌≡◌, sym, ap}
use mathlib.Core.List.{List}
use Prim.Native.Nat.{ℕ}
use native.Mathlib.Omega.{arith}
use Rattle.trace.specs.Trace.{cases_of}
use Rattle.trace.specs.Stream.{close_of, Within}
use Rattle.trace.proofs.Live.{close-listing, close-within, close-past}
use Rattle.stream.specs.Kept.{KeptListing, KeptOver, listing, within, ended}
use Rattle.stream.specs.Steps.{ClosesMarks}
use Rattle.stream.specs.declared.state.Phase.{Phase}
use Rattle.stream.specs.declared.state.Marks.{Marks}
use Rattle.trace.specs.declared.types.TraceRefusal.{TraceRefusal}
use Rattle.trace.specs.Stream.{End}
use Rattle.std.specs.Prelude.{Ok, Err}

-- no two phases are the same
module _ {A : Type 0} {p : Phase} where
  pub contents-bodies : p ≡ Phase.Contents → p ≡ Phase.Bodies → A
  contents-bodies e f = let z : ◌≡◌ {A = ℕ} 0 1 = cc (e, f) in absurd (omega arith)

  pub contents-ended : {end : End} → p ≡ Phase.Contents → p ≡ Phase.Ended end → A
  contents-ended e f = let z : ◌≡◌ {A = ℕ} 0 1 = cc (e, f) in absurd (omega arith)

  pub bodies-ended : {end : End} → p ≡ Phase.Bodies → p ≡ Phase.Ended end → A
  bodies-ended e f = let z : ◌≡◌ {A = ℕ} 0 1 = cc (e, f) in absurd (omega arith)

pub listing-phase : {h image contents : List ℕ} {m : Marks} → KeptListing h image contents m → m.phase ≡ Phase.Contents
listing-phase kept = ap (λ (m : Marks). m.phase) kept.marks

pub over-phase : {e : End} {image contents : List ℕ} {m : Marks} → KeptOver e image contents m → m.phase ≡ Phase.Ended e
over-phase kept = ap (λ (m : Marks). m.phase) kept.marks

-- ---- an end

module _ (m : Marks) where
  pub close-contents : m.phase ≡ Phase.Contents → ClosesMarks m (Err TraceRefusal.BadContents)
  close-contents p image contents _ (listing h v kept) = sym (close-listing h v)
  close-contents p image contents _ (within h k v kept) = contents-bodies p kept.phase
  close-contents p image contents _ (ended e kept) = contents-ended p (over-phase kept)

  module _ (p : m.phase ≡ Phase.Bodies) (r : End) (in-bodies : (h : List ℕ) (k : ℕ) → Within h k → m.cases ≡ cases_of h → m.case ≡ k → r ≡ close_of h) where
    close-bodies : ClosesMarks m r
    close-bodies image contents _ (listing h v kept) = contents-bodies (listing-phase kept) p
    close-bodies image contents _ (within h k v kept) = in-bodies h k v kept.cases kept.case
    close-bodies image contents _ (ended e kept) = bodies-ended p (over-phase kept)

  pub close-whole : m.phase ≡ Phase.Bodies → m.case ≡ m.cases → ClosesMarks m (Ok tt)
  close-whole p e = close-bodies p (Ok tt) (λ h k v c d. let all : k ≡ cases_of h = omega arith in sym (close-past h (rw all at v)))

  pub close-short : m.phase ≡ Phase.Bodies → (m.case ≡ m.cases → ⊥) → ClosesMarks m (Err TraceRefusal.BadTotal)
  close-short p e = close-bodies p (Err TraceRefusal.BadTotal) (λ h k v c d. sym (close-within h k v (omega (arith, v.few, e))))

  pub close-ended : (e : End) → m.phase ≡ Phase.Ended e → ClosesMarks m e
  close-ended e p image contents _ (listing h v kept) = contents-ended (listing-phase kept) p
  close-ended e p image contents _ (within h k v kept) = bodies-ended kept.phase p
  close-ended e p image contents _ (ended f kept) = cc (p, over-phase kept)
