-- Calls of the code one after the other, and what two such runs have in common: the theorem `cut-free` (proofs/Cut.antt) says that it is all.
use Rattle.std.specs.Prelude.{◌≡◌, List, [], ◌∷◌, ◌++◌, ℕ, drop}
use Rattle.trace.specs.declared.types.Verdict.{Verdict}
use Rattle.trace.specs.declared.types.Told.{Told}
use Rattle.stream.specs.Kept.{Feeds}
use Rattle.stream.specs.declared.state.State.{State}
use Rattle.stream.specs.declared.state.Fed.{Fed}
use Rattle.trace.specs.Stream.{End}

-- the verdict that a call hands out, ahead of the later ones
abbrev pub handed : Told → List Verdict → List Verdict
handed Told.Nothing verdicts = verdicts
handed (Told.Case v) verdicts = v ∷ verdicts
handed (Told.Over e) verdicts = verdicts

-- from a state, with some bytes to hand in: the verdicts and the state at the end. Each call has any piece of the bytes, an empty one too, and is any that
-- meets the contract of `feed`; what it did not take is handed in again with what follows it; behind a refusal the rest may stay
pub data Runs : State → List ℕ → List Verdict → State → Type 0 where
  done : {state : State} → Runs state [] [] state
  feed : {state last : State} {verdicts : List Verdict} (piece later : List ℕ) (r : Fed) → Feeds state piece r →
      Runs r.state (drop r.taken piece ++ later) verdicts last → Runs state (piece ++ later) (handed r.told verdicts) last
  stop : {state : State} (piece later : List ℕ) (r : Fed) (e : End) → Feeds state piece r → r.told ≡ Told.Over e → Runs state (piece ++ later) [] r.state

-- what two runs have in common
pub record SameRun (v w : List Verdict) (a b : State) : Type 0 where
  pub verdicts : v ≡ w
  pub state : a ≡ b
