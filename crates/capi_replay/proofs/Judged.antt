-- The answer is packed, and a caller takes it apart again. Assumes nothing.
use mathlib.Core.Path.{◌≡◌, ap, subst, sym, ◌∙◌}
use Prim.Native.Nat.{ℕ, ◌+◌, ◌*◌, ◌/◌, ◌%◌, ◌<◌}
use native.Mathlib.Omega.{arith}
use mathlib.Core.List.{List}
use Rattle.trace.specs.Number.{judged_number, judged_kind, judged_place}
use Rattle.trace.specs.Verdict.{judge_of}
use Rattle.std.specs.Prelude.{Result}
use Rattle.trace.specs.declared.types.Verdict.{Verdict}
use Rattle.trace.specs.declared.types.CaseRefusal.{CaseRefusal}
use Rattle.trace.proofs.Returned.{number_small, kind-small, place-small}
use Rattle.capi_replay.specs.Replay.{judged_packed, replay_call, ReplayBits}

module _ (t : List ℕ) (n : ℕ) where
  pub judged-small : (j : Result Verdict CaseRefusal) → j ≡ judge_of t n → judged_place j < 8192
  judged-small j e = subst (λ x. judged_place x < 8192) (sym e) (place-small t n)

  pub judged-packed : (j : Result Verdict CaseRefusal) (r : ℕ) → j ≡ judge_of t n → r ≡ judged_packed j → r ≡ replay_call t n
  unfolding replay_call
  judged-packed j r e f = f ∙ ap judged_packed e

  pub replay-parts : ReplayBits (judge_of t n) (replay_call t n)
  unfolding replay_call judged_packed
  replay-parts =
      let a = number_small t n in
      let b = kind-small t n in
      let c = place-small t n in
      record { number = omega arith; kind = omega arith; place = omega arith; size = omega arith }
