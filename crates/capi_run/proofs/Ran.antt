-- A run does at most 4,096 words, and a caller takes its answer apart again. Assumes nothing.
use mathlib.Core.Path.{◌≡◌, refl, ap}
use Prim.Native.Nat.{ℕ, ◌+◌, ◌*◌, ◌/◌, ◌%◌, ◌<◌, ◌≤◌}
use native.Mathlib.Omega.{arith}
use mathlib.Core.Bool.{Bool, true, false}
use mathlib.Core.List.{List}
use lib.Dec.{ltb, eqb}
use lib.ListN.{length}
use borrow.Author.Tests.{ltb-false}
use Rattle.isa.specs.File.{check_of}
use Rattle.isa.specs.Number.{ending_number}
use Rattle.isa.specs.Run.{Outcome, start, run, ended, pick_outcome, checked_run, outcome_of}
use Rattle.std.specs.Prelude.{Ok, Err}
use Rattle.isa.specs.Check.{Check}
use Rattle.isa.specs.declared.types.FileRefusal.{FileRefusal}
use Rattle.isa.specs.declared.types.Ending.{Ending}
use Rattle.isa.specs.declared.types.Ran.{Ran}
use Rattle.isa.proofs.Run.{run-count}
use Rattle.capi_run.specs.Run.{RunAnswer, flag_packed, ran_packed, packed_outcome, run_call, RunBits}

pub ending-small : (e : Ending) → ending_number e < 12
unfolding ending_number
ending-small Ending.Done = omega arith
ending-small Ending.BadLength = omega arith
ending-small Ending.NotPowerOfTwo = omega arith
ending-small Ending.BadSize = omega arith
ending-small Ending.TooLong = omega arith
ending-small Ending.Outside = omega arith
ending-small Ending.Reserved = omega arith

module _ (L : ℕ) (file : List ℕ) (qc : Bool) (words : List ℕ) where
  picked-short : (t : Bool) → ltb 4096 (length words) ≡ t → (pick_outcome t (ended Ending.TooLong (start file qc)) (run L words (start file qc))).answer.done ≤ 4096
  picked-short true e = omega arith
  picked-short false e = omega (arith, ltb-false 4096 (length words) e, (run-count L words file qc).0)

  checked-short : (k : Check FileRefusal) → (checked_run k L words (start file qc)).answer.done ≤ 4096
  checked-short (Ok passed) = picked-short (ltb 4096 (length words)) refl
  checked-short (Err refusal) = omega arith

  pub run_short : (outcome_of L file qc words).answer.done ≤ 4096
  unfolding outcome_of
  run_short = checked-short (check_of L (length file))

  pub run-packed : {r : Ran} {after : List ℕ} {n : ℕ} → record { answer = r; file = after } ≡ outcome_of L file qc words → n ≡ ran_packed r
      → record { answer = n; file = after } ≡ run_call L file qc words
  unfolding run_call
  run-packed e f = rw f (ap packed_outcome e)

  pub ran-short : {r : Ran} {after : List ℕ} → record { answer = r; file = after } ≡ outcome_of L file qc words → r.done ≤ 4096
  ran-short e = omega (arith, run_short, ap (λ (o : Outcome). o.answer.done) e)

ran-parts : (e : Ending) (done : ℕ) (qc : Bool) → done ≤ 4096 → RunBits (record { ending = e; done = done; qc = qc }) (ran_packed (record { ending = e; done = done; qc = qc }))
unfolding ran_packed
ran-parts e done true h =
    let s = ending-small e in
    let n = ending_number e + 0x100 + done * 0x1_0000 in
    let f : n / 0x100 % 0x100 ≡ 1 = omega arith in
    record { number = omega arith; flag = rw f; done = omega arith; size = omega arith }
ran-parts e done false h =
    let s = ending-small e in
    let n = ending_number e + 0 + done * 0x1_0000 in
    let f : n / 0x100 % 0x100 ≡ 0 = omega arith in
    record { number = omega arith; flag = rw f; done = omega arith; size = omega arith }

pub run-parts : (L : ℕ) (file : List ℕ) (qc : Bool) (words : List ℕ) → RunBits (outcome_of L file qc words).answer (run_call L file qc words).answer
unfolding run_call
run-parts L file qc words =
    let r = (outcome_of L file qc words).answer in
    ran-parts r.ending r.done r.qc (run_short L file qc words)
