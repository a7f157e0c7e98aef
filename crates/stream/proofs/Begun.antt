-- A body of which no byte has come. `body-starts`: nothing is kept of it. Assumes nothing.
use mathlib.Core.Path.{◌≡◌, refl}
use mathlib.Core.List.{[]}
use mathlib.Core.Bool.{false}
use Prim.Native.Nat.{ℕ, ◌+◌, ◌*◌, ◌<◌}
use native.Mathlib.Omega.{arith}
use lib.Dec.{leb}
use lib.Seq.{drop-nil, take-nil}
use borrow.Author.Tests.{lt-leb}
use Rattle.isa.specs.Bytes.{words_of}
use Rattle.isa.specs.File.{check_of}
use Rattle.isa.specs.Run.{Outcome, start, run, checked_run, outcome_of}
use Rattle.std.specs.Prelude.{Ok, Err}
use Rattle.isa.specs.Check.{Check}
use Rattle.isa.specs.declared.types.FileRefusal.{FileRefusal}
use Rattle.trace.specs.Verdict.{parts_of}
use Rattle.trace.specs.declared.types.Verdict.{Verdict}
use Rattle.stream.specs.Body.{padded, ran_in, stop_said, standing_in, held_in, InBody}
use Rattle.stream.specs.Kept.{fresh_standing, fresh_course}

-- a run of no words on no file
record Idle (o : Outcome) : Type 0 where
  file : o.file ≡ []
  qc : o.answer.qc ≡ false
  said : (n : ℕ) → stop_said o.answer.ending n ≡ Verdict.Agrees

idle-by : (L : ℕ) (c : Check FileRefusal) → Idle (checked_run c L [] (start [] false))
unfolding run
idle-by L (Ok passed) = record { file = refl; qc = refl; said = λ n. refl }
idle-by L (Err FileRefusal.BadLength) = record { file = refl; qc = refl; said = λ n. refl }
idle-by L (Err FileRefusal.NotPowerOfTwo) = record { file = refl; qc = refl; said = λ n. refl }
idle-by L (Err FileRefusal.BadSize) = record { file = refl; qc = refl; said = λ n. refl }

module _ (L W : ℕ) where
  idle : Idle (ran_in L W [])
  unfolding ran_in parts_of outcome_of words_of
  idle = rw (drop-nil (4 + 4 * L), take-nil (4 * L), take-nil (4 * W)) (idle-by L (check_of L 0))

  -- QC after is not whole
  early : leb (8 + 4 * L + 4 * W) 0 ≡ false
  early = let some : 0 < 8 + 4 * L + 4 * W = omega arith in lt-leb _ 0 some

  stands : standing_in L W [] ≡ fresh_standing
  unfolding standing_in
  stands = rw (early, idle.qc, idle.said)

  held : held_in L W [] ≡ []
  unfolding held_in
  held = rw early

  pub body-starts : InBody L W [] (padded 8192 []) fresh_course
  body-starts = record { at = refl; held = rw held; stands = record { file = rw idle.file; standing = rw stands } }
