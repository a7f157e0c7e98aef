-- The run that demand 3 speaks of, and the whole call with its refusals.
use Rattle.std.specs.Prelude.{ℕ, ◌+◌, Bool, true, false, List, [], ◌∷◌, ltb, length, Ok, Err}
use Rattle.isa.specs.Decode.{decode_of}
use Rattle.isa.specs.Meaning.{step, flag_after}
use Rattle.isa.specs.Check.{Check}
use Rattle.isa.specs.File.{byte_at, file_of, check_of}
use Rattle.isa.specs.declared.types.Op.{Op}
use Rattle.isa.specs.declared.types.Decoded.{Decoded}
use Rattle.isa.specs.declared.types.FileRefusal.{FileRefusal}
use Rattle.isa.specs.declared.types.Ending.{Ending}
use Rattle.isa.specs.declared.types.Ran.{Ran}

-- the register file, the flag QC and document 01's 'words done': those that were operations and were executed
pub record State : Type 0 where
  pub file : List ℕ
  pub qc : Bool
  pub done : ℕ

-- it starts with the file and flag it is fed, and 0 words
abbrev pub start : List ℕ → Bool → State
start file qc = record { file = file; qc = qc; done = 0 }

-- after one operation at vector length L
unfoldable pub after : ℕ → Op → State → State
after L op s = record {
  file = file_of L (step op (byte_at L s.file));
  qc = flag_after op (byte_at L s.file) s.qc;
  done = s.done + 1;
}

-- what is answered, and the file that is left
pub record Outcome : Type 0 where
  pub answer : Ran
  pub file : List ℕ

abbrev pub ended : Ending → State → Outcome
ended e s = record { answer = record { ending = e; done = s.done; qc = s.qc }; file = s.file }

-- a word that decodes to an operation goes on; an outside word ends the run with 4, a reserved one with 5, and neither changes the state
abbrev pub next : Decoded → State → (Op → Outcome) → Outcome
next (Decoded.Operation op) s more = more op
next Decoded.Reserved s more = ended Ending.Reserved s
next Decoded.Outside s more = ended Ending.Outside s

-- the words in order; with no word left it ends with 0
unfoldable pub run : ℕ → List ℕ → State → Outcome
run L [] s = ended Ending.Done s
run L (w ∷ words) s = next (decode_of w) s (λ op. run L words (after L op s))

abbrev pub pick_outcome : Bool → Outcome → Outcome → Outcome
pick_outcome true a b = a
pick_outcome false a b = b

-- a run that a length or a size refuses ends with that refusal
abbrev pub ending_for : FileRefusal → Ending
ending_for FileRefusal.BadLength = Ending.BadLength
ending_for FileRefusal.NotPowerOfTwo = Ending.NotPowerOfTwo
ending_for FileRefusal.BadSize = Ending.BadSize

-- 1, 11 and 2, then 3, then the run
abbrev pub checked_run : Check FileRefusal → ℕ → List ℕ → State → Outcome
checked_run (Ok passed) L words s = pick_outcome (ltb 4096 (length words)) (ended Ending.TooLong s) (run L words s)
checked_run (Err refusal) L words s = ended (ending_for refusal) s

-- the whole call
unfoldable pub outcome_of : ℕ → List ℕ → Bool → List ℕ → Outcome
outcome_of L file qc words = checked_run (check_of L (length file)) L words (start file qc)
