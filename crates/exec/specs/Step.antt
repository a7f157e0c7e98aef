-- What the functions of the step and of the run say of the lent file.
use Rattle.std.specs.Prelude.{ℕ, ◌+◌, Bool, true, false, ◌||◌, List, ◌≡◌, Result, Ok, Err}
use Rattle.isa.specs.declared.types.Add.{Add}
use Rattle.isa.specs.declared.types.Mul.{Mul}
use Rattle.isa.specs.declared.types.MulIndexed.{MulIndexed}
use Rattle.isa.specs.declared.types.ByElement.{ByElement}
use Rattle.isa.specs.declared.types.Op.{Op}
use Rattle.isa.specs.Meaning.{step, flag_after}
use Rattle.isa.specs.File.{byte_at, file_of}
use Rattle.isa.specs.declared.types.Decoded.{Decoded}
use Rattle.isa.specs.declared.types.Ending.{Ending}
use Rattle.isa.specs.declared.types.Ran.{Ran}
use Rattle.exec.specs.declared.carried.Carried.{Carried}

-- the file after an operation, and whether it set the flag
pub record Executed (L : ℕ) (op : Op) (file after : List ℕ) (clamped : Bool) : Type 0 where
  pub left : after ≡ file_of L (step op (byte_at L file))
  pub flag : (qc : Bool) → flag_after op (byte_at L file) qc ≡ (qc || clamped)

-- the operation of a pair of families that differ in one stage: the plain one, or the one that saturates or rounds, or that subtracts
abbrev pub add_of : Bool → Add → Op
add_of false a = Op.Cadd a
add_of true a = Op.Sqcadd a

abbrev pub mul_of : Bool → Mul → Op
mul_of false a = Op.Cmla a
mul_of true a = Op.Sqrdcmlah a

abbrev pub indexed_of : Bool → MulIndexed → Op
indexed_of false a = Op.CmlaIndexed a
indexed_of true a = Op.SqrdcmlahIndexed a

abbrev pub element_of : Bool → ByElement → Op
element_of false a = Op.Sqrdmlah a
element_of true a = Op.Sqrdmlsh a

-- what a run answers that ends with what is carried
abbrev pub ran_of : Ending → Carried → Ran
ran_of e s = record { ending = e; done = s.done; qc = s.qc }

-- what one word's step answers, what to go on with or what the run that ends there answers, and the file that it leaves
abbrev pub stepped_of : Decoded → ℕ → List ℕ → Carried → Result Carried Ran
stepped_of (Decoded.Operation op) L file s = Ok (record { qc = flag_after op (byte_at L file) s.qc; done = s.done + 1 })
stepped_of Decoded.Reserved L file s = Err (ran_of Ending.Reserved s)
stepped_of Decoded.Outside L file s = Err (ran_of Ending.Outside s)

abbrev pub file_after : Decoded → ℕ → List ℕ → List ℕ
file_after (Decoded.Operation op) L file = file_of L (step op (byte_at L file))
file_after Decoded.Reserved L file = file
file_after Decoded.Outside L file = file

-- why a word that is no operation ends the run
abbrev pub refusal_of : Decoded → Ending
refusal_of (Decoded.Operation op) = Ending.Done
refusal_of Decoded.Reserved = Ending.Reserved
refusal_of Decoded.Outside = Ending.Outside
