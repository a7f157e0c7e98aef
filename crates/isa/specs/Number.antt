-- The numbers of document 01, 'Numbers returned', request A5's 11 and request A3's 14, for every case of every answer, and the values returned beside them.
use Rattle.std.specs.Prelude.{ℕ, List, [], ◌∷◌, Option, Some, None, Result, Ok, Err}
use Rattle.isa.specs.Run.{State, Outcome}
use Rattle.isa.specs.declared.types.Op.{Op}
use Rattle.isa.specs.declared.types.Decoded.{Decoded}
use Rattle.isa.specs.Check.{Check}
use Rattle.isa.specs.declared.types.WriteRefusal.{WriteRefusal}
use Rattle.isa.specs.declared.types.FileRefusal.{FileRefusal}
use Rattle.isa.specs.declared.types.RegisterRefusal.{RegisterRefusal}
use Rattle.isa.specs.declared.types.Ending.{Ending}
use Rattle.isa.specs.declared.types.ListedPart.{ListedPart}

-- ---- decoding: 0 with the operation, 4 and 5 with nothing

unfoldable pub decoded_number : Decoded → ℕ
decoded_number (Decoded.Operation op) = 0
decoded_number Decoded.Reserved = 5
decoded_number Decoded.Outside = 4

unfoldable pub decoded_operation : Decoded → List Op
decoded_operation (Decoded.Operation op) = op ∷ []
decoded_operation Decoded.Reserved = []
decoded_operation Decoded.Outside = []

-- ---- writing: 0 with the word, 7 to 10 and 14 with word 0

abbrev pub write_refusal_number : WriteRefusal → ℕ
write_refusal_number WriteRefusal.NoSize = 7
write_refusal_number WriteRefusal.NoRotation = 8
write_refusal_number WriteRefusal.RegisterLimit = 9
write_refusal_number WriteRefusal.GroupStart = 14
write_refusal_number WriteRefusal.IndexLimit = 10

unfoldable pub written_number : Result ℕ WriteRefusal → ℕ
written_number (Ok word) = 0
written_number (Err refusal) = write_refusal_number refusal

unfoldable pub written_word : Result ℕ WriteRefusal → ℕ
written_word (Ok word) = word
written_word (Err refusal) = 0

-- ---- a vector length and a file's size: nothing beside the number

abbrev pub file_refusal_number : FileRefusal → ℕ
file_refusal_number FileRefusal.BadLength = 1
file_refusal_number FileRefusal.NotPowerOfTwo = 11
file_refusal_number FileRefusal.BadSize = 2

unfoldable pub checked_number : Check FileRefusal → ℕ
checked_number (Ok passed) = 0
checked_number (Err refusal) = file_refusal_number refusal

-- ---- asking for a register: the part is handed out by the call beside it (`register_of`)

abbrev pub register_refusal_number : RegisterRefusal → ℕ
register_refusal_number (RegisterRefusal.File refusal) = file_refusal_number refusal
register_refusal_number RegisterRefusal.NoRegister = 6

unfoldable pub asked_number : Check RegisterRefusal → ℕ
asked_number (Ok found) = 0
asked_number (Err refusal) = register_refusal_number refusal

-- ---- a run: the words done and the flag are returned beside the number, and the file is left

unfoldable pub ending_number : Ending → ℕ
ending_number Ending.Done = 0
ending_number Ending.BadLength = 1
ending_number Ending.NotPowerOfTwo = 11
ending_number Ending.BadSize = 2
ending_number Ending.TooLong = 3
ending_number Ending.Outside = 4
ending_number Ending.Reserved = 5

abbrev pub run_number : Outcome → ℕ
run_number o = ending_number o.answer.ending

abbrev pub run_left : Outcome → State
run_left o = record { file = o.file; qc = o.answer.qc; done = o.answer.done }

-- ---- a listing: 0 with what the text is, 13 with nothing. Document 01 has no number for a lent buffer that is too short; 13 is request A1's

unfoldable pub listed_number : Option ListedPart → ℕ
listed_number (Some part) = 0
listed_number None = 13

unfoldable pub listed_part : Option ListedPart → List ListedPart
listed_part (Some part) = part ∷ []
listed_part None = []
