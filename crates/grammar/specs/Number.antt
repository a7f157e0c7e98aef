-- The numbers of request A1, with A3's 14, for every case of every answer, and the values returned beside them.
use Rattle.std.specs.Prelude.{ℕ, List, [], ◌∷◌, Result, Ok, Err}
use Rattle.isa.specs.declared.types.Op.{Op}
use Rattle.isa.specs.Number.{write_refusal_number}
use Rattle.grammar.specs.declared.types.NotLine.{NotLine}
use Rattle.grammar.specs.declared.types.LineRefusal.{LineRefusal}

-- ---- reading: 0 with the operation, 12 with the length of the longest beginning that some line has

unfoldable pub line_read_number : Result Op NotLine → ℕ
line_read_number (Ok op) = 0
line_read_number (Err refusal) = 12

unfoldable pub line_read_operation : Result Op NotLine → List Op
line_read_operation (Ok op) = op ∷ []
line_read_operation (Err refusal) = []

unfoldable pub line_read_length : Result Op NotLine → ℕ
line_read_length (Ok op) = 0
line_read_length (Err refusal) = refusal.reach

-- ---- writing: 0 with the line's length, 7 to 10, 13 and 14 with length 0

abbrev pub line_refusal_number : LineRefusal → ℕ
line_refusal_number (LineRefusal.Word refusal) = write_refusal_number refusal
line_refusal_number LineRefusal.Room = 13

unfoldable pub line_written_number : Result ℕ LineRefusal → ℕ
line_written_number (Ok n) = 0
line_written_number (Err refusal) = line_refusal_number refusal

unfoldable pub line_written_length : Result ℕ LineRefusal → ℕ
line_written_length (Ok n) = n
line_written_length (Err refusal) = 0
