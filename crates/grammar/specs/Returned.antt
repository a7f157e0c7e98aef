-- Exactly when each number is returned, with what stands beside it.
use Rattle.std.specs.Prelude.{ℕ, ◌≤◌, ◌<◌, ◌≡◌, true, false, List, [], ◌∷◌, length}
use Rattle.isa.specs.declared.types.Op.{Op}
use Rattle.isa.specs.Encode.{write_checks}
use Rattle.grammar.specs.Grammar.{line_of}
use Rattle.grammar.specs.Line.{Writable, LineOf, NoLine}
use Rattle.grammar.specs.Read.{read_of}
use Rattle.grammar.specs.Write.{line_answer}
use Rattle.grammar.specs.Number.{line_read_number, line_read_operation, line_read_length, line_written_number, line_written_length}

-- ---- reading: the number, the operation, and the length of the longest beginning that some line has

pub data LineReads (s : List ℕ) : ℕ → List Op → ℕ → Type 0 where
  operation : (op : Op) → LineOf op s → LineReads s 0 (op ∷ []) 0
  not_line : (k : ℕ) → NoLine s k → LineReads s 12 [] k

abbrev pub LineReadsAs : List ℕ → ℕ → List Op → ℕ → Type 0
LineReadsAs s n v k = (line_read_number (read_of s) ≡ n) × (line_read_operation (read_of s) ≡ v) × (line_read_length (read_of s) ≡ k)

-- ---- writing: the number and the line's length; 13 comes behind 7, 8, 9, 14 and 10

pub data LineWrites (op : Op) (room : ℕ) : ℕ → ℕ → Type 0 where
  done : Writable op → length (line_of op) ≤ room → LineWrites op room 0 (length (line_of op))
  no_size : (write_checks op).size ≡ false → LineWrites op room 7 0
  no_rotation : (write_checks op).size ≡ true → (write_checks op).rotation ≡ false → LineWrites op room 8 0
  register_limit : (write_checks op).size ≡ true → (write_checks op).rotation ≡ true → (write_checks op).registers ≡ false → LineWrites op room 9 0
  group_start : (write_checks op).size ≡ true → (write_checks op).rotation ≡ true → (write_checks op).registers ≡ true → (write_checks op).start ≡ false → LineWrites op room 14 0
  index_limit : (write_checks op).size ≡ true → (write_checks op).rotation ≡ true → (write_checks op).registers ≡ true → (write_checks op).start ≡ true → (write_checks op).index ≡ false → LineWrites op room 10 0
  no_room : Writable op → room < length (line_of op) → LineWrites op room 13 0

abbrev pub LineWritesAs : Op → ℕ → ℕ → ℕ → Type 0
LineWritesAs op room n k = (line_written_number (line_answer op room) ≡ n) × (line_written_length (line_answer op room) ≡ k)
