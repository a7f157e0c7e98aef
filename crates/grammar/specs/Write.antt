-- What writing an operation's line answers, and what it leaves in the lent buffer.
use Rattle.std.specs.Prelude.{ℕ, List, ◌++◌, leb, length, drop, Result, Ok, Err}
use Rattle.isa.specs.declared.types.Op.{Op}
use Rattle.isa.specs.declared.types.WriteRefusal.{WriteRefusal}
use Rattle.isa.specs.Check.{unless}
use Rattle.isa.specs.Encode.{encode_of}
use Rattle.grammar.specs.declared.types.LineRefusal.{LineRefusal}
use Rattle.grammar.specs.Grammar.{line_of}

-- what refuses the word of an operation refuses its line
abbrev pub refusing : Result ℕ WriteRefusal → Result ℕ LineRefusal → Result ℕ LineRefusal
refusing (Ok w) next = next
refusing (Err refusal) next = Err (LineRefusal.Word refusal)

-- the length of a line that has room
abbrev pub fitting : List ℕ → ℕ → Result ℕ LineRefusal
fitting text room = unless (leb (length text) room) LineRefusal.Room (Ok (length text))

-- the room comes last
unfoldable pub line_answer : Op → ℕ → Result ℕ LineRefusal
line_answer op room = refusing (encode_of op) (fitting (line_of op) room)

-- the line from the buffer's start, and behind it what stood there; on a refusal the buffer as it was
abbrev pub left_by : Result ℕ LineRefusal → List ℕ → List ℕ → List ℕ
left_by (Ok n) text out = text ++ drop n out
left_by (Err refusal) text out = out

-- an answer with what the buffer then holds
pub record LineOutcome : Type 0 where
  pub answer : Result ℕ LineRefusal
  pub out : List ℕ

abbrev pub line_outcome : Result ℕ LineRefusal → List ℕ → List ℕ → LineOutcome
line_outcome answer text out = record { answer = answer; out = left_by answer text out }

unfoldable pub write_of : Op → List ℕ → LineOutcome
write_of op out = line_outcome (line_answer op (length out)) (line_of op) out
