-- What `kob_line_read` answers, and what it leaves in the lent part.
use Rattle.std.specs.Prelude.{ℕ, ◌+◌, ◌*◌, Bool, true, false, List, eqb, length, Result, Ok, Err}
use Rattle.fields.specs.Fields.{fields_of, bad_part}
use Rattle.isa.specs.declared.types.Op.{Op}
use Rattle.grammar.specs.declared.types.NotLine.{NotLine}
use Rattle.grammar.specs.Number.{line_read_number, line_read_length}
use Rattle.grammar.specs.Read.{read_of}

-- the number in the low half, the longest beginning in the high half, which is 0 where the text is a line
unfoldable pub read_packed : Result Op NotLine → ℕ
read_packed a = line_read_number a + line_read_length a * 0x1_0000_0000

-- an operation's fields take the place of what was there; else nothing is written
unfoldable pub fields_read : Result Op NotLine → List ℕ → List ℕ
fields_read (Ok op) fields = fields_of op
fields_read (Err refusal) fields = fields

pub record ReadAnswer : Type 0 where
  pub answer : ℕ
  pub fields : List ℕ

abbrev pub read_answer : Result Op NotLine → List ℕ → ReadAnswer
read_answer a fields = record { answer = read_packed a; fields = fields_read a fields }

abbrev pub pick_read : Bool → ReadAnswer → ReadAnswer → ReadAnswer
pick_read true a b = a
pick_read false a b = b

unfoldable pub read_call : List ℕ → List ℕ → ReadAnswer
read_call line fields = pick_read (eqb (length fields) 8) (read_answer (read_of line) fields) (record { answer = bad_part; fields = fields })
