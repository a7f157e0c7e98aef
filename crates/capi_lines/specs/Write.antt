-- What `kob_line_write` answers, and what it leaves in the lent buffer.
use Rattle.std.specs.Prelude.{ℕ, ◌+◌, ◌*◌, Bool, true, false, List, eqb, length, Option, Some, None, Result}
use Rattle.isa.specs.declared.types.Op.{Op}
use Rattle.fields.specs.Fields.{bad_part}
use Rattle.fields.specs.Named.{numbers_at, named_of, no_operation}
use Rattle.grammar.specs.declared.types.LineRefusal.{LineRefusal}
use Rattle.grammar.specs.Number.{line_written_number, line_written_length}
use Rattle.grammar.specs.Write.{LineOutcome, write_of}

-- the number in the low half, the line's length in the high half, which is 0 on a refusal
unfoldable pub line_packed : Result ℕ LineRefusal → ℕ
line_packed w = line_written_number w + line_written_length w * 0x1_0000_0000

pub record WriteAnswer : Type 0 where
  pub answer : ℕ
  pub out : List ℕ

abbrev pub packed_line : LineOutcome → WriteAnswer
packed_line o = record { answer = line_packed o.answer; out = o.out }

-- fields that name no operation leave the buffer as it was
unfoldable pub named_line : Option Op → List ℕ → WriteAnswer
named_line (Some op) out = packed_line (write_of op out)
named_line None out = record { answer = no_operation; out = out }

abbrev pub pick_write : Bool → WriteAnswer → WriteAnswer → WriteAnswer
pick_write true a b = a
pick_write false a b = b

-- so does a lent part of other than 8 numbers
unfoldable pub write_call : List ℕ → List ℕ → WriteAnswer
write_call fields out = pick_write (eqb (length fields) 8) (named_line (named_of (numbers_at fields)) out) (record { answer = bad_part; out = out })
