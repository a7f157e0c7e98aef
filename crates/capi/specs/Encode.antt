-- What `kob_encode` answers.
use Rattle.std.specs.Prelude.{ℕ, ◌+◌, ◌*◌, Bool, true, false, List, eqb, length, Option, Some, None, Result}
use Rattle.isa.specs.Encode.{encode_of}
use Rattle.isa.specs.Number.{written_number, written_word}
use Rattle.isa.specs.declared.types.WriteRefusal.{WriteRefusal}
use Rattle.isa.specs.declared.types.Op.{Op}
use Rattle.fields.specs.Fields.{bad_part}
use Rattle.fields.specs.Named.{numbers_at, named_of, no_operation}

-- the number in the low half, the word in the high half
unfoldable pub written_packed : Result ℕ WriteRefusal → ℕ
written_packed w = written_number w + written_word w * 0x1_0000_0000

unfoldable pub named_packed : Option Op → ℕ
named_packed (Some op) = written_packed (encode_of op)
named_packed None = no_operation

abbrev pub pick_number : Bool → ℕ → ℕ → ℕ
pick_number true a b = a
pick_number false a b = b

unfoldable pub encode_call : List ℕ → ℕ
encode_call fields = pick_number (eqb (length fields) 8) (named_packed (named_of (numbers_at fields))) bad_part
