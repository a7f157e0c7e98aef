-- What `kob_decode` answers, and what it leaves in the lent part.
use Rattle.std.specs.Prelude.{ℕ, Bool, true, false, List, eqb, length}
use Rattle.isa.specs.Decode.{decode_of}
use Rattle.isa.specs.Number.{decoded_number}
use Rattle.isa.specs.declared.types.Decoded.{Decoded}
use Rattle.fields.specs.Fields.{fields_of, bad_part}

pub record DecodeAnswer : Type 0 where
  pub answer : ℕ
  pub fields : List ℕ

-- an operation's fields take the place of what was there; else nothing is written
abbrev pub fields_left : Decoded → List ℕ → List ℕ
fields_left (Decoded.Operation op) fields = fields_of op
fields_left Decoded.Reserved fields = fields
fields_left Decoded.Outside fields = fields

abbrev pub decode_answer : Decoded → List ℕ → DecodeAnswer
decode_answer d fields = record { answer = decoded_number d; fields = fields_left d fields }

abbrev pub pick_decode : Bool → DecodeAnswer → DecodeAnswer → DecodeAnswer
pick_decode true a b = a
pick_decode false a b = b

unfoldable pub decode_call : ℕ → List ℕ → DecodeAnswer
decode_call w fields =
    pick_decode (eqb (length fields) 8) (decode_answer (decode_of w) fields) (record { answer = bad_part; fields = fields })
