-- What `kob_decode` answers, case by case. Assumes nothing.
use mathlib.Core.Path.{◌≡◌}
use Prim.Native.Nat.{ℕ}
use mathlib.Core.List.{List}
use lib.ListN.{length}
use borrow.Author.Tests.{eq-eqb, ne_eqb}
use Rattle.isa.specs.Decode.{decode_of}
use Rattle.isa.specs.Number.{decoded_number}
use Rattle.isa.specs.declared.types.Op.{Op}
use Rattle.isa.specs.declared.types.Decoded.{Decoded}
use Rattle.fields.specs.Fields.{fields_of}
use Rattle.capi.specs.Decode.{decode_call}

module _ (w : ℕ) (fields : List ℕ) where
  pub decode-refused : (length fields ≡ 8 → ⊥) → record { answer = 32; fields = fields } ≡ decode_call w fields
  unfolding decode_call
  decode-refused ne = rw (ne_eqb (length fields) 8 ne)

  module _ (eight : length fields ≡ 8) where
    pub decode-operation : {op : Op} {after : List ℕ} → decode_of w ≡ Decoded.Operation op → after ≡ fields_of op
        → record { answer = 0; fields = after } ≡ decode_call w fields
    unfolding decode_call decoded_number
    decode-operation e f = rw (eq-eqb (length fields) 8 eight, e, f)

    pub decode-reserved : decode_of w ≡ Decoded.Reserved → record { answer = 5; fields = fields } ≡ decode_call w fields
    unfolding decode_call decoded_number
    decode-reserved e = rw (eq-eqb (length fields) 8 eight, e)

    pub decode-outside : decode_of w ≡ Decoded.Outside → record { answer = 4; fields = fields } ≡ decode_call w fields
    unfolding decode_call decoded_number
    decode-outside e = rw (eq-eqb (length fields) 8 eight, e)
