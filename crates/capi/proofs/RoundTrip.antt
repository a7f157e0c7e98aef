-- `decode-encode-call`: the fields that `kob_decode` writes for a word give `kob_encode` that word. Assumes nothing.
use mathlib.Core.Path.{◌≡◌, refl, sym, ap, ◌∙◌}
use Prim.Native.Nat.{ℕ, ◌*◌}
use native.Mathlib.Omega.{arith}
use mathlib.Core.Bool.{Bool, true, false}
use mathlib.Core.List.{List}
use lib.Dec.{eqb}
use lib.ListN.{length}
use Rattle.isa.specs.declared.types.Op.{Op}
use Rattle.isa.specs.declared.types.Decoded.{Decoded}
use Rattle.std.specs.Prelude.{Ok}
use Rattle.isa.specs.Decode.{decode_of}
use Rattle.isa.specs.Encode.{encode_of}
use Rattle.isa.specs.Number.{decoded_number, written_number, written_word}
use Rattle.isa.proofs.RoundTrip.{decode-encode}
use Rattle.fields.specs.Fields.{fields_of, bad_part}
use Rattle.fields.proofs.RoundTrip.{fields-named, fields-eight}
use Rattle.capi.specs.Decode.{decode_answer, pick_decode, decode_call}
use Rattle.capi.specs.Encode.{written_packed, named_packed, encode_call}
use Rattle.capi.proofs.Named.{encode-eight}

encode-fields : (op : Op) (w : ℕ) → encode_of op ≡ Ok w → encode_call (fields_of op) ≡ w * 0x1_0000_0000
unfolding named_packed written_packed written_number written_word
encode-fields op w e =
    sym (encode-eight (fields_of op) (fields-eight op))
    ∙ ap named_packed (fields-named op)
    ∙ ap written_packed e
    ∙ omega arith

picked : (w : ℕ) (fields : List ℕ) (t : Bool) (d : Decoded) → decode_of w ≡ d
    → (pick_decode t (decode_answer d fields) (record { answer = bad_part; fields = fields })).answer ≡ 0
    → encode_call (pick_decode t (decode_answer d fields) (record { answer = bad_part; fields = fields })).fields ≡ w * 0x1_0000_0000
unfolding decoded_number
picked w fields true (Decoded.Operation op) e h = encode-fields op w (decode-encode w op e)
picked w fields true Decoded.Reserved e h = absurd (omega arith)
picked w fields true Decoded.Outside e h = absurd (omega arith)
picked w fields false d e h = absurd (omega arith)

pub decode-encode-call : (w : ℕ) (fields : List ℕ) → (decode_call w fields).answer ≡ 0 → encode_call (decode_call w fields).fields ≡ w * 0x1_0000_0000
unfolding decode_call
decode-encode-call w fields h = picked w fields (eqb (length fields) 8) (decode_of w) refl h
