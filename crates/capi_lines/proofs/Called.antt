-- What the two calls answer, case by case. Assumes nothing.
use mathlib.Core.Path.{◌≡◌, sym, ap, ◌∙◌}
use Prim.Native.Nat.{ℕ, ◌+◌, ◌*◌}
use mathlib.Core.List.{List}
use lib.ListN.{length}
use borrow.Author.Tests.{eq-eqb, ne_eqb}
use Rattle.isa.specs.declared.types.Op.{Op}
use Rattle.std.specs.Prelude.{Option, Some, None}
use Rattle.fields.specs.Fields.{fields_of}
use Rattle.fields.specs.Named.{numbers_at, named_of}
use Rattle.std.specs.Prelude.{Result, Ok}
use Rattle.grammar.specs.declared.types.NotLine.{NotLine}
use Rattle.grammar.specs.declared.types.LineRefusal.{LineRefusal}
use Rattle.grammar.specs.Number.{line_read_number, line_read_length}
use Rattle.grammar.specs.Read.{stops_at, read_of}
use Rattle.grammar.specs.Write.{write_of}
use Rattle.capi_lines.specs.Write.{line_packed, packed_line, named_line, write_call}
use Rattle.capi_lines.specs.Read.{read_packed, fields_read, read_answer, read_call}

-- ---- writing

module _ (fields out : List ℕ) where
  pub write-refused : (length fields ≡ 8 → ⊥) → record { answer = 32; out = out } ≡ write_call fields out
  unfolding write_call
  write-refused ne = rw (ne_eqb (length fields) 8 ne)

  module _ (eight : length fields ≡ 8) where
    pub write-eight : named_line (named_of (numbers_at fields)) out ≡ write_call fields out
    unfolding write_call
    write-eight = rw (eq-eqb (length fields) 8 eight)

    pub write-nothing : named_of (numbers_at fields) ≡ None → record { answer = 33; out = out } ≡ write_call fields out
    unfolding named_line
    write-nothing e = ap (λ (n : Option Op). named_line n out) (sym e) ∙ write-eight

    pub write-named : {op : Op} {w : Result ℕ LineRefusal} {after : List ℕ} {r : ℕ} → named_of (numbers_at fields) ≡ Some op
        → record { answer = w; out = after } ≡ write_of op out → r ≡ line_packed w → record { answer = r; out = after } ≡ write_call fields out
    unfolding named_line
    write-named {op} {w} {after} {r} e f g = rw g (ap packed_line f ∙ ap (λ (n : Option Op). named_line n out) (sym e) ∙ write-eight)

-- ---- reading

module _ (line fields : List ℕ) where
  pub read-refused : (length fields ≡ 8 → ⊥) → record { answer = 32; fields = fields } ≡ read_call line fields
  unfolding read_call
  read-refused ne = rw (ne_eqb (length fields) 8 ne)

  module _ (eight : length fields ≡ 8) where
    pub read-eight : read_answer (read_of line) fields ≡ read_call line fields
    unfolding read_call
    read-eight = rw (eq-eqb (length fields) 8 eight)

    pub read-operation : {op : Op} {after : List ℕ} → read_of line ≡ Ok op → after ≡ fields_of op
        → record { answer = 0; fields = after } ≡ read_call line fields
    unfolding read_packed fields_read line_read_number line_read_length
    read-operation e f = rw f (ap (λ (a : Result Op NotLine). read_answer a fields) (sym e) ∙ read-eight)

    pub read-not-line : {k r : ℕ} → read_of line ≡ stops_at k → r ≡ 12 + k * 0x1_0000_0000 → record { answer = r; fields = fields } ≡ read_call line fields
    unfolding read_packed fields_read line_read_number line_read_length
    read-not-line e f = rw f (ap (λ (a : Result Op NotLine). read_answer a fields) (sym e) ∙ read-eight)
