-- The calls are each other's reverse. `write-then-read`: what `kob_line_write` writes is read back as the same fields. `read-then-write`: the fields that
-- `kob_line_read` gives are written as the same line. Assumes nothing.
use mathlib.Core.Path.{◌≡◌, refl, sym, ap, ◌∙◌}
use Prim.Native.Nat.{ℕ, ◌+◌, ◌*◌, ◌/◌, ◌%◌, ◌≤◌}
use native.Mathlib.Omega.{arith}
use mathlib.Core.Bool.{Bool, true, false}
use mathlib.Core.List.{List, ◌++◌}
use lib.Dec.{eqb}
use lib.ListN.{length, take, drop}
use borrow.Author.Tests.{eqb-true}
use Rattle.isa.specs.declared.types.Op.{Op}
use Rattle.std.specs.Prelude.{Option, Some, None}
use Rattle.fields.specs.Fields.{fields_of, bad_part}
use Rattle.fields.specs.Named.{numbers_at, named_of}
use Rattle.fields.proofs.RoundTrip.{fields-named, fields-eight}
use Rattle.fields.proofs.Back.{named-fields}
use Rattle.std.specs.Prelude.{Result, Ok, Err}
use Rattle.grammar.specs.declared.types.NotLine.{NotLine}
use Rattle.grammar.specs.declared.types.LineRefusal.{LineRefusal}
use Rattle.grammar.specs.Read.{read_of}
use Rattle.grammar.specs.Number.{line_read_number, line_read_length, line_written_number, line_written_length}
use Rattle.grammar.specs.Write.{write_of}
use Rattle.grammar.proofs.Written.{read-written, write_read}
use Rattle.capi_lines.specs.Write.{WriteAnswer, line_packed, packed_line, named_line, pick_write, write_call}
use Rattle.capi_lines.specs.Read.{read_packed, fields_read, read_answer, pick_read, read_call}
use Rattle.capi_lines.proofs.Short.{refusal-number}
use Rattle.capi_lines.proofs.Called.{write-eight, read-eight}

-- ---- fields, line, fields

-- the answer has KOB_DONE in its low half: a line was written, and the high half is its length
written-done : (w : Result ℕ LineRefusal) → line_packed w % 0x1_0000_0000 ≡ 0 → w ≡ Ok (line_packed w / 0x1_0000_0000)
unfolding line_packed line_written_length line_written_number
written-done (Ok n) h = ap Ok (omega arith)
written-done (Err refusal) h = let n = refusal-number refusal in absurd (omega (arith, n.0, n.1))

module _ (fields out into : List ℕ) (lent : length into ≡ 8) where
  abbrev Back : ℕ → List ℕ → Type 0
  Back n text = read_call (take n text) into ≡ record { answer = 0; fields = fields }

  read_back : (op : Op) (n : ℕ) → (write_of op out).answer ≡ Ok n → fields_of op ≡ fields → Back n (write_of op out).out
  unfolding read_packed fields_read line_read_number line_read_length
  read_back op n e f =
      sym (read-eight (take n (write_of op out).out) into lent)
      ∙ ap (λ (a : Result Op NotLine). read_answer a into) (read-written op out n e)
      ∙ ap (λ (l : List ℕ). record { answer = 0; fields = l }) f

  by-named : (m : Option Op) → named_of (numbers_at fields) ≡ m → length fields ≡ 8 → (named_line m out).answer % 0x1_0000_0000 ≡ 0
      → Back ((named_line m out).answer / 0x1_0000_0000) (named_line m out).out
  unfolding named_line
  by-named (Some op) e eight h =
      read_back op (line_packed (write_of op out).answer / 0x1_0000_0000) (written-done (write_of op out).answer h) (named-fields fields op eight e)
  by-named None e eight h = absurd (omega arith)

  by_length : (t : Bool) → eqb (length fields) 8 ≡ t → (pick_write t (named_line (named_of (numbers_at fields)) out) (record { answer = bad_part; out = out })).answer % 0x1_0000_0000 ≡ 0
      → Back ((pick_write t (named_line (named_of (numbers_at fields)) out) (record { answer = bad_part; out = out })).answer / 0x1_0000_0000)
      (pick_write t (named_line (named_of (numbers_at fields)) out) (record { answer = bad_part; out = out })).out
  by_length true e h = by-named (named_of (numbers_at fields)) refl (eqb-true (length fields) 8 e) h
  by_length false e h = absurd (omega arith)

  pub write-then-read : (write_call fields out).answer % 0x1_0000_0000 ≡ 0
      → read_call (take ((write_call fields out).answer / 0x1_0000_0000) (write_call fields out).out) into ≡ record { answer = 0; fields = fields }
  unfolding write_call
  write-then-read h = by_length (eqb (length fields) 8) refl h

-- ---- line, fields, line

zero-plus : (n : ℕ) → 0 + n ≡ n
zero-plus n = omega arith

module _ (line fields out : List ℕ) (room : length line ≤ length out) where
  abbrev Line : WriteAnswer
  Line = record { answer = length line * 0x1_0000_0000; out = line ++ drop (length line) out }

  line-written : (op : Op) → read_of line ≡ Ok op → write_call (fields_of op) out ≡ Line
  unfolding named_line line_packed line_written_length line_written_number
  line-written op e =
      sym (write-eight (fields_of op) out (fields-eight op))
      ∙ ap (λ (n : Option Op). named_line n out) (fields-named op)
      ∙ ap packed_line (write_read line op out e room)
      ∙ ap (λ (n : ℕ). record { answer = n; out = line ++ drop (length line) out }) (zero-plus (length line * 0x1_0000_0000))

  picked : (t : Bool) (a : Result Op NotLine) → read_of line ≡ a → (pick_read t (read_answer a fields) (record { answer = bad_part; fields = fields })).answer ≡ 0
      → write_call (pick_read t (read_answer a fields) (record { answer = bad_part; fields = fields })).fields out ≡ Line
  unfolding read_packed fields_read line_read_number line_read_length
  picked true (Ok op) e h = line-written op e
  picked true (Err k) e h = absurd (omega arith)
  picked false a e h = absurd (omega arith)

  pub read-then-write : (read_call line fields).answer ≡ 0 → write_call (read_call line fields).fields out ≡ record { answer = length line * 0x1_0000_0000; out = line ++ drop (length line) out }
  unfolding read_call
  read-then-write h = picked (eqb (length fields) 8) (read_of line) refl h
