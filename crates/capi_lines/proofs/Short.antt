-- No line is longer than the longest, so neither is what is written, nor a beginning that some line has. `write-high`, `read-high`: nor is what the high half of
-- an answer says. Assumes nothing.
use mathlib.Core.Path.{◌≡◌, refl, sym, ap, ◌∙◌}
use Prim.Native.Nat.{ℕ, ◌+◌, ◌*◌, ◌/◌, ◌%◌, ◌≤◌}
use native.Mathlib.Omega.{arith}
use mathlib.Core.Bool.{Bool, true, false}
use mathlib.Core.List.{List}
use lib.Dec.{eqb}
use lib.ListN.{length, take, length-append}
use lib.Seq.{length-take-le}
use Rattle.isa.specs.declared.types.Op.{Op}
use Rattle.isa.specs.declared.types.WriteRefusal.{WriteRefusal}
use Rattle.std.specs.Prelude.{Option, Some, None}
use Rattle.fields.specs.Fields.{bad_part}
use Rattle.fields.specs.Named.{numbers_at, named_of}
use Rattle.std.specs.Prelude.{Result, Ok, Err}
use Rattle.grammar.specs.declared.types.NotLine.{NotLine}
use Rattle.grammar.specs.declared.types.LineRefusal.{LineRefusal}
use Rattle.grammar.specs.Grammar.{line_max, line_of}
use Rattle.grammar.specs.Read.{stops_at, read_of}
use Rattle.grammar.specs.Number.{line_read_number, line_read_length, line_refusal_number, line_written_number, line_written_length}
use Rattle.grammar.specs.Write.{write_of}
use Rattle.grammar.proofs.Width.{line-short}
use Rattle.grammar.proofs.Lines.{longest}
use Rattle.grammar.proofs.Written.{written-exact}
use Rattle.capi_lines.specs.Write.{line_packed, named_line, pick_write, write_call}
use Rattle.capi_lines.specs.Read.{read_packed, read_answer, pick_read, read_call}

pub written-short : (op : Op) (out : List ℕ) (w : Result ℕ LineRefusal) → w ≡ (write_of op out).answer → line_written_length w ≤ line_max
unfolding write_of line_written_length
written-short op out (Ok n) e = omega (arith, ((written-exact op (length out) n).0 (sym e)).is, line-short op)
written-short op out (Err refusal) e = omega arith

pub reach-short : (s : List ℕ) (k : ℕ) → read_of s ≡ stops_at k → k ≤ line_max
reach-short s k e =
    let n = (longest s k).0 e in
    let b = n.begins in
    let whole : length (line_of b.op) ≡ length (take k s) + length b.rest = ap length b.text ∙ length-append (take k s) b.rest in
    omega (arith, whole, length-take-le k s n.within, line-short b.op)

-- a length so short fits into the high half
pub length-packed : (n : ℕ) {w : Result ℕ LineRefusal} → line_written_length w ≤ line_max → w ≡ Ok n → n * 0x1_0000_0000 % 0x1_0000_0000_0000_0000 ≡ line_packed w
unfolding line_written_length line_packed line_written_number
length-packed n h e = let short : n ≤ line_max = rw e at h in rw e (omega arith)

-- ---- the high halves

pub refusal-number : (r : LineRefusal) → (7 ≤ line_refusal_number r) × (line_refusal_number r ≤ 14)
refusal-number (LineRefusal.Word WriteRefusal.NoSize) = (omega arith, omega arith)
refusal-number (LineRefusal.Word WriteRefusal.NoRotation) = (omega arith, omega arith)
refusal-number (LineRefusal.Word WriteRefusal.RegisterLimit) = (omega arith, omega arith)
refusal-number (LineRefusal.Word WriteRefusal.GroupStart) = (omega arith, omega arith)
refusal-number (LineRefusal.Word WriteRefusal.IndexLimit) = (omega arith, omega arith)
refusal-number LineRefusal.Room = (omega arith, omega arith)

packed-high : (w : Result ℕ LineRefusal) → line_written_length w ≤ line_max → line_packed w / 0x1_0000_0000 ≤ line_max
unfolding line_written_length line_packed line_written_number
packed-high (Ok n) h = omega arith
packed-high (Err refusal) h = let few = (refusal-number refusal).1 in omega arith

module _ (out : List ℕ) where
  named-high : (m : Option Op) → (named_line m out).answer / 0x1_0000_0000 ≤ line_max
  unfolding named_line
  named-high (Some op) = packed-high (write_of op out).answer (written-short op out (write_of op out).answer refl)
  named-high None = omega arith

  pick-high : (t : Bool) (m : Option Op) → (pick_write t (named_line m out) (record { answer = bad_part; out = out })).answer / 0x1_0000_0000 ≤ line_max
  pick-high true m = named-high m
  pick-high false m = omega arith

  pub write-high : (fields : List ℕ) → (write_call fields out).answer / 0x1_0000_0000 ≤ line_max
  unfolding write_call
  write-high fields = pick-high (eqb (length fields) 8) (named_of (numbers_at fields))

module _ (line fields : List ℕ) where
  read_by : (t : Bool) (a : Result Op NotLine) → read_of line ≡ a → (pick_read t (read_answer a fields) (record { answer = bad_part; fields = fields })).answer / 0x1_0000_0000 ≤ line_max
  unfolding read_packed line_read_number line_read_length
  read_by true (Ok op) e = omega arith
  read_by true (Err k) e = omega (arith, reach-short line k.reach e)
  read_by false a e = omega arith

  pub read-high : (read_call line fields).answer / 0x1_0000_0000 ≤ line_max
  unfolding read_call
  read-high = read_by (eqb (length fields) 8) (read_of line) refl
