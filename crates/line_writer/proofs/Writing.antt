-- What writing a line leaves, from what the code computed. Assumes nothing.
use Prim.Native.Nat.{ℕ, ◌≤◌, ◌<◌}
use mathlib.Core.Path.{◌≡◌, sym, ap, ◌∙◌, subst}
use mathlib.Core.List.{List, [], ◌++◌, map}
use native.Mathlib.Omega.{arith}
use borrow.Author.Tests.{le-leb, lt-leb}
use lib.ListN.{length, get_or, drop}
use Rattle.isa.specs.declared.types.Op.{Op}
use Rattle.isa.specs.declared.types.WriteRefusal.{WriteRefusal}
use Rattle.std.specs.Prelude.{Ok, Err}
use Rattle.isa.specs.Encode.{encode_of}
use Rattle.grammar.specs.declared.types.LineRefusal.{LineRefusal}
use Rattle.grammar.specs.Template.{Item, fill}
use Rattle.grammar.specs.Grammar.{variables, item_of, templates, pattern_count, pattern_of, values_of, line_of}
use Rattle.grammar.specs.Line.{Writable}
use Rattle.grammar.specs.Write.{fitting, line_answer, LineOutcome, line_outcome, write_of}
use Rattle.grammar.proofs.Alphabet.{readable}
use Rattle.grammar.proofs.Remakes.{remakes}
use Rattle.line_writer.specs.Fill.{values_from, Low, Few}
use Rattle.line_writer.proofs.Filling.{filled}

-- ---- an operation that can be written

pub few-writable : (op : Op) → Writable op → Few (values_of op)
few-writable op w y = omega (arith, (remakes op w).good y, readable.few y)

pub low-writable : (op : Op) (vs : List ℕ) → Writable op → values_from vs ≡ values_of op → Low (values_from vs)
low-writable op vs w e = subst (λ (f : ℕ → ℕ). Low f) (sym e) (remakes op w).good

pub pattern-low : (op : Op) (n : ℕ) → Writable op → n ≡ pattern_of op → n < pattern_count
pattern-low op n w e = rw e (remakes op w).within

pub line-is : (op : Op) (t vs : List ℕ) (pattern : ℕ) → map item_of t ≡ get_or templates pattern [] → pattern ≡ pattern_of op → values_from vs ≡ values_of op → filled t vs ≡ line_of op
unfolding line_of
line-is op t vs pattern is e v =
    ap (λ (u : List Item). fill variables u (values_from vs)) is
    ∙ ap (λ (n : ℕ). fill variables (get_or templates n []) (values_from vs)) e
    ∙ ap (fill variables (get_or templates (pattern_of op) [])) v

-- ---- the room

pub no_room : (line out : List ℕ) → length out < length line → record { answer = Err LineRefusal.Room; out = out } ≡ line_outcome (fitting line (length out)) line out
no_room line out h = rw (lt-leb (length line) (length out) h)

pub in-room : (line out : List ℕ) → length line ≤ length out → record { answer = Ok (length line); out = line ++ drop (length line) out } ≡ line_outcome (fitting line (length out)) line out
in-room line out h = rw (le-leb (length line) (length out) h)

-- ---- the checks

pub by_word : (op : Op) {w : ℕ} (line out : List ℕ) (o : LineOutcome) → encode_of op ≡ Ok w → line ≡ line_of op
    → o ≡ line_outcome (fitting line (length out)) line out → o ≡ write_of op out
unfolding write_of line_answer
by_word op {w} line out o e f h = h ∙ ap (λ (l : List ℕ). line_outcome (fitting l (length out)) l out) f ∙ sym (rw e)

pub by_refusal : (op : Op) (refusal : WriteRefusal) (out : List ℕ) → encode_of op ≡ Err refusal → record { answer = Err (LineRefusal.Word refusal); out = out } ≡ write_of op out
unfolding write_of line_answer
by_refusal op refusal out e = sym (rw e)
