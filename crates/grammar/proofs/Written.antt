-- Writing and reading are each other's reverse. `read-written`: what is written is read as the operation. `write_read`: the operation that
-- a text is read as is written as that text. `written-exact`: a line is written exactly where none of 7 to 10 and 14 applies and the room is enough. Assumes nothing.
use Prim.Native.Nat.{ℕ, ◌≤◌}
use mathlib.Core.Path.{◌≡◌, refl, sym, ap, ◌∙◌}
use mathlib.Core.Bool.{Bool, true, false}
use mathlib.Core.List.{List, ◌++◌}
use native.Mathlib.Omega.{arith}
use borrow.Author.Tests.{le-leb, leb-true}
use lib.Dec.{leb}
use lib.ListN.{length, take, drop}
use lib.Seq.{take-append_seam}
use Rattle.isa.specs.declared.types.Op.{Op}
use Rattle.std.specs.Prelude.{Result, Ok, Err}
use Rattle.isa.specs.declared.types.WriteRefusal.{WriteRefusal}
use Rattle.isa.specs.Check.{unless}
use Rattle.isa.specs.Encode.{write_checks, encode_of}
use Rattle.isa.proofs.Checks.{word-exact}
use Rattle.grammar.specs.declared.types.LineRefusal.{LineRefusal}
use Rattle.grammar.specs.Grammar.{line_of}
use Rattle.grammar.specs.Line.{Writable}
use Rattle.grammar.specs.Read.{read_of}
use Rattle.grammar.specs.Write.{refusing, fitting, line_answer, left_by, line_outcome, write_of}
use Rattle.grammar.proofs.Lines.{line-exact}

-- ---- an operation that can be written has a word, and the other way round

pub writable-word : (op : Op) (w : ℕ) → encode_of op ≡ Ok w → Writable op
writable-word op w e =
    let p = (word-exact op w).0 e in
    record { size = p.size; rotation = p.rotation; registers = p.registers; start = p.start; index = p.index }

pub word-writable : (op : Op) → Writable op → encode_of op ≡ Ok (write_checks op).word
word-writable op p = (word-exact op (write_checks op).word).1 (record { size = p.size; rotation = p.rotation; registers = p.registers; start = p.start; index = p.index; word = refl })

-- ---- what is answered

-- the line of an operation, with the room that it has
pub record Whole (op : Op) (room n : ℕ) : Type 0 where
  pub writable : Writable op
  pub is : n ≡ length (line_of op)
  pub fits : n ≤ room

same_text-equal : (m n : ℕ) → ◌≡◌ {A = Result ℕ LineRefusal} (Ok m) (Ok n) → m ≡ n
same_text-equal m n e = cc

module _ (op : Op) (room n : ℕ) where
  by-room : (b : Bool) → leb (length (line_of op)) room ≡ b → Writable op → unless b LineRefusal.Room (Ok (length (line_of op))) ≡ Ok n → Whole op room n
  by-room true e w h =
      let q : length (line_of op) ≡ n = same_text-equal (length (line_of op)) n h in
      let l : length (line_of op) ≤ room = leb-true (length (line_of op)) room e in
      record { writable = w; is = sym q; fits = omega arith }
  by-room false e w h = cc

  by_word : (a : Result ℕ WriteRefusal) → encode_of op ≡ a → refusing a (fitting (line_of op) room) ≡ Ok n → Whole op room n
  by_word (Ok w) e h = by-room (leb (length (line_of op)) room) refl (writable-word op w e) h
  by_word (Err refusal) e h = cc

  whole-written : Whole op room n → line_answer op room ≡ Ok n
  unfolding line_answer
  whole-written p =
      let l : length (line_of op) ≤ room = omega (arith, p.is, p.fits) in
      rw (word-writable op p.writable, le-leb (length (line_of op)) room l) (ap Ok (sym p.is))

  pub written-exact : (line_answer op room ≡ Ok n → Whole op room n) × (Whole op room n → line_answer op room ≡ Ok n)
  unfolding line_answer
  written-exact = (by_word (encode_of op) refl, whole-written)

-- ---- there and back

own_line : (op : Op) → Writable op → read_of (line_of op) ≡ Ok op
own_line op w = (line-exact (line_of op) op).1 (record { writable = w; text = refl })

-- what the buffer holds where a line was written
pub left-text : (op : Op) (out : List ℕ) (n : ℕ) → (write_of op out).answer ≡ Ok n → (write_of op out).out ≡ line_of op ++ drop n out
unfolding write_of
left-text op out n e = ap (λ (l : Result ℕ LineRefusal). left_by l (line_of op) out) e

pub read-written : (op : Op) (out : List ℕ) (n : ℕ) → (write_of op out).answer ≡ Ok n → read_of (take n (write_of op out).out) ≡ Ok op
unfolding write_of
read-written op out n e =
    let p = (written-exact op (length out) n).0 e in
    ap (λ (t : List ℕ). read_of (take n t)) (left-text op out n e)
    ∙ ap (λ (k : ℕ). read_of (take k (line_of op ++ drop n out))) p.is
    ∙ ap read_of (take-append_seam (line_of op) (drop n out))
    ∙ own_line op p.writable

pub write_read : (s : List ℕ) (op : Op) (out : List ℕ) → read_of s ≡ Ok op → length s ≤ length out → write_of op out ≡ record { answer = Ok (length s); out = s ++ drop (length s) out }
unfolding write_of
write_read s op out e h =
    let l = (line-exact s op).0 e in
    let n : length s ≡ length (line_of op) = ap length (sym l.text) in
    let a = (written-exact op (length out) (length s)).1 (record { writable = l.writable; is = n; fits = h }) in
    ap (λ (x : Result ℕ LineRefusal). line_outcome x (line_of op) out) a ∙ ap (λ (t : List ℕ). line_outcome (Ok (length s)) t out) l.text

-- a buffer with too little room, or an operation that cannot be written: nothing is changed
pub left-refused : (op : Op) (out : List ℕ) → ((n : ℕ) → (write_of op out).answer ≡ Ok n → ⊥) → (write_of op out).out ≡ out
unfolding write_of
left-refused op out f = by (line_answer op (length out)) f
  where
    by : (l : Result ℕ LineRefusal) → ((n : ℕ) → l ≡ Ok n → ⊥) → left_by l (line_of op) out ≡ out
    by (Ok n) g = absurd (g n refl)
    by (Err refusal) g = refl
