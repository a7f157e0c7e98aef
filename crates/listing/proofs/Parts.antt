-- What listing a piece leaves: the three cases, the whole call, and exactly when it answers what (`list-exact`).
use mathlib.Core.Path.{◌≡◌, refl, sym, ap, ◌∙◌, subst}
use mathlib.Core.Logic.{◌↔◌}
use mathlib.Core.Bool.{Bool, true, false}
use Rattle.std.proofs.Common.{Option, Some, None}
use mathlib.Core.List.{List, ◌++◌}
use Prim.Native.Nat.{ℕ, ◌+◌, ◌*◌, ◌-◌, ◌/◌, ◌≤◌, ◌<◌}
use native.Mathlib.Decide.{dec_le}
use native.Mathlib.Nat.{zero-add}
use native.Mathlib.Omega.{arith}
use borrow.Author.Tests.{lt-ltb, le-ltb, le-leb, lt-leb, leb-true, leb-false}
use lib.Dec.{leb, ltb}
use lib.ListN.{length, take, drop, length-append, take-append-drop}
use lib.Seq.{take_all}
use Rattle.isa.specs.Bytes.{words_of}
use Rattle.listing.specs.Listing.{PieceText, ascii, lines_of, tail_of, tail_line, total_line, limit_line, limit, over_of, last_of, more_of, part_of}
use Rattle.listing.specs.Call.{Wrote, PartOutcome, room_for, text_outcome, outcome_of_part, ListReturns, ListsAs}
use Rattle.isa.specs.Number.{listed_number, listed_part}
use Rattle.isa.specs.declared.types.ListedPart.{ListedPart}
use Rattle.listing.proofs.WithText.{with-start, wrote_then}
use Rattle.isa.proofs.Bytes.{words-length}
use Rattle.listing.proofs.Lines.{lines-short}
use Rattle.listing.proofs.Decimal.{count-short, tail-short}

-- a text that was put at the buffer's start
text-outcome : {out : List ℕ} {r : ℕ} {out₁ : List ℕ} (a : PieceText) → Wrote out 0 a.text r out₁
    → record { answer = Some (record { length = r; done = a.done; ended = a.ended }); out = out₁ } ≡ text_outcome a out
text-outcome {out} {r} {out₁} a w =
    let p : r ≡ length a.text = w.past ∙ zero-add (length a.text) in
    let q : out₁ ≡ a.text ++ drop (length a.text) out = w.held ∙ with-start out a.text in
    rw (p, q)

take_below : (n : ℕ) (s : List ℕ) → length (take n s) ≤ length s
take_below n s = omega (arith, ap length (take-append-drop n s), length-append (take n s) (drop n s))

-- the lines fit their part of the room
pub lines_fit : (bytes : List ℕ) (count : ℕ) → length (lines_of (take count (words_of bytes))) ≤ 21 * (length bytes / 4)
lines_fit bytes count = omega (arith, lines-short (take count (words_of bytes)), take_below count (words_of bytes), words-length bytes)

-- the first so many words are all
all_words : (bytes : List ℕ) → take (length bytes / 4) (words_of bytes) ≡ words_of bytes
all_words bytes = take_all (length bytes / 4) (words_of bytes) (omega (arith, words-length bytes))

all_lines : {out : List ℕ} {n : ℕ} {out₁ : List ℕ} (bytes : List ℕ) → Wrote out 0 (lines_of (take (length bytes / 4) (words_of bytes))) n out₁ → Wrote out 0 (lines_of (words_of bytes)) n out₁
all_lines {out} {n} {out₁} bytes w = subst (λ (ws : List ℕ). Wrote out 0 (lines_of ws) n out₁) (all_words bytes) w

all_fit : (bytes : List ℕ) → length (lines_of (words_of bytes)) ≤ 21 * (length bytes / 4)
all_fit bytes = omega (arith, lines-short (words_of bytes), words-length bytes)

pub over-outcome : {out : List ℕ} {left n : ℕ} {out₁ : List ℕ} {r : ℕ} {out₂ : List ℕ} (done : ℕ) (bytes : List ℕ) → room_for bytes ≤ length out → left ≡ limit - done
    → Wrote out 0 (lines_of (take left (words_of bytes))) n out₁ → Wrote out₁ n limit_line r out₂
    → record { answer = Some (record { length = r; done = done + left; ended = true }); out = out₂ } ≡ text_outcome (over_of done bytes) out
over-outcome {out} {left} {n} {out₁} {r} {out₂} done bytes room e v w =
    let v' : Wrote out 0 (lines_of (take (limit - done) (words_of bytes))) n out₁ = subst (λ (k : ℕ). Wrote out 0 (lines_of (take k (words_of bytes))) n out₁) e v in
    rw e (text-outcome (over_of done bytes) (wrote_then v' w (omega (arith, lines_fit bytes (limit - done)))))

pub more-outcome : {out : List ℕ} {r : ℕ} {out₁ : List ℕ} (done : ℕ) (bytes : List ℕ) → Wrote out 0 (lines_of (take (length bytes / 4) (words_of bytes))) r out₁
    → record { answer = Some (record { length = r; done = done + length bytes / 4; ended = false }); out = out₁ } ≡ text_outcome (more_of done bytes) out
more-outcome done bytes w = rw (sym (words-length bytes)) (text-outcome (more_of done bytes) (all_lines bytes w))

pub last-outcome : {out : List ℕ} {n : ℕ} {out₁ : List ℕ} {m : ℕ} {out₂ : List ℕ} {r : ℕ} {out₃ : List ℕ} (done : ℕ) (bytes : List ℕ)
    → room_for bytes ≤ length out → done + length bytes / 4 ≤ limit
    → Wrote out 0 (lines_of (take (length bytes / 4) (words_of bytes))) n out₁ → Wrote out₁ n (tail_line (tail_of bytes)) m out₂ → Wrote out₂ m (total_line (done + length bytes / 4)) r out₃
    → record { answer = Some (record { length = r; done = done + length bytes / 4; ended = true }); out = out₃ } ≡ text_outcome (last_of done bytes) out
last-outcome {out} {n} {out₁} {m} {out₂} {r} {out₃} done bytes room h u v w =
    let e : done + length bytes / 4 ≡ done + length (words_of bytes) = ap (λ (k : ℕ). done + k) (sym (words-length bytes)) in
    let w' : Wrote out₂ m (total_line (done + length (words_of bytes))) r out₃ = subst (λ (k : ℕ). Wrote out₂ m (total_line k) r out₃) e w in
    let lines = all_fit bytes in
    let tail = tail-short (tail_of bytes) (omega arith) in
    let total = count-short (ascii "TOTAL ") (done + length (words_of bytes)) (omega arith) in
    rw e
    (text-outcome (last_of done bytes)
    (wrote_then (wrote_then (all_lines bytes u) v (omega arith)) w'
    (omega (arith, length-append (lines_of (words_of bytes)) (tail_line (tail_of bytes))))))

-- the call: no room
pub call-room : (done : ℕ) (bytes : List ℕ) (last : Bool) (out : List ℕ) → leb (room_for bytes) (length out) ≡ false → record { answer = None; out = out } ≡ outcome_of_part done bytes last out
unfolding outcome_of_part
call-room done bytes last out e = rw (lt-ltb (length out) (room_for bytes) (leb-false (room_for bytes) (length out) e))

call-text : (done : ℕ) (bytes : List ℕ) (last : Bool) (out : List ℕ) → leb (room_for bytes) (length out) ≡ true → outcome_of_part done bytes last out ≡ text_outcome (part_of done bytes last) out
unfolding outcome_of_part
call-text done bytes last out e = rw (le-ltb (length out) (room_for bytes) (leb-true (room_for bytes) (length out) e))

pub call-over : (done : ℕ) (bytes : List ℕ) (last : Bool) (out : List ℕ) → leb (room_for bytes) (length out) ≡ true → ltb limit (done + length bytes / 4) ≡ true
    → text_outcome (over_of done bytes) out ≡ outcome_of_part done bytes last out
unfolding part_of
call-over done bytes last out e h = rw (call-text done bytes last out e, words-length bytes, h)

pub call-last : (done : ℕ) (bytes : List ℕ) (last : Bool) (out : List ℕ) → leb (room_for bytes) (length out) ≡ true → ltb limit (done + length bytes / 4) ≡ false → last ≡ true
    → text_outcome (last_of done bytes) out ≡ outcome_of_part done bytes last out
unfolding part_of
call-last done bytes last out e h l = rw (call-text done bytes last out e, words-length bytes, h, l)

pub call-more : (done : ℕ) (bytes : List ℕ) (last : Bool) (out : List ℕ) → leb (room_for bytes) (length out) ≡ true → ltb limit (done + length bytes / 4) ≡ false → last ≡ false
    → text_outcome (more_of done bytes) out ≡ outcome_of_part done bytes last out
unfolding part_of
call-more done bytes last out e h l = rw (call-text done bytes last out e, words-length bytes, h, l)

-- ---- when each number is given

module _ (done : ℕ) (bytes : List ℕ) (last : Bool) (out : List ℕ) where
  lists : {n : ℕ} {part : List ListedPart} {left : List ℕ} → ListReturns done bytes last out n part left → ListsAs done bytes last out n part left
  unfolding listed_number listed_part
  lists (ListReturns.listed h) = rw (call-text done bytes last out (le-leb (room_for bytes) (length out) h)) (refl, (refl, refl))
  lists (ListReturns.no_room h) = rw (sym (call-room done bytes last out (lt-leb (room_for bytes) (length out) h))) (refl, (refl, refl))

  -- what is returned is one of the lines, and the lines tell everything, so it is that one
  the_same : {n m : ℕ} {part q : List ListedPart} {left after : List ℕ} → ListReturns done bytes last out n part left → ListsAs done bytes last out n part left → ListsAs done bytes last out m q after →
      ListReturns done bytes last out m q after
  the_same {n} {m} {part} {q} {left} {after} r a b =
      subst (λ k. ListReturns done bytes last out k q after) (sym a.0 ∙ b.0)
      (subst (λ p. ListReturns done bytes last out n p after) (sym a.1.0 ∙ b.1.0)
      (subst (ListReturns done bytes last out n part) (sym a.1.1 ∙ b.1.1) r))

  returned : {n : ℕ} {part : List ListedPart} {left : List ℕ} → Dec (room_for bytes ≤ length out) → ListsAs done bytes last out n part left → ListReturns done bytes last out n part left
  returned (yes h) a = the_same (ListReturns.listed h) (lists (ListReturns.listed h)) a
  returned (no h) a =
      let short : length out < room_for bytes = omega arith in
      the_same (ListReturns.no_room short) (lists (ListReturns.no_room short)) a

  pub list-exact : (n : ℕ) (part : List ListedPart) (left : List ℕ) → ListsAs done bytes last out n part left ↔ ListReturns done bytes last out n part left
  list-exact n part left = (returned (dec_le (room_for bytes) (length out)), lists)

-- for a caller: a text that was answered lies within the buffer
abbrev listed-length : Option ListedPart → ℕ
listed-length (Some p) = p.length
listed-length None = 0

text-length : (a : PieceText) (out : List ℕ) → length a.text ≤ length (text_outcome a out).out
text-length a out = omega (arith, length-append a.text (drop (length a.text) out))

outcome-within : (done : ℕ) (bytes : List ℕ) (last : Bool) (out : List ℕ) → listed-length (outcome_of_part done bytes last out).answer ≤ length (outcome_of_part done bytes last out).out
outcome-within done bytes last out =
    elim (dec_le (room_for bytes) (length out)) [
      | yes h ↦ rw (call-text done bytes last out (le-leb (room_for bytes) (length out) h)) (text-length (part_of done bytes last) out)
      | no h ↦ rw (sym (call-room done bytes last out (lt-leb (room_for bytes) (length out) (omega arith)))) (omega arith)
    ]

pub text-within : {r : Option ListedPart} {after : List ℕ} (done : ℕ) (bytes : List ℕ) (last : Bool) (out : List ℕ) (p : ListedPart)
    → record { answer = r; out = after } ≡ outcome_of_part done bytes last out → r ≡ Some p → p.length ≤ length after
text-within {r} {after} done bytes last out p e f =
    let l : p.length ≡ listed-length (outcome_of_part done bytes last out).answer = ap listed-length (sym f ∙ ap (λ (o : PartOutcome). o.answer) e) in
    let m : length after ≡ length (outcome_of_part done bytes last out).out = ap (λ (o : PartOutcome). length o.out) e in
    omega (arith, outcome-within done bytes last out)
