-- A run over pieces writes the listing of their bytes, wherever the input is cut.
use mathlib.Core.Path.{◌≡◌, refl, sym, ap, ◌∙◌}
use mathlib.Core.Bool.{Bool, true, false}
use mathlib.Core.List.{List, [], ◌∷◌, ◌++◌, append_assoc, append-nil}
use Prim.Native.Nat.{ℕ, ◌+◌, ◌-◌, ◌%◌, ◌≤◌, ◌<◌}
use native.Mathlib.Decide.{dec_le}
use native.Mathlib.Nat.{zero-add}
use native.Mathlib.Omega.{arith}
use borrow.Author.Tests.{lt-ltb, le-ltb}
use lib.ListN.{length, take, length-append}
use lib.Seq.{take-append-le, take-append-add}
use Rattle.isa.specs.Bytes.{words_of}
use Rattle.listing.specs.Listing.{PieceText, lines_of, tail_of, tail_line, total_line, limit_line, limit, over_of, last_of, more_of, part_of, listing_of, run_of, Whole, joined}
use Rattle.isa.proofs.Bytes.{words_append}
use Rattle.listing.proofs.Lines.{lines-append}

-- what is printed from the words done before on
abbrev pub list_from : ℕ → List ℕ → List ℕ
list_from done bytes = (part_of done bytes true).text

part-over : (done : ℕ) (bytes : List ℕ) (last : Bool) → limit < done + length (words_of bytes) → part_of done bytes last ≡ over_of done bytes
unfolding part_of
part-over done bytes last h = rw (lt-ltb limit (done + length (words_of bytes)) h)

part-last : (done : ℕ) (bytes : List ℕ) → done + length (words_of bytes) ≤ limit → part_of done bytes true ≡ last_of done bytes
unfolding part_of
part-last done bytes h = rw (le-ltb limit (done + length (words_of bytes)) h)

part-more : (done : ℕ) (bytes : List ℕ) → done + length (words_of bytes) ≤ limit → part_of done bytes false ≡ more_of done bytes
unfolding part_of
part-more done bytes h = rw (le-ltb limit (done + length (words_of bytes)) h)

text-of : {x y : PieceText} → x ≡ y → x.text ≡ y.text
text-of e = ap (λ (a : PieceText). a.text) e

-- one piece is the whole input
pub part-whole : (bytes : List ℕ) → list_from 0 bytes ≡ listing_of bytes
unfolding listing_of
part-whole bytes =
    elim (dec_le (length (words_of bytes)) limit) [
      | yes h ↦
          rw (le-ltb limit (length (words_of bytes)) h)
          (text-of (part-last 0 bytes (omega arith))
          ∙ ap (λ (n : ℕ). lines_of (words_of bytes) ++ tail_line (tail_of bytes) ++ total_line n) (zero-add (length (words_of bytes))))
      | no h ↦
          rw (lt-ltb limit (length (words_of bytes)) (omega arith))
          (text-of (part-over 0 bytes true (omega arith)))
    ]

-- a piece that stays within the limit, and what is printed from there on
pub part-split : (done : ℕ) (a b : List ℕ) → length a % 4 ≡ 0 → done + length (words_of a) ≤ limit
    → list_from done (a ++ b) ≡ lines_of (words_of a) ++ list_from (done + length (words_of a)) b
part-split done a b m h =
    let u : List ℕ = words_of a in
    let v : List ℕ = words_of b in
    let w : words_of (a ++ b) ≡ u ++ v = words_append a b m in
    let n : length (words_of (a ++ b)) ≡ length u + length v = ap length w ∙ length-append u v in
    elim (dec_le (done + length u + length v) limit) [
      | yes k ↦
          let tail : tail_of (a ++ b) ≡ tail_of b = omega (arith, length-append a b) in
          let total : done + length (words_of (a ++ b)) ≡ done + length u + length v = omega arith in
          text-of (part-last done (a ++ b) (omega arith))
          ∙ ap (λ (ws : List ℕ). lines_of ws ++ tail_line (tail_of (a ++ b)) ++ total_line (done + length (words_of (a ++ b)))) w
          ∙ ap (λ (k : ℕ). lines_of (u ++ v) ++ tail_line k ++ total_line (done + length (words_of (a ++ b)))) tail
          ∙ ap (λ (k : ℕ). lines_of (u ++ v) ++ tail_line (tail_of b) ++ total_line k) total
          ∙ rw (lines-append u v) (simp append_assoc)
          ∙ ap (λ (s : List ℕ). lines_of u ++ s) (sym (text-of (part-last (done + length u) b k)))
      | no k ↦
          let left : limit - done ≡ length u + (limit - (done + length u)) = omega arith in
          text-of (part-over done (a ++ b) true (omega arith))
          ∙ ap (λ (ws : List ℕ). lines_of ws ++ limit_line)
          (ap (take (limit - done)) w ∙ ap (λ (k : ℕ). take k (u ++ v)) left ∙ take-append-add u v (limit - (done + length u)))
          ∙ rw (lines-append u (take (limit - (done + length u)) v)) (append_assoc (lines_of u) (lines_of (take (limit - (done + length u)) v)) limit_line)
          ∙ ap (λ (s : List ℕ). lines_of u ++ s) (sym (text-of (part-over (done + length u) b true (omega arith))))
    ]

-- a piece that goes past the limit ends the output
pub part-past : (done : ℕ) (a b : List ℕ) → length a % 4 ≡ 0 → limit < done + length (words_of a) → list_from done (a ++ b) ≡ (part_of done a false).text
part-past done a b m h =
    let u : List ℕ = words_of a in
    let v : List ℕ = words_of b in
    let w : words_of (a ++ b) ≡ u ++ v = words_append a b m in
    let n : length (words_of (a ++ b)) ≡ length u + length v = ap length w ∙ length-append u v in
    text-of (part-over done (a ++ b) true (omega arith))
    ∙ ap (λ (ws : List ℕ). lines_of ws ++ limit_line) (ap (take (limit - done)) w ∙ take-append-le (limit - done) u v (omega arith))
    ∙ sym (text-of (part-over done a false h))

pieces-from : (done : ℕ) (pieces : List (List ℕ)) (bytes : List ℕ) → Whole pieces → run_of done pieces bytes ≡ list_from done (joined pieces bytes)
pieces-from done [] bytes h = refl
pieces-from done (piece ∷ pieces) bytes h =
    elim (dec_le (done + length (words_of piece)) limit) [
      | yes k ↦
          rw (part-more done piece k, pieces-from (done + length (words_of piece)) pieces bytes h.1)
          (sym (part-split done piece (joined pieces bytes) h.0 k))
      | no k ↦
          let past : limit < done + length (words_of piece) = omega arith in
          let ended : (part_of done piece false).ended ≡ true = ap (λ (a : PieceText). a.ended) (part-over done piece false past) in
          rw ended (append-nil (part_of done piece false).text ∙ sym (part-past done piece (joined pieces bytes) h.0 past))
    ]

pub listing-pieces : (pieces : List (List ℕ)) (bytes : List ℕ) → Whole pieces → run_of 0 pieces bytes ≡ listing_of (joined pieces bytes)
listing-pieces pieces bytes h = pieces-from 0 pieces bytes h ∙ part-whole (joined pieces bytes)
