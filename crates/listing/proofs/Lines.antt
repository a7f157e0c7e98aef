-- The lines of words: how long they are, one line more, and the loop that puts them.
use mathlib.Core.Path.{◌≡◌, refl, sym, ap, ◌∙◌, subst}
use mathlib.Core.List.{List, [], ◌∷◌, ◌++◌, append_assoc, append-nil}
use Prim.Native.Nat.{ℕ, ◌+◌, ◌*◌, ◌/◌, ◌%◌, ◌^◌, ◌≤◌, ◌<◌}
use native.Mathlib.Numerals.{add-one}
use native.Mathlib.Omega.{arith}
use lib.Dec.{lit≤}
use lib.ListN.{length, get_or, take, length-append}
use lib.Seq.{take-suc}
use Rattle.isa.specs.Decode.{decode_of}
use Rattle.isa.specs.declared.types.Op.{Op}
use Rattle.isa.specs.declared.types.Decoded.{Decoded}
use Rattle.isa.specs.Bytes.{word_at, words_of}
use Rattle.listing.specs.Listing.{ascii, operation_name, name_of, hex_of, word_line, lines_of}
use Rattle.listing.specs.Call.{Wrote}
use Rattle.listing.proofs.WithText.{wrote_none, wrote_then}
use Rattle.isa.proofs.Bytes.{words-length, words-at}

operation-short : (op : Op) → length (ascii (operation_name op)) ≤ 11
operation-short (Op.Cadd a) = lit≤ tt
operation-short (Op.Sqcadd a) = lit≤ tt
operation-short (Op.Cmla a) = lit≤ tt
operation-short (Op.CmlaIndexed a) = lit≤ tt
operation-short (Op.Sqrdcmlah a) = lit≤ tt
operation-short (Op.SqrdcmlahIndexed a) = lit≤ tt
operation-short (Op.Sqrdmlah a) = lit≤ tt
operation-short (Op.Sqrdmlsh a) = lit≤ tt
operation-short (Op.Sqdmulh a) = lit≤ tt

pub name-short : (d : Decoded) → length (name_of d) ≤ 11
unfolding name_of
name-short (Decoded.Operation op) = operation-short op
name-short Decoded.Reserved = lit≤ tt
name-short Decoded.Outside = lit≤ tt

hex-length : (w : ℕ) → length (hex_of w ++ ascii " ") ≡ 9
unfolding hex_of
hex-length w = refl

pub line-short : (w : ℕ) → length (word_line w) ≤ 21
unfolding word_line
line-short w =
    omega (
      arith,
      hex-length w,
      name-short (decode_of w),
      length-append (hex_of w ++ ascii " ") (name_of (decode_of w)),
      length-append (hex_of w ++ ascii " " ++ name_of (decode_of w)) (ascii "\n"),
    )

-- the digits, the name and the line's end, one after the other
pub line_wrote : {out : List ℕ} {at : ℕ} {hex : List ℕ} {n : ℕ} {out₁ name : List ℕ} {m : ℕ} {out₂ : List ℕ} {r : ℕ} {out₃ : List ℕ} (w : ℕ)
    → at + 21 ≤ length out → hex ≡ hex_of w ++ ascii " " → name ≡ name_of (decode_of w)
    → Wrote out at hex n out₁ → Wrote out₁ n name m out₂ → Wrote out₂ m (ascii "\n") r out₃ → Wrote out at (word_line w) r out₃
unfolding word_line
line_wrote {out} {at} {hex} {n} {out₁} {name} {m} {out₂} {r} {out₃} w h e f x y z =
    let x' : Wrote out at (hex_of w ++ ascii " ") n out₁ = subst (λ (s : List ℕ). Wrote out at s n out₁) e x in
    let y' : Wrote out₁ n (name_of (decode_of w)) m out₂ = subst (λ (s : List ℕ). Wrote out₁ n s m out₂) f y in
    let short = name-short (decode_of w) in
    let nine = hex-length w in
    wrote_then (wrote_then x' y' (omega arith)) z (omega (arith, length-append (hex_of w ++ ascii " ") (name_of (decode_of w))))

pub lines-append : (a b : List ℕ) → lines_of (a ++ b) ≡ lines_of a ++ lines_of b
unfolding lines_of
lines-append [] b = refl
lines-append (w ∷ a) b = rw (lines-append a b) (sym (append_assoc (word_line w) (lines_of a) (lines_of b)))

pub lines-short : (ws : List ℕ) → length (lines_of ws) ≤ 21 * length ws
unfolding lines_of
lines-short [] = lit≤ tt
lines-short (w ∷ ws) = omega (arith, length-append (word_line w) (lines_of ws), line-short w, lines-short ws)

lines_more : (ws : List ℕ) (k : ℕ) → k < length ws → lines_of (take (k + 1) ws) ≡ lines_of (take k ws) ++ word_line (get_or ws k 0)
unfolding lines_of
lines_more ws k h =
    ap (λ (n : ℕ). lines_of (take n ws)) (add-one k)
    ∙ ap lines_of (take-suc ws k 0 h)
    ∙ lines-append (take k ws) (get_or ws k 0 ∷ [])
    ∙ ap (λ (s : List ℕ). lines_of (take k ws) ++ s) (append-nil (word_line (get_or ws k 0)))

-- the loop: the lines of the words passed are in place
pub record Putting (bytes out₀ : List ℕ) (count : ℕ) (out : List ℕ) (at k : ℕ) : Type 0 where
  pub within : k ≤ count
  pub below : at ≤ 21 * k
  pub sized : length out ≡ length out₀
  pub wrote : Wrote out₀ 0 (lines_of (take k (words_of bytes))) at out

pub putting-starts : (bytes out : List ℕ) (count : ℕ) → Putting bytes out count out 0 0
unfolding lines_of
putting-starts bytes out count = record { within = omega arith; below = lit≤ tt; sized = refl; wrote = wrote_none out 0 }

-- a shift by 2 of a word's number is its place
pub word-place : (bytes : List ℕ) (k : ℕ) → k < length bytes / 4 → length bytes < 2 ^ 64 → k * 4 % 2 ^ 64 ≡ k * 4
word-place bytes k h l = omega arith

pub putting-on : {bytes out₀ : List ℕ} {count : ℕ} {out : List ℕ} {at k word next : ℕ} {out₁ : List ℕ} → Putting bytes out₀ count out at k
    → k < count → count ≤ length bytes / 4 → 21 * count ≤ length out₀ → length bytes < 2 ^ 64
    → word ≡ word_at bytes (k * 4 % 2 ^ 64) → length out₁ ≡ length out → Wrote out at (word_line word) next out₁
    → Putting bytes out₀ count out₁ next (k + 1)
putting-on {bytes} {out₀} {count} {out} {at} {k} {word} {next} {out₁} p h c r l e s w =
    let ws : List ℕ = words_of bytes in
    let is : word ≡ get_or ws k 0 = e ∙ ap (word_at bytes) (word-place bytes k (omega arith) l) ∙ words-at bytes k (omega arith) in
    let w' : Wrote out at (word_line (get_or ws k 0)) next out₁ = subst (λ (x : ℕ). Wrote out at (word_line x) next out₁) is w in
    let short = line-short (get_or ws k 0) in
    let many = words-length bytes in
    let past = w'.past in
    let start = p.wrote.past in
    record {
      within = omega arith;
      below = omega arith;
      sized = s ∙ p.sized;
      wrote =
          subst (λ (t : List ℕ). Wrote out₀ 0 t next out₁) (sym (lines_more ws k (omega arith)))
          (wrote_then p.wrote w' (omega arith));
    }

pub putting-ends : {bytes out₀ : List ℕ} {count : ℕ} {out : List ℕ} {at k : ℕ} → Putting bytes out₀ count out at k → count ≤ k
    → Wrote out₀ 0 (lines_of (take count (words_of bytes))) at out
putting-ends {bytes} {out₀} {count} {out} {at} {k} p h =
    let e : k ≡ count = omega arith in
    subst (λ (n : ℕ). Wrote out₀ 0 (lines_of (take n (words_of bytes))) at out) e p.wrote
