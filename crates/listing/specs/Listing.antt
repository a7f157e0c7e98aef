-- What the listing program prints: document 01, 'The listing program'.
use Rattle.std.specs.Prelude.{ℕ, zero, suc, ◌+◌, ◌-◌, ◌/◌, ◌%◌, ◌≡◌, Bool, true, false, List, [], ◌∷◌, ◌++◌, ltb, length, get_or, take}
use Prim.Native.Char.{code}
use Prim.Native.String.{String, [] as none, ◌∷◌ as ◌then◌}
use Rattle.isa.specs.Bytes.{words_of}
use Rattle.isa.specs.Decode.{decode_of}
use Rattle.isa.specs.declared.types.Op.{Op}
use Rattle.isa.specs.declared.types.Decoded.{Decoded}

-- the codes of a text's characters
abbrev pub ascii : String → List ℕ
ascii none = []
ascii (c then s) = code c ∷ ascii s

-- how many bytes are left over behind the whole words
abbrev pub tail_of : List ℕ → ℕ
tail_of bytes = length bytes % 4

abbrev pub hex_digit : ℕ → ℕ
hex_digit n = get_or (ascii "0123456789ABCDEF") n 0

-- eight digits, the highest first
unfoldable pub hex_of : ℕ → List ℕ
hex_of w =
    hex_digit (w / 0x1000_0000 % 16) ∷
    hex_digit (w / 0x100_0000 % 16) ∷
    hex_digit (w / 0x10_0000 % 16) ∷
    hex_digit (w / 0x1_0000 % 16) ∷
    hex_digit (w / 0x1000 % 16) ∷
    hex_digit (w / 0x100 % 16) ∷
    hex_digit (w / 0x10 % 16) ∷
    hex_digit (w % 16) ∷ []

abbrev pub operation_name : Op → String
operation_name (Op.Cadd a) = "CADD"
operation_name (Op.Sqcadd a) = "SQCADD"
operation_name (Op.Cmla a) = "CMLA"
operation_name (Op.CmlaIndexed a) = "CMLA-I"
operation_name (Op.Sqrdcmlah a) = "SQRDCMLAH"
operation_name (Op.SqrdcmlahIndexed a) = "SQRDCMLAH-I"
operation_name (Op.Sqrdmlah a) = "SQRDMLAH"
operation_name (Op.Sqrdmlsh a) = "SQRDMLSH"
operation_name (Op.Sqdmulh a) = "SQDMULH"

unfoldable pub name_of : Decoded → List ℕ
name_of (Decoded.Operation op) = ascii (operation_name op)
name_of Decoded.Reserved = ascii "RESERVED"
name_of Decoded.Outside = ascii "OUTSIDE"

unfoldable pub word_line : ℕ → List ℕ
word_line w = hex_of w ++ ascii " " ++ name_of (decode_of w) ++ ascii "\n"

unfoldable pub lines_of : List ℕ → List ℕ
lines_of [] = []
lines_of (w ∷ ws) = word_line w ++ lines_of ws

abbrev pub pick_text : Bool → List ℕ → List ℕ → List ℕ
pick_text true a b = a
pick_text false a b = b

-- the digits of n, of which there are at most `most`
unfoldable pub digits_of : ℕ → ℕ → List ℕ
digits_of zero n = []
digits_of (suc most) n = pick_text (ltb n 10) (hex_digit n ∷ []) (digits_of most (n / 10) ++ (hex_digit (n % 10) ∷ []))

-- n in decimal, with no leading zeros: n + 1 digits are always enough
unfoldable pub decimal_of : ℕ → List ℕ
decimal_of n = digits_of (suc n) n

-- a label, a number in decimal and the line's end
unfoldable pub count_line : List ℕ → ℕ → List ℕ
count_line label n = label ++ decimal_of n ++ ascii "\n"

-- no line where there is no tail
abbrev pub tail_line : ℕ → List ℕ
tail_line zero = []
tail_line (suc n) = count_line (ascii "TAIL ") (suc n)

abbrev pub total_line : ℕ → List ℕ
total_line n = count_line (ascii "TOTAL ") n

abbrev pub limit_line : List ℕ
limit_line = ascii "LIMIT\n"

-- the most words that are listed
abbrev pub limit : ℕ
limit = 1048576

-- the whole output for a whole input
unfoldable pub listing_of : List ℕ → List ℕ
listing_of bytes =
    pick_text (ltb limit (length (words_of bytes)))
    (lines_of (take limit (words_of bytes)) ++ limit_line)
    (lines_of (words_of bytes) ++ tail_line (tail_of bytes) ++ total_line (length (words_of bytes)))

-- what one piece of the input adds: text, the words listed with it, and whether the output is complete
pub record PieceText : Type 0 where
  pub text : List ℕ
  pub done : ℕ
  pub ended : Bool

abbrev pub pick_piece : Bool → PieceText → PieceText → PieceText
pick_piece true a b = a
pick_piece false a b = b

-- more words than may be listed: the lines up to the limit, and LIMIT
abbrev pub over_of : ℕ → List ℕ → PieceText
over_of done bytes =
    record {
      text = lines_of (take (limit - done) (words_of bytes)) ++ limit_line;
      done = done + (limit - done);
      ended = true;
    }

-- the input's last bytes: all lines, and the last lines
abbrev pub last_of : ℕ → List ℕ → PieceText
last_of done bytes =
    record {
      text = lines_of (words_of bytes) ++ tail_line (tail_of bytes) ++ total_line (done + length (words_of bytes));
      done = done + length (words_of bytes);
      ended = true;
    }

-- bytes that others follow: a tail of them is dropped, so they are a multiple of 4
abbrev pub more_of : ℕ → List ℕ → PieceText
more_of done bytes = record { text = lines_of (words_of bytes); done = done + length (words_of bytes); ended = false }

-- `done` words were listed before; a `done` above the limit, which no run reaches, lists nothing more
unfoldable pub part_of : ℕ → List ℕ → Bool → PieceText
part_of done bytes last =
    pick_piece (ltb limit (done + length (words_of bytes))) (over_of done bytes)
    (pick_piece last (last_of done bytes) (more_of done bytes))

-- what a run writes that is fed the pieces in order and then the last bytes: it stops at the first part that ends the output
abbrev pub run_of : ℕ → List (List ℕ) → List ℕ → List ℕ
run_of done [] bytes = (part_of done bytes true).text
run_of done (piece ∷ pieces) bytes =
    (part_of done piece false).text ++ pick_text (part_of done piece false).ended [] (run_of (part_of done piece false).done pieces bytes)

-- the pieces have a multiple of 4 bytes each
abbrev pub Whole : List (List ℕ) → Type 0
Whole [] = Unit {0}
Whole (piece ∷ pieces) = (length piece % 4 ≡ 0) × Whole pieces

-- all bytes of the pieces, and the last bytes behind them
abbrev pub joined : List (List ℕ) → List ℕ → List ℕ
joined [] bytes = bytes
joined (piece ∷ pieces) bytes = piece ++ joined pieces bytes
