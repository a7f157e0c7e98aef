-- The alphabet as the code holds it: a text of up to three bytes is one number, the bytes from the lowest on and its length above them.
use Rattle.std.specs.Prelude.{ℕ, zero, suc, ◌+◌, ◌-◌, ◌*◌, ◌/◌, ◌%◌, ◌^◌, ◌<◌, ◌≡◌, cond, List, [], ◌∷◌, map, eqb, get_or, Option, Some, None}
use Rattle.grammar.specs.Template.{Choices, numbers, texts, decimal}
use Rattle.grammar.specs.Grammar.{letter_count}
use Rattle.grammar.specs.Follow.{is_digit, place_of, found}

-- so many bytes of a number, the lowest first
unfoldable pub unpack : ℕ → ℕ → List ℕ
unpack zero p = []
unpack (suc n) p = p % 256 ∷ unpack n (p / 256)

unfoldable pub text_bytes : ℕ → List ℕ
text_bytes p = unpack (p / 16777216) p

-- of each letter, a byte each from the lowest on: the place of its first text, two to which power its texts stand apart, and how many it has.
-- Those of numbers begin below 32
abbrev pub rows : List ℕ
rows =
    0x10_0100 ∷ 0x10_0101 ∷ 0x01_0000 ∷ 0x20_0000 ∷ 0x08_0200 ∷ 0x08_0203 ∷ 0x01_0000 ∷ 0x10_0000 ∷ 0x08_0000 ∷
    0x04_0000 ∷ 0x02_0000 ∷ 0x08_0000 ∷ 0x20_0000 ∷ 0x20_0000 ∷ 0x01_0000 ∷ 0x02_002c ∷ 0x02_002a ∷ 0x04_0020 ∷
    0x02_0024 ∷ 0x04_0026 ∷ 0x01_0000 ∷ 0x01_0000 ∷ 0x01_0000 ∷ 0x01_0000 ∷ 0x01_0000 ∷ 0x01_0000 ∷ []

-- the row of a letter; and what the code needs of one: its texts stand in the table, at most four apart
pub record RowOf (x row : ℕ) : Type 0 where
  pub low : x < letter_count
  pub is : row ≡ get_or rows x 0

pub record Row (row : ℕ) : Type 0 where
  pub near : row / 256 % 256 < 3
  pub within : (v : ℕ) → v < row / 65536 % 256 → row % 256 + v * 2 ^ (row / 256 % 256) < 46

abbrev pub first_of : ℕ → ℕ
first_of x = get_or rows x 0 % 256

abbrev pub shift_of : ℕ → ℕ
shift_of x = get_or rows x 0 / 256 % 256

abbrev pub count_of : ℕ → ℕ
count_of x = get_or rows x 0 / 65536 % 256

-- 0 to 31; 0, 90, 180, 270; 90, 270; B, H, S, D; 4, 8; 2, 4
abbrev pub packed_texts : List ℕ
packed_texts =
    0x0100_0030 ∷ 0x0100_0031 ∷ 0x0100_0032 ∷ 0x0100_0033 ∷ 0x0100_0034 ∷ 0x0100_0035 ∷
    0x0100_0036 ∷ 0x0100_0037 ∷ 0x0100_0038 ∷ 0x0100_0039 ∷ 0x0200_3031 ∷ 0x0200_3131 ∷
    0x0200_3231 ∷ 0x0200_3331 ∷ 0x0200_3431 ∷ 0x0200_3531 ∷ 0x0200_3631 ∷ 0x0200_3731 ∷
    0x0200_3831 ∷ 0x0200_3931 ∷ 0x0200_3032 ∷ 0x0200_3132 ∷ 0x0200_3232 ∷ 0x0200_3332 ∷
    0x0200_3432 ∷ 0x0200_3532 ∷ 0x0200_3632 ∷ 0x0200_3732 ∷ 0x0200_3832 ∷ 0x0200_3932 ∷
    0x0200_3033 ∷ 0x0200_3133 ∷ 0x0100_0030 ∷ 0x0200_3039 ∷ 0x0330_3831 ∷ 0x0330_3732 ∷
    0x0200_3039 ∷ 0x0330_3732 ∷ 0x0100_0042 ∷ 0x0100_0048 ∷ 0x0100_0053 ∷ 0x0100_0044 ∷
    0x0100_0034 ∷ 0x0100_0038 ∷ 0x0100_0032 ∷ 0x0100_0034 ∷ []

-- a letter's numbers, and its texts
abbrev pub numbers_of : Choices → List ℕ
numbers_of (numbers ns) = ns
numbers_of (texts ws) = []

abbrev pub texts_of : Choices → List (List ℕ)
texts_of (numbers ns) = map decimal ns
texts_of (texts ws) = ws

-- the digit that a text begins with
unfoldable pub digit_of : List ℕ → Option ℕ
digit_of [] = None
digit_of (b ∷ s) = cond (is_digit b) (Some (b - 48)) None

-- the place of a number, where it is there; and of the number that a digit and another, or a text, make
unfoldable pub placed : ℕ → List ℕ → Option ℕ
placed m ns = cond (found (place_of m ns) ns) (Some (place_of m ns)) None

abbrev pub placed_with : List ℕ → ℕ → Option ℕ → Option ℕ
placed_with ns f None = None
placed_with ns f (Some e) = placed (f * 10 + e) ns

unfoldable pub placed_two : List ℕ → ℕ → List ℕ → Option ℕ
placed_two ns f s = cond (eqb f 0) None (placed_with ns f (digit_of s))
