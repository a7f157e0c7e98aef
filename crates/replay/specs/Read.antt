-- A number read at a place of a trace.
use Rattle.std.specs.Prelude.{◌≡◌, ℕ, ◌+◌, List, cond, length, leb, Option, Some, None}
use Rattle.isa.specs.Bytes.{word_at}

-- the number at a place, where the trace has its four bytes
unfoldable pub number_at : List ℕ → ℕ → Option ℕ
number_at s at = cond (leb (at + 4) (length s)) (Some (word_at s at)) None

-- a reader is behind a number that it gave, and stays where there is none
abbrev pub Moved : Option ℕ → ℕ → ℕ → Type 0
Moved (Some n) old new = new ≡ old + 4
Moved None old new = new ≡ old
