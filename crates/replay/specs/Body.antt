-- A body, its words and its files.
use Rattle.std.specs.Prelude.{◌≡◌, ℕ, ◌+◌, ◌*◌, ◌<◌, ◌≤◌, List, true, length, get_or}
use Rattle.isa.specs.Bytes.{word_at}
use Rattle.isa.specs.File.{legal}
use Rattle.trace.specs.Trace.{body_size}

-- a body of an accepted trace
pub record Whole (L W : ℕ) (body : List ℕ) : Type 0 where
  pub ok : legal L ≡ true
  pub few : W ≤ 4096
  pub sized : length body ≡ body_size L W

-- its file before, the bytes of its words and its file after
pub record Parts (L : ℕ) (file words left : List ℕ) : Type 0 where
  pub ok : legal L ≡ true
  pub sized : length file ≡ 4 * L
  pub few : length words ≤ 16384
  pub beside : length left ≡ 4 * L

-- the first n words are those from a place on
pub record WordsFrom (bytes : List ℕ) (at n : ℕ) (words : List ℕ) : Type 0 where
  pub there : n ≤ length words
  pub each : (i : ℕ) → i < n → get_or words i 0 ≡ word_at bytes (at + 4 * i)

-- two files are the same up to place n
abbrev pub Alike : List ℕ → List ℕ → ℕ → Type 0
Alike xs ys n = (i : ℕ) → i < n → get_or xs i 0 ≡ get_or ys i 0

-- and in the next `count` bytes
abbrev pub AlikeFrom : List ℕ → List ℕ → ℕ → ℕ → Type 0
AlikeFrom xs ys n count = (i : ℕ) → i < count → get_or xs (n + i) 0 ≡ get_or ys (n + i) 0

-- the first place that differs, or the end
pub record Differing (xs ys : List ℕ) (n : ℕ) : Type 0 where
  pub within : n ≤ length xs
  pub alike : Alike xs ys n
  pub here : n < length xs → get_or xs n 0 ≡ get_or ys n 0 → ⊥
