-- Bytes read from a list, bytes stored into one, and bytes cleared.
use Rattle.std.specs.Prelude.{◌≡◌, ℕ, ◌+◌, ◌<◌, ◌≤◌, List, length, get_or}

-- the first `count` bytes of a list are those from `at` on in the file
pub record Loaded (file : List ℕ) (at count : ℕ) (bytes : List ℕ) : Type 0 where
  pub read : (i : ℕ) → i < count → get_or bytes i 0 ≡ get_or file (at + i) 0

-- `after` is the file with the first `count` bytes of a list stored from `at` on
pub record Stored (file : List ℕ) (at count : ℕ) (new after : List ℕ) : Type 0 where
  pub size : length after ≡ length file
  pub inside : (i : ℕ) → i < count → get_or after (at + i) 0 ≡ get_or new i 0
  pub low : (x : ℕ) → x < at → get_or after x 0 ≡ get_or file x 0
  pub high : (x : ℕ) → at + count ≤ x → get_or after x 0 ≡ get_or file x 0

-- `after` is the file with zeros from byte `from` up to byte `to`
pub record Cleared (file : List ℕ) (from to : ℕ) (after : List ℕ) : Type 0 where
  pub size : length after ≡ length file
  pub inside : (x : ℕ) → from ≤ x → x < to → get_or after x 0 ≡ 0
  pub low : (x : ℕ) → x < from → get_or after x 0 ≡ get_or file x 0
  pub high : (x : ℕ) → to ≤ x → get_or after x 0 ≡ get_or file x 0
