-- The segments at one place of each register of a group.
use Rattle.std.specs.Prelude.{ℕ, ◌+◌, ◌*◌, ◌<◌, ◌≤◌, List, [], ◌≡◌, length, get_or}
use Rattle.isa.specs.Register.{Bytes}
use Rattle.isa.specs.Segment.{bytes_of}
use Rattle.regfile.specs.Sweep.{bytes_from}

-- `count` segments in a list, the first at `at`, from each to the next w bytes
pub record Spread (size at w count : ℕ) : Type 0 where
  pub apart : 16 ≤ w
  pub room : (r : ℕ) → r < count → at + r * w + 16 ≤ size
  pub short : at + count * w < 16384

-- `new` has what the rule makes of each of these segments and of z
pub record Worked (rule : Bytes → Bytes → Bytes) (file : List ℕ) (at w count : ℕ) (z : List ℕ) (new : List (List ℕ)) : Type 0 where
  pub makes : (r i : ℕ) → r < count → i < 16 → bytes_of (get_or new r []) i ≡ rule (bytes_from file (at + r * w)) (bytes_of z) i

-- `after` is the file with `new` stored in these segments
pub record Filed (file : List ℕ) (at w count : ℕ) (new : List (List ℕ)) (after : List ℕ) : Type 0 where
  pub size : length after ≡ length file
  pub inside : (r i : ℕ) → r < count → i < 16 → get_or after (at + r * w + i) 0 ≡ bytes_of (get_or new r []) i
  pub beside : (x : ℕ) → ((r i : ℕ) → r < count → i < 16 → x ≡ at + r * w + i → ⊥) → get_or after x 0 ≡ get_or file x 0
