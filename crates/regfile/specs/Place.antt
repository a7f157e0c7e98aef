-- What the search for a register's place relies on.
use Rattle.std.specs.Prelude.{◌≡◌, List, length, get_or, take, drop, ℕ, ◌-◌, ◌*◌, ◌/◌, ◌<◌, ◌≤◌}
use Rattle.isa.specs.File.{register_of}

-- a register's bytes are at most 256, and its number is below 32
pub record Short (w n : ℕ) : Type 0 where
  pub width : w ≤ 256
  pub number : n < 32

-- the product without n's last bit
pub record Half (half w n : ℕ) : Type 0 where
  pub width : w ≤ 256
  pub number : n < 32
  pub made : half ≡ n / 2 * w

-- where each register starts
pub record Starts (w : ℕ) (starts : List ℕ) : Type 0 where
  pub at : (r : ℕ) → r < 32 → get_or starts r 0 ≡ r * w

-- the numbers of three registers
pub record Numbers (d n m : ℕ) : Type 0 where
  pub dest : d < 32
  pub first : n < 32
  pub second : m < 32

-- from `start` to `end` stands the part that is handed out for register r, in every file of this size
pub record Cut (L size r start end : ℕ) : Type 0 where
  pub order : start ≤ end
  pub within : end ≤ size
  pub part : (file : List ℕ) → length file ≡ size → take (end - start) (drop start file) ≡ register_of L file r
