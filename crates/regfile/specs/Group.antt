-- What the functions that work on the registers of a group say of the lent file.
use Rattle.std.specs.Prelude.{ℕ, ◌+◌, ◌*◌, ◌/◌, ◌%◌, ◌<◌, ◌≤◌, List, ◌≡◌, length, get_or}
use Rattle.isa.specs.Register.{Bytes}
use Rattle.regfile.specs.Sweep.{Held, bytes_from}

-- `count` registers from d on and one at m, in the file of a legal vector length; each starts where a register does
pub record GroupLying (L : ℕ) (file : List ℕ) (count d m : ℕ) : Type 0 where
  pub held : Held L file
  pub group : d + count * (L / 8) ≤ 4 * L
  pub second : m + L / 8 ≤ 4 * L
  pub group_start : d % (L / 8) ≡ 0
  pub second_start : m % (L / 8) ≡ 0

-- `after` is the file in which the rule has made each register of the group, of that register and of the one at m as they were
pub record GroupSwept (L count : ℕ) (rule : Bytes → Bytes → Bytes) (file : List ℕ) (d m : ℕ) (after : List ℕ) : Type 0 where
  pub sized : length after ≡ length file
  pub inside : (r j : ℕ) → r < count → j < L / 8 → get_or after (d + r * (L / 8) + j) 0 ≡ rule (bytes_from file (d + r * (L / 8))) (bytes_from file m) j
  pub low : (x : ℕ) → x < d → get_or after x 0 ≡ get_or file x 0
  pub high : (x : ℕ) → d + count * (L / 8) ≤ x → get_or after x 0 ≡ get_or file x 0
