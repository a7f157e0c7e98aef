-- What `kob_register` answers.
use Rattle.std.specs.Prelude.{ℕ, ◌+◌, ◌*◌, ◌/◌, ◌%◌, ◌<◌, List, take, drop, Ok, Err}
use Rattle.isa.specs.Check.{Check}
use Rattle.isa.specs.File.{register_check}
use Rattle.isa.specs.Number.{asked_number}
use Rattle.isa.specs.declared.types.RegisterRefusal.{RegisterRefusal}

-- the start in bits 16 to 39, the length in bits 40 to 63
unfoldable pub part_packed : ℕ → ℕ → ℕ
part_packed start length = start * 0x1_0000 + length * 0x100_0000_0000

-- both have room there
pub record Place (start length : ℕ) : Type 0 where
  pub start_fits : start < 0x100_0000
  pub length_fits : length < 0x100_0000

-- the number in bits 0 to 7; start and length are 0 on a refusal
abbrev pub packed_asked : Check RegisterRefusal → ℕ → ℕ
packed_asked (Ok found) part = asked_number (Ok found) + part
packed_asked (Err refusal) part = asked_number (Err refusal)

-- register n has L/8 bytes and stands behind the n registers before it
unfoldable pub register_call : ℕ → ℕ → ℕ → ℕ
register_call L size n = packed_asked (register_check L size n) (part_packed (n * (L / 8)) (L / 8))

-- the part that a caller finds by the start and the length of an answer
abbrev pub part_at : List ℕ → ℕ → List ℕ
part_at file answer = take (answer / 0x100_0000_0000) (drop (answer / 0x1_0000 % 0x100_0000) file)
