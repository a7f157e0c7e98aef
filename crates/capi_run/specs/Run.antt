-- What `kob_run` answers, and the file that it leaves.
use Rattle.std.specs.Prelude.{◌≡◌, ℕ, ◌+◌, ◌*◌, ◌/◌, ◌%◌, ◌<◌, eqb, Bool, true, false, List}
use Rattle.isa.specs.Number.{ending_number}
use Rattle.isa.specs.Run.{Outcome, outcome_of}
use Rattle.isa.specs.declared.types.Ran.{Ran}

-- the flag in bit 8
abbrev pub flag_packed : Bool → ℕ
flag_packed true = 0x100
flag_packed false = 0

-- the number in bits 0 to 7, the flag in bit 8, the words done from bit 16 on
unfoldable pub ran_packed : Ran → ℕ
ran_packed r = ending_number r.ending + flag_packed r.qc + r.done * 0x1_0000

pub record RunAnswer : Type 0 where
  pub answer : ℕ
  pub file : List ℕ

abbrev pub packed_outcome : Outcome → RunAnswer
packed_outcome o = record { answer = ran_packed o.answer; file = o.file }

unfoldable pub run_call : ℕ → List ℕ → Bool → List ℕ → RunAnswer
run_call L file qc words = packed_outcome (outcome_of L file qc words)

-- the number in bits 0 to 7, the flag in bit 8, the words done in bits 16 to 31, and no other bit
pub record RunBits (r : Ran) (n : ℕ) : Type 0 where
  pub number : n % 0x100 ≡ ending_number r.ending
  pub flag : eqb (n / 0x100 % 0x100) 1 ≡ r.qc
  pub done : n / 0x1_0000 ≡ r.done
  pub size : n < 0x1_0000_0000
