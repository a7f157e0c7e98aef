-- What `kob_replay` answers.
use Rattle.std.specs.Prelude.{◌≡◌, ℕ, ◌+◌, ◌*◌, ◌/◌, ◌%◌, ◌<◌, List, Result}
use Rattle.trace.specs.Number.{judged_number, judged_kind, judged_place}
use Rattle.trace.specs.Verdict.{judge_of}
use Rattle.trace.specs.declared.types.Verdict.{Verdict}
use Rattle.trace.specs.declared.types.CaseRefusal.{CaseRefusal}

-- the number in bits 0 to 7, the kind in bits 8 to 15, the place from bit 16 on
unfoldable pub judged_packed : Result Verdict CaseRefusal → ℕ
judged_packed j = judged_number j + judged_kind j * 0x100 + judged_place j * 0x1_0000

unfoldable pub replay_call : List ℕ → ℕ → ℕ
replay_call t n = judged_packed (judge_of t n)

-- the number in bits 0 to 7, the kind in bits 8 to 15, the place in bits 16 to 31, and no other bit
pub record ReplayBits (j : Result Verdict CaseRefusal) (n : ℕ) : Type 0 where
  pub number : n % 0x100 ≡ judged_number j
  pub kind : n / 0x100 % 0x100 ≡ judged_kind j
  pub place : n / 0x1_0000 ≡ judged_place j
  pub size : n < 0x1_0000_0000
