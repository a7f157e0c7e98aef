-- Request A9: when each number and each verdict is given. A line holds where its own condition does and no earlier check applies. The theorems
-- `accept-exact` and `judge-exact` (proofs/Returned.antt) say that the definitions answer so, exactly.
use Rattle.std.specs.Prelude.{◌≡◌, ℕ, ◌+◌, ◌*◌, ◌<◌, ◌≤◌, true, List, length, get_or}
use Rattle.isa.specs.File.{legal}
use Rattle.isa.specs.Number.{run_number}
use Rattle.isa.specs.Run.{State, Outcome, outcome_of}
use Rattle.isa.specs.Returned.{RunReturns}
use Rattle.isa.specs.declared.types.Ending.{Ending}
use Rattle.trace.specs.Trace.{cases_of, length_at, count_at, start_at, begins, total_of, body_of}
use Rattle.trace.specs.Verdict.{Body, parts_of, flag_of, accepted_of, judge_of}
use Rattle.trace.specs.Number.{accepted_number, accepted_cases, judged_number, judged_kind, judged_place}

-- ---- 15: what the contents have to be

-- the length, the word count and the start of case k
pub record EntryAllowed (t : List ℕ) (k : ℕ) : Type 0 where
  pub ok : legal (length_at t k) ≡ true
  pub few : count_at t k ≤ 4096
  pub start : start_at t k ≡ begins t k

pub record ContentsAllowed (t : List ℕ) : Type 0 where
  pub whole : 4 + 12 * cases_of t ≤ length t
  pub some : 1 ≤ cases_of t
  pub few : cases_of t ≤ 1024
  pub entries : (k : ℕ) → k < cases_of t → EntryAllowed t k

-- ---- 16: how long the trace has to be

pub record TotalAllowed (t : List ℕ) : Type 0 where
  pub short : length t ≤ 65536
  pub exact : length t ≡ total_of t

-- ---- the check of a trace: the number, and how many cases

pub data AcceptReturns (t : List ℕ) : ℕ → ℕ → Type 0 where
  accepted : ContentsAllowed t → TotalAllowed t → AcceptReturns t 0 (cases_of t)
  bad_contents : (ContentsAllowed t → ⊥) → AcceptReturns t 15 0
  bad_total : ContentsAllowed t → (TotalAllowed t → ⊥) → AcceptReturns t 16 0

abbrev pub AcceptsAs : List ℕ → ℕ → ℕ → Type 0
AcceptsAs t n cases = (accepted_number (accepted_of t) ≡ n) × (accepted_cases (accepted_of t) ≡ cases)

-- ---- the verdict of a case: its kind and its place

-- QC before and after are 0 or 1
pub record FlagsAllowed (b : Body) : Type 0 where
  pub before : b.before ≤ 1
  pub after : b.after ≤ 1

-- document 01's run of the body's words ends with the number, and leaves the state
abbrev pub BodyRuns : ℕ → Body → ℕ → State → Type 0
BodyRuns L b = RunReturns L b.file (flag_of b.before) b.words

abbrev pub run_of : ℕ → Body → Outcome
run_of L b = outcome_of L b.file (flag_of b.before) b.words

-- a run that is refused for nothing: its number and its ending (`case-runs`: that of every case of an accepted trace)
pub data RunEnds : ℕ → Ending → Type 0 where
  done : RunEnds 0 Ending.Done
  outside : RunEnds 4 Ending.Outside
  reserved : RunEnds 5 Ending.Reserved

abbrev pub NotRefused : Outcome → Type 0
NotRefused o = RunEnds (run_number o) o.answer.ending

-- byte i is the first in which two files differ
pub record FirstDifference (i : ℕ) (xs ys : List ℕ) : Type 0 where
  pub within : i < length xs
  pub earlier : (j : ℕ) → j < i → get_or xs j 0 ≡ get_or ys j 0
  pub here : get_or xs i 0 ≡ get_or ys i 0 → ⊥

pub data CaseReturns (L : ℕ) (b : Body) : ℕ → ℕ → Type 0 where
  bad_flag : (FlagsAllowed b → ⊥) → CaseReturns L b 17 0
  outside : (s : State) → FlagsAllowed b → BodyRuns L b 4 s → CaseReturns L b 4 s.done
  reserved : (s : State) → FlagsAllowed b → BodyRuns L b 5 s → CaseReturns L b 5 s.done
  file_differs : (s : State) (i : ℕ) → FlagsAllowed b → BodyRuns L b 0 s → FirstDifference i s.file b.left → CaseReturns L b 2 i
  flag_differs : (s : State) → FlagsAllowed b → BodyRuns L b 0 s → s.file ≡ b.left → (s.qc ≡ flag_of b.after → ⊥) → CaseReturns L b 3 0
  agrees : (s : State) → FlagsAllowed b → BodyRuns L b 0 s → s.file ≡ b.left → s.qc ≡ flag_of b.after → CaseReturns L b 1 0

-- ---- a case asked for by its number: the number, and the verdict's kind and place; 15, 16 and 22 have none

abbrev pub body_at : List ℕ → ℕ → Body
body_at t k = parts_of (length_at t k) (count_at t k) (body_of t k)

pub data JudgeReturns (t : List ℕ) (k : ℕ) : ℕ → ℕ → ℕ → Type 0 where
  bad_contents : (ContentsAllowed t → ⊥) → JudgeReturns t k 15 0 0
  bad_total : ContentsAllowed t → (TotalAllowed t → ⊥) → JudgeReturns t k 16 0 0
  no_case : ContentsAllowed t → TotalAllowed t → cases_of t ≤ k → JudgeReturns t k 22 0 0
  judged : (kind place : ℕ) → ContentsAllowed t → TotalAllowed t → k < cases_of t → CaseReturns (length_at t k) (body_at t k) kind place →
      JudgeReturns t k 0 kind place

abbrev pub JudgesAs : List ℕ → ℕ → ℕ → ℕ → ℕ → Type 0
JudgesAs t k n kind place = (judged_number (judge_of t k) ≡ n) × (judged_kind (judge_of t k) ≡ kind) × (judged_place (judge_of t k) ≡ place)
