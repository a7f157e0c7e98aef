-- The numbers of requests A9 and A10 for every case of every answer, and the values returned beside them. For the verdicts that the request does not number, the
-- kinds are those of the calls for C.
use Rattle.std.specs.Prelude.{ℕ}
use Rattle.trace.specs.declared.types.Verdict.{Verdict}
use Rattle.trace.specs.declared.types.Told.{Told}
use Rattle.trace.specs.declared.types.TraceRefusal.{TraceRefusal}
use Rattle.trace.specs.declared.types.CaseRefusal.{CaseRefusal}
use Rattle.trace.specs.Stream.{End}
use Rattle.std.specs.Prelude.{Result, Ok, Err}

-- ---- a verdict: its kind, and the place: a byte of the file, or a word. The byte beside a place that differs is the run's (`compared`; `compared-differs`)

abbrev pub verdict_kind : Verdict → ℕ
verdict_kind Verdict.Agrees = 1
verdict_kind (Verdict.FileDiffers i x) = 2
verdict_kind Verdict.FlagDiffers = 3
verdict_kind (Verdict.Outside k) = 4
verdict_kind (Verdict.Reserved k) = 5
verdict_kind Verdict.BadFlag = 17

abbrev pub verdict_place : Verdict → ℕ
verdict_place Verdict.Agrees = 0
verdict_place (Verdict.FileDiffers i x) = i
verdict_place Verdict.FlagDiffers = 0
verdict_place (Verdict.Outside k) = k
verdict_place (Verdict.Reserved k) = k
verdict_place Verdict.BadFlag = 0

-- ---- a trace: 0 with the number of cases, 15 and 16 with none

abbrev pub trace_refusal : TraceRefusal → ℕ
trace_refusal TraceRefusal.BadContents = 15
trace_refusal TraceRefusal.BadTotal = 16

abbrev pub accepted_number : Result ℕ TraceRefusal → ℕ
accepted_number (Ok cases) = 0
accepted_number (Err refusal) = trace_refusal refusal

abbrev pub accepted_cases : Result ℕ TraceRefusal → ℕ
accepted_cases (Ok cases) = cases
accepted_cases (Err refusal) = 0

-- ---- a case asked for: 0 with the verdict, 15, 16 and 22 with none

abbrev pub case_refusal : CaseRefusal → ℕ
case_refusal CaseRefusal.BadContents = 15
case_refusal CaseRefusal.BadTotal = 16
case_refusal CaseRefusal.NoCase = 22

abbrev pub judged_number : Result Verdict CaseRefusal → ℕ
judged_number (Ok v) = 0
judged_number (Err refusal) = case_refusal refusal

-- the verdict's, and 0 where there is none
abbrev pub judged_kind : Result Verdict CaseRefusal → ℕ
judged_kind (Ok v) = verdict_kind v
judged_kind (Err refusal) = 0

abbrev pub judged_place : Result Verdict CaseRefusal → ℕ
judged_place (Ok v) = verdict_place v
judged_place (Err refusal) = 0

-- ---- a stream: how it ended, and what a call tells: 0 with a verdict or nothing, 15 and 16 with none

abbrev pub end_number : End → ℕ
end_number (Ok whole) = 0
end_number (Err refusal) = trace_refusal refusal

abbrev pub told_number : Told → ℕ
told_number Told.Nothing = 0
told_number (Told.Case v) = 0
told_number (Told.Over e) = end_number e

abbrev pub told_kind : Told → ℕ
told_kind Told.Nothing = 0
told_kind (Told.Case v) = verdict_kind v
told_kind (Told.Over e) = 0

abbrev pub told_place : Told → ℕ
told_place Told.Nothing = 0
told_place (Told.Case v) = verdict_place v
told_place (Told.Over e) = 0
