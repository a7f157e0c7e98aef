-- What is said of a case, over the run of document 01 (`outcome_of`), and of a trace. Request A9.
use Rattle.std.specs.Prelude.{ℕ, suc, ◌+◌, ◌*◌, List, [], ◌∷◌, Bool, true, false, ◌&&◌, ltb, eqb, take, drop}
use Rattle.std.specs.Bool.{beq}
use Rattle.isa.specs.Bytes.{word_at, words_of}
use Rattle.isa.specs.Run.{Outcome, outcome_of}
use Rattle.isa.specs.declared.types.Ending.{Ending}
use Rattle.trace.specs.Trace.{cases_of, length_at, count_at, body_of, contents_allowed, total_allowed}
use Rattle.trace.specs.declared.types.Verdict.{Verdict}
use Rattle.trace.specs.declared.types.TraceRefusal.{TraceRefusal}
use Rattle.trace.specs.declared.types.CaseRefusal.{CaseRefusal}
use Rattle.std.specs.Prelude.{Result, Ok, Err}

-- ---- a body of length L and W words: QC before, file before, words, QC after, and in `left` the file after

pub record Body : Type 0 where
  pub before : ℕ
  pub file : List ℕ
  pub words : List ℕ
  pub after : ℕ
  pub left : List ℕ

unfoldable pub parts_of : ℕ → ℕ → List ℕ → Body
parts_of L W body = record {
  before = word_at body 0;
  file = take (4 * L) (drop 4 body);
  words = words_of (take (4 * W) (drop (4 + 4 * L) body));
  after = word_at body (4 + 4 * L + 4 * W);
  left = drop (8 + 4 * L + 4 * W) body;
}

-- a flag is 0 or 1
abbrev pub is_flag : ℕ → Bool
is_flag n = ltb n 2

abbrev pub flag_of : ℕ → Bool
flag_of n = eqb n 1

-- ---- the verdict

abbrev pub pick_verdict : Bool → Verdict → Verdict → Verdict
pick_verdict true a b = a
pick_verdict false a b = b

-- the first byte in which the file that the run left, xs, differs from the file after, ys, from place i on; v where there is none
unfoldable pub compared : ℕ → List ℕ → List ℕ → Verdict → Verdict
compared i [] ys v = v
compared i (x ∷ xs) [] v = v
compared i (x ∷ xs) (y ∷ ys) v = pick_verdict (eqb x y) (compared (suc i) xs ys v) (Verdict.FileDiffers i x)

abbrev pub flags : Bool → Bool → Verdict
flags left after = pick_verdict (beq left after) Verdict.Agrees Verdict.FlagDiffers

-- a run's outcome beside the flag and the file after; a run that stopped is not compared
abbrev pub ended_verdict : Ending → Outcome → Bool → List ℕ → Verdict
ended_verdict Ending.Done o after left = compared 0 o.file left (flags o.answer.qc after)
ended_verdict Ending.Outside o after left = Verdict.Outside o.answer.done
ended_verdict Ending.Reserved o after left = Verdict.Reserved o.answer.done
-- no case of an accepted trace ends so (`case-runs`)
ended_verdict Ending.BadLength o after left = Verdict.BadFlag
ended_verdict Ending.NotPowerOfTwo o after left = Verdict.BadFlag
ended_verdict Ending.BadSize o after left = Verdict.BadFlag
ended_verdict Ending.TooLong o after left = Verdict.BadFlag

abbrev pub besides : Outcome → Bool → List ℕ → Verdict
besides o after left = ended_verdict o.answer.ending o after left

-- 17 comes ahead of every other verdict
abbrev pub verdict_on : ℕ → Body → Verdict
verdict_on L b =
    pick_verdict (is_flag b.before && is_flag b.after)
    (besides (outcome_of L b.file (flag_of b.before) b.words) (flag_of b.after) b.left)
    Verdict.BadFlag

unfoldable pub verdict_of : ℕ → ℕ → List ℕ → Verdict
verdict_of L W body = verdict_on L (parts_of L W body)

-- case k of a trace of any size
unfoldable pub case_of : List ℕ → ℕ → Verdict
case_of t k = verdict_of (length_at t k) (count_at t k) (body_of t k)

-- ---- a trace: 15, then 16

abbrev pub pick_accepted : Bool → Result ℕ TraceRefusal → Result ℕ TraceRefusal → Result ℕ TraceRefusal
pick_accepted true a b = a
pick_accepted false a b = b

unfoldable pub accepted_of : List ℕ → Result ℕ TraceRefusal
accepted_of t = pick_accepted (contents_allowed t) (pick_accepted (total_allowed t) (Ok (cases_of t)) (Err TraceRefusal.BadTotal)) (Err TraceRefusal.BadContents)

-- ---- a case asked for by its number: then 22

abbrev pub pick_judged : Bool → Result Verdict CaseRefusal → Result Verdict CaseRefusal → Result Verdict CaseRefusal
pick_judged true a b = a
pick_judged false a b = b

-- a case has the refusals of its trace
abbrev pub of_trace : TraceRefusal → CaseRefusal
of_trace TraceRefusal.BadContents = CaseRefusal.BadContents
of_trace TraceRefusal.BadTotal = CaseRefusal.BadTotal

abbrev pub judged_after : Result ℕ TraceRefusal → List ℕ → ℕ → Result Verdict CaseRefusal
judged_after (Ok cases) t n = pick_judged (ltb n cases) (Ok (case_of t n)) (Err CaseRefusal.NoCase)
judged_after (Err refusal) t n = Err (of_trace refusal)

unfoldable pub judge_of : List ℕ → ℕ → Result Verdict CaseRefusal
judge_of t n = judged_after (accepted_of t) t n
