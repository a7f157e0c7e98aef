-- What a stream says of a trace of any size, by A9's rules. The theorem `streamed` (proofs/Streamed.antt) says that it does, however the trace is cut.
use Rattle.std.specs.Prelude.{ℕ, zero, suc, ◌<◌, ◌≤◌, ◌≡◌, List, [], ◌∷◌, ◌++◌, true, false, eqb, length, take}
use Rattle.std.proofs.Math.Option.{some}
use Rattle.std.proofs.Math.ListN.{get_elem?}
use Rattle.trace.specs.Trace.{cases_of, begins, total_of, contents_allowed}
use Rattle.trace.specs.Verdict.{case_of, judge_of}
use Rattle.trace.specs.Stream.{End, pick_end, due_of}
use Rattle.trace.specs.Feed.{Fed}
use Rattle.trace.specs.declared.types.Verdict.{Verdict}
use Rattle.trace.specs.declared.types.Told.{Told}
use Rattle.trace.specs.declared.types.TraceRefusal.{TraceRefusal}
use Rattle.std.specs.Prelude.{Result, Ok, Err}

-- 15, then 16 for a wrong total
unfoldable pub ending_of : List ℕ → End
ending_of t = pick_end (contents_allowed t) (pick_end (eqb (length t) (total_of t)) (Ok tt) (Err TraceRefusal.BadTotal)) (Err TraceRefusal.BadContents)

-- what A9 answers of a trace where a stream of the same bytes ends so
abbrev pub accepted_by : End → List ℕ → Result ℕ TraceRefusal
accepted_by (Ok whole) t = Ok (cases_of t)
accepted_by (Err refusal) t = Err refusal

-- the verdicts of n cases from case k on
unfoldable pub verdicts_from : List ℕ → ℕ → ℕ → List Verdict
verdicts_from t k zero = []
verdicts_from t k (suc n) = case_of t k ∷ verdicts_from t (suc k) n

-- all bytes of t, then an end: A9's refusal but for its upper size, and A9's verdicts of the cases 0, 1, .. whose bodies are whole in t, each once and
-- in order; none where the contents are refused
pub record Streamed (t : List ℕ) (verdicts : List Verdict) (end : End) : Type 0 where
  pub ends : end ≡ ending_of t
  pub n : ℕ
  pub told : verdicts ≡ verdicts_from t 0 n
  pub few : n ≤ cases_of t
  pub none : contents_allowed t ≡ false → n ≡ 0
  pub there : contents_allowed t ≡ true → begins t n ≤ length t
  pub all : contents_allowed t ≡ true → n < cases_of t → length t < begins t (suc n)

-- of a trace that A9 accepts, with c cases (`verdict-is-replay`): the end is no refusal, there are c verdicts, and verdict k is the one that asking for case k gives
pub record Replayed (t : List ℕ) (c : ℕ) (verdicts : List Verdict) (end : End) : Type 0 where
  pub complete : end ≡ Ok tt
  pub count : length verdicts ≡ c
  pub verdict : (k : ℕ) → k < c → get_elem? verdicts k ≡ some (case_of t k)
  pub judged : (k : ℕ) → k < c → judge_of t k ≡ Ok (case_of t k)

-- a verdict falls due with the last byte of its body alone (`verdict-due`, proofs/Due.antt)
pub record EndsBody (h : List ℕ) (v : Verdict) : Type 0 where
  pub k : ℕ
  pub below : k < cases_of h
  pub here : length h ≡ begins h (suc k)
  pub verdict : v ≡ case_of h k

-- a call behind the bytes h (`takes_first`, proofs/Calls.antt): it takes its bytes up to and with the first that brings something, else all
pub record TakesFirst (h bytes : List ℕ) (f : Fed) : Type 0 where
  pub within : f.taken ≤ length bytes
  pub some : 0 < length bytes → 0 < f.taken
  pub none : f.taken ≡ 0 → f.told ≡ Told.Nothing
  pub quiet : (j : ℕ) → 0 < j → j < f.taken → due_of (h ++ take j bytes) ≡ Told.Nothing
  pub told : 0 < f.taken → f.told ≡ due_of (h ++ take f.taken bytes)
  pub all : f.told ≡ Told.Nothing → f.taken ≡ length bytes
