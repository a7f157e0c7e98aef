-- Traces as the recorders of request A9 write them: the bytes of a list of recordings, and what is to be said of a case that is as the run leaves it, of
-- one with a byte or the flag after changed, and of one whose run stops. The theorem `recorded` (proofs/Recorded.antt) says that it is.
use Rattle.std.specs.Prelude.{◌≡◌, List, [], ◌∷◌, ◌++◌, Bool, true, false, not, ℕ, ◌+◌, ◌*◌, ◌/◌, ◌%◌, ◌<◌, ◌≤◌, length, get_or, set}
use Rattle.std.proofs.Math.Option.{some}
use Rattle.std.proofs.Math.ListN.{get_elem?}
use Rattle.isa.specs.File.{legal}
use Rattle.isa.specs.Run.{Outcome, outcome_of}
use Rattle.isa.specs.declared.types.Ending.{Ending}
use Rattle.trace.specs.Trace.{length_at, count_at}
use Rattle.trace.specs.Verdict.{Body, accepted_of, judge_of}
use Rattle.trace.specs.Returned.{body_at}
use Rattle.trace.specs.declared.types.Verdict.{Verdict}
use Rattle.std.specs.Prelude.{Ok}

-- one case: the length in bits, QC before, file before, words, QC after, file after
pub record Recording : Type 0 where
  pub bits : ℕ
  pub before : Bool
  pub file : List ℕ
  pub words : List ℕ
  pub after : Bool
  pub left : List ℕ

-- ---- the writer

-- a number in four little-endian bytes
unfoldable pub four_of : ℕ → List ℕ
four_of n = n % 256 ∷ n / 256 % 256 ∷ n / 65536 % 256 ∷ n / 16777216 % 256 ∷ []

unfoldable pub fours_of : List ℕ → List ℕ
fours_of [] = []
fours_of (n ∷ ns) = four_of n ++ fours_of ns

abbrev pub flag_number : Bool → ℕ
flag_number true = 1
flag_number false = 0

unfoldable pub body_bytes : Recording → List ℕ
body_bytes r = four_of (flag_number r.before) ++ r.file ++ fours_of r.words ++ four_of (flag_number r.after) ++ r.left

-- an entry of the contents, of a body that starts at `start`
unfoldable pub entry_bytes : ℕ → Recording → List ℕ
entry_bytes start r = four_of r.bits ++ four_of (length r.words) ++ four_of start

-- the entries of bodies in order with no gap, the first at `start`
unfoldable pub entries_from : ℕ → List Recording → List ℕ
entries_from start [] = []
entries_from start (r ∷ rs) = entry_bytes start r ++ entries_from (start + length (body_bytes r)) rs

unfoldable pub bodies_of : List Recording → List ℕ
bodies_of [] = []
bodies_of (r ∷ rs) = body_bytes r ++ bodies_of rs

-- the number of cases, an entry for each, the bodies
unfoldable pub trace_of : List Recording → List ℕ
trace_of rs = four_of (length rs) ++ entries_from (4 + 12 * length rs) rs ++ bodies_of rs

-- ---- what can be recorded

pub record Recordable (r : Recording) : Type 0 where
  pub ok : legal r.bits ≡ true
  pub file : length r.file ≡ 4 * r.bits
  pub left : length r.left ≡ 4 * r.bits
  pub few : length r.words ≤ 4096
  pub words : (i : ℕ) → i < length r.words → get_or r.words i 0 < 4294967296

-- recording k is r
abbrev pub At : List Recording → ℕ → Recording → Type 0
At rs k r = get_elem? rs k ≡ some r

pub record AllRecordable (rs : List Recording) : Type 0 where
  pub each : (k : ℕ) (r : Recording) → At rs k r → Recordable r
  pub some : 1 ≤ length rs
  pub few : length rs ≤ 1024
  pub short : length (trace_of rs) ≤ 65536

-- ---- recordings of document 01's run

abbrev pub ran_of : Recording → Outcome
ran_of r = outcome_of r.bits r.file r.before r.words

-- the run executes all words and leaves the file after, with whatever flag
pub record FileOf (r : Recording) : Type 0 where
  pub done : (ran_of r).answer.ending ≡ Ending.Done
  pub left : (ran_of r).file ≡ r.left

-- and it leaves the flag after
pub record RunOf (r : Recording) : Type 0 where
  pub file : FileOf r
  pub flag : (ran_of r).answer.qc ≡ r.after

-- byte i of the file after is y instead
abbrev pub changed_byte : ℕ → ℕ → Recording → Recording
changed_byte i y r = record { bits = r.bits; before = r.before; file = r.file; words = r.words; after = r.after; left = set r.left i y }

abbrev pub turned_flag : Recording → Recording
turned_flag r = record { bits = r.bits; before = r.before; file = r.file; words = r.words; after = not r.after; left = r.left }

-- ---- what is read and said of their trace

abbrev pub read_as : Recording → Body
read_as r = record { before = flag_number r.before; file = r.file; words = r.words; after = flag_number r.after; left = r.left }

-- case k of a trace is the recording
pub record Reads (t : List ℕ) (k : ℕ) (r : Recording) : Type 0 where
  pub bits : length_at t k ≡ r.bits
  pub count : count_at t k ≡ length r.words
  pub body : body_at t k ≡ read_as r

-- case k has the verdict
abbrev pub Says : List Recording → ℕ → Verdict → Type 0
Says rs k v = judge_of (trace_of rs) k ≡ Ok v

pub record Recorded (rs : List Recording) : Type 0 where
  pub accepted : accepted_of (trace_of rs) ≡ Ok (length rs)
  pub reads : (k : ℕ) (r : Recording) → At rs k r → Reads (trace_of rs) k r
  pub agrees : (k : ℕ) (r : Recording) → At rs k r → RunOf r → Says rs k Verdict.Agrees
  -- of a byte that is changed, its place and the run's byte are told, whatever the flag after is
  pub byte :
      (k i y : ℕ) (r : Recording) → At rs k (changed_byte i y r) → FileOf r → i < 4 * r.bits → (get_or r.left i 0 ≡ y → ⊥) →
      Says rs k (Verdict.FileDiffers i (get_or r.left i 0))
  pub flag : (k : ℕ) (r : Recording) → At rs k (turned_flag r) → RunOf r → Says rs k Verdict.FlagDiffers
  -- of a run that stops, the word and why, whatever the flag and the file after are
  pub outside : (k : ℕ) (r : Recording) → At rs k r → (ran_of r).answer.ending ≡ Ending.Outside → Says rs k (Verdict.Outside (ran_of r).answer.done)
  pub reserved : (k : ℕ) (r : Recording) → At rs k r → (ran_of r).answer.ending ≡ Ending.Reserved → Says rs k (Verdict.Reserved (ran_of r).answer.done)
