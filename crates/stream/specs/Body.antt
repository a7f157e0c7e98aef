-- What is kept of a body of length L and W words of which the bytes b have come: the run's file and flag so far, and what is said so far. The file after
-- is not kept: it is compared as it comes.
use Rattle.std.specs.Prelude.{ℕ, ◌+◌, ◌*◌, ◌-◌, ◌/◌, List, [], ◌++◌, Bool, true, false, ◌&&◌, ◌||◌, ◌≡◌, leb, ltb, length, drop, replicate}
use Rattle.isa.specs.Bytes.{word_at}
use Rattle.isa.specs.Run.{Outcome, outcome_of}
use Rattle.isa.specs.declared.types.Ending.{Ending}
use Rattle.trace.specs.Verdict.{parts_of, is_flag, flag_of, pick_verdict, verdict_of}
use Rattle.trace.specs.declared.types.Verdict.{Verdict}
use Rattle.stream.specs.declared.state.Standing.{Standing}
use Rattle.stream.specs.declared.state.Course.{Course}

-- n bytes that begin with s, and zeros
unfoldable pub padded : ℕ → List ℕ → List ℕ
padded n s = s ++ replicate (n - length s) 0

abbrev pub pick_bytes : Bool → List ℕ → List ℕ → List ℕ
pick_bytes true a b = a
pick_bytes false a b = b

abbrev pub pick_number : Bool → ℕ → ℕ → ℕ
pick_number true a b = a
pick_number false a b = b

-- QC before, and 0 until it is whole
abbrev pub before_in : List ℕ → ℕ
before_in b = pick_number (leb 4 (length b)) (word_at b 0) 0

-- the run of the words that have come, on the bytes of the file before that have come; of none where QC before is neither 0 nor 1
unfoldable pub ran_in : ℕ → ℕ → List ℕ → Outcome
ran_in L W b = outcome_of L (parts_of L W b).file (flag_of (before_in b)) (pick_bytes (is_flag (before_in b)) (parts_of L W b).words [])

-- what is known of a case from its run: that it stopped, and where. A file that is not whole yet says nothing
abbrev pub stop_said : Ending → ℕ → Verdict
stop_said Ending.Outside n = Verdict.Outside n
stop_said Ending.Reserved n = Verdict.Reserved n
stop_said Ending.Done n = Verdict.Agrees
stop_said Ending.BadLength n = Verdict.Agrees
stop_said Ending.NotPowerOfTwo n = Verdict.Agrees
stop_said Ending.BadSize n = Verdict.Agrees
stop_said Ending.TooLong n = Verdict.Agrees

-- before QC after is whole
abbrev pub said_early : ℕ → ℕ → List ℕ → Verdict
said_early L W b = pick_verdict (is_flag (before_in b)) (stop_said (ran_in L W b).answer.ending (ran_in L W b).answer.done) Verdict.BadFlag

-- from then on it is the verdict by as much of the file after as has come
unfoldable pub standing_in : ℕ → ℕ → List ℕ → Standing
standing_in L W b = record {
  said = pick_verdict (leb (8 + 4 * L + 4 * W) (length b)) (verdict_of L W b) (said_early L W b);
  qc = (ran_in L W b).answer.qc;
}

-- whether byte n of a body is one of a file
abbrev pub in_file : ℕ → ℕ → ℕ → Bool
in_file L W n = (leb 4 n && ltb n (4 + 4 * L)) || leb (8 + 4 * L + 4 * W) n

-- the bytes of a number that is not whole
unfoldable pub held_in : ℕ → ℕ → List ℕ → List ℕ
held_in L W b = pick_bytes (in_file L W (length b)) [] (drop (length b / 4 * 4) b)

-- what is kept of the body
pub record Stands (L W : ℕ) (b image : List ℕ) (s : Standing) : Type 0 where
  pub file : image ≡ padded 8192 (ran_in L W b).file
  pub standing : s ≡ standing_in L W b

pub record InBody (L W : ℕ) (b image : List ℕ) (c : Course) : Type 0 where
  pub at : c.at ≡ length b
  pub held : c.held ≡ padded 4 (held_in L W b)
  pub stands : Stands L W b image c.standing
