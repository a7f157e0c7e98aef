-- What the code's functions say to each other.
use Rattle.std.specs.Prelude.{ℕ, ◌+◌, ◌*◌, ◌%◌, ◌<◌, ◌≤◌, List, [], ◌∷◌, ◌++◌, Bool, true, ◌&&◌, leb, ltb, ◌≡◌, length, take, drop}
use Rattle.isa.specs.Bytes.{words_of}
use Rattle.isa.specs.File.{legal}
use Rattle.isa.specs.Run.{Outcome, outcome_of}
use Rattle.trace.specs.Trace.{cases_of, length_at, count_at, body_size}
use Rattle.trace.specs.Verdict.{is_flag, flag_of, flags, compared, pick_verdict}
use Rattle.trace.specs.Stream.{due_of, Listing, Within, Status, live, over}
use Rattle.trace.specs.Feed.{Fed, status_after, feed_from, feed_of, end_of}
use Rattle.trace.specs.declared.types.Verdict.{Verdict}
use Rattle.trace.specs.declared.types.Told.{Told}
use Rattle.stream.specs.Body.{stop_said, Stands, InBody}
use Rattle.stream.specs.Kept.{ended_marks, KeptListing, KeptWithin, Kept}
use Rattle.stream.specs.declared.state.Standing.{Standing}
use Rattle.stream.specs.declared.state.Course.{Course}
use Rattle.stream.specs.declared.state.Marks.{Marks}
use Rattle.stream.specs.declared.state.Stepped.{Stepped}
use Rattle.trace.specs.Stream.{End}

-- ---- a case

-- one of two, by whether anything is known of the case but that it agrees
abbrev pub pick_agrees : {A : Type 0} → Verdict → A → A → A
pick_agrees Verdict.Agrees a b = a
pick_agrees (Verdict.FileDiffers i x) a b = b
pick_agrees Verdict.FlagDiffers a b = b
pick_agrees (Verdict.Outside k) a b = b
pick_agrees (Verdict.Reserved k) a b = b
pick_agrees Verdict.BadFlag a b = b

-- one of two, by whether the file after is still to be compared
abbrev pub pick_open : {A : Type 0} → Verdict → A → A → A
pick_open Verdict.Agrees a b = a
pick_open (Verdict.FileDiffers i x) a b = b
pick_open Verdict.FlagDiffers a b = a
pick_open (Verdict.Outside k) a b = b
pick_open (Verdict.Reserved k) a b = b
pick_open Verdict.BadFlag a b = b

-- QC before
abbrev pub standing_before : ℕ → Standing
standing_before n = record { said = pick_verdict (is_flag n) Verdict.Agrees Verdict.BadFlag; qc = flag_of n }

-- words behind `done` others, on a file
pub record Worked : Type 0 where
  pub standing : Standing
  pub file : List ℕ

abbrev pub worked_by : Outcome → ℕ → Worked
worked_by o done = record { standing = record { said = stop_said o.answer.ending (done + o.answer.done); qc = o.answer.qc }; file = o.file }

abbrev pub worked : ℕ → ℕ → Standing → List ℕ → List ℕ → Worked
worked L done s file words = pick_agrees s.said (worked_by (outcome_of L file s.qc (words_of words)) done) (record { standing = s; file = file })

-- QC after
abbrev pub standing_after : Standing → ℕ → Standing
standing_after s n = record { said = pick_verdict (is_flag n) (pick_agrees s.said (flags s.qc (flag_of n)) s.said) Verdict.BadFlag; qc = s.qc }

-- bytes of the file after, beside those that the run left from a place on
abbrev pub standing_beside : Standing → ℕ → List ℕ → List ℕ → Standing
standing_beside s from left bytes = record { said = pick_open s.said (compared from left bytes s.said) s.said; qc = s.qc }

-- ---- a body

-- a length and a word count that the contents allow
pub record Allowed (L W : ℕ) : Type 0 where
  pub ok : legal L ≡ true
  pub few : W ≤ 4096

-- byte `at` is one of such a body
abbrev pub allowed_at : ℕ → ℕ → ℕ → Bool
allowed_at L W at = (legal L && leb W 4096) && ltb at (body_size L W)

-- a number of a body ends with `at` bytes of it
pub record NumberEnds (L W at : ℕ) : Type 0 where
  pub whole : at % 4 ≡ 0
  pub some : 4 ≤ at
  pub part : 4 < at → 8 + 4 * L ≤ at
  pub most : at ≤ 8 + 4 * L + 4 * W

-- byte `at` of a body is one of a number
pub record NumberByte (L W at : ℕ) : Type 0 where
  pub part : 4 ≤ at → 4 + 4 * L ≤ at
  pub most : at < 8 + 4 * L + 4 * W

-- a whole word of a body comes next
pub record WordNext (L W at size : ℕ) : Type 0 where
  pub from : 4 + 4 * L ≤ at
  pub to : at < 4 + 4 * L + 4 * W
  pub whole : at % 4 ≡ 0
  pub there : 4 ≤ size

-- what a number of four bytes makes of a case
abbrev pub NumberStands : ℕ → ℕ → ℕ → List ℕ → List ℕ → Standing → List ℕ → Standing → Type 0
NumberStands L W at held image s image' s' = (b : List ℕ) → length b + 4 ≡ at → Stands L W b image s → Stands L W (b ++ held) image' s'

-- what some bytes make of a body
abbrev pub BytesMove : ℕ → ℕ → List ℕ → List ℕ → Course → List ℕ → Course → Type 0
BytesMove L W bytes image c image' c' = (b : List ℕ) → InBody L W b image c → InBody L W (b ++ bytes) image' c'

-- bytes up to the end of a body at most
pub record Moves (L W : ℕ) (bytes image : List ℕ) (c : Course) (taken : ℕ) (image' : List ℕ) (c' : Course) : Type 0 where
  pub some : 1 ≤ taken
  pub most : taken ≤ length bytes
  pub room : c.at + taken ≤ body_size L W
  pub body : BytesMove L W (take taken bytes) image c image' c'

-- ---- a stream, of whose state the image and the contents are held together

abbrev pub KeptHeld : List ℕ → Marks → Status → Type 0
KeptHeld held m s = Kept (take 8192 held) (drop 8192 held) m s

-- behind a refusal the image and the contents are still to be cleared
abbrev pub KeptAs : Status → List ℕ → List ℕ → Marks → Type 0
KeptAs (live h) image contents m = Kept image contents m (live h)
KeptAs (over e) image contents m = m ≡ ended_marks e

-- what some bytes behind h tell, and the state that they leave; they bring nothing before their last
pub record Steps (h piece : List ℕ) (r : Stepped) (image contents : List ℕ) : Type 0 where
  pub quiet : (j : ℕ) → 0 < j → j < length piece → due_of (h ++ take j piece) ≡ Told.Nothing
  pub told : r.told ≡ due_of (h ++ piece)
  pub kept : KeptAs (status_after r.told (h ++ piece)) image contents r.marks

-- a byte of the contents
abbrev pub Lists : List ℕ → Marks → ℕ → Stepped → List ℕ → Type 0
Lists contents m b r contents' = (h image : List ℕ) → Listing h → KeptListing h image contents m → Steps h (b ∷ []) r image contents'

-- bytes of the body of the case at hand
abbrev pub JudgesCase : ℕ → ℕ → List ℕ → Marks → List ℕ → Stepped → List ℕ → Type 0
JudgesCase L W image m bytes r image' =
    (h : List ℕ) (k : ℕ) (contents : List ℕ) → Within h k → k < cases_of h → L ≡ length_at h k → W ≡ count_at h k → KeptWithin h k image contents m →
    Steps h (take r.taken bytes) r image' contents

-- bytes of the bodies
abbrev pub Judges : List ℕ → Marks → List ℕ → Stepped → List ℕ → Type 0
Judges held m bytes r held' =
    (h : List ℕ) (k : ℕ) → Within h k → KeptWithin h k (take 8192 held) (drop 8192 held) m →
    Steps h (take r.taken bytes) r (take 8192 held') (drop 8192 held')

-- at least one byte is taken
pub record Takes (held : List ℕ) (m : Marks) (bytes : List ℕ) (r : Stepped) (held' : List ℕ) : Type 0 where
  pub some : 1 ≤ r.taken
  pub most : r.taken ≤ length bytes
  pub steps : (h : List ℕ) → KeptHeld held m (live h) → Steps h (take r.taken bytes) r (take 8192 held') (drop 8192 held')

-- the bytes that a call takes, what it tells, and the state behind them
pub record FedAs (f : Fed) (r : Stepped) (Left : Status → Type 0) : Type 0 where
  pub taken : r.taken ≡ f.taken
  pub told : r.told ≡ f.told
  pub left : Left f.status

-- a call, before the image and the contents are cleared behind a refusal
pub record Fills (held : List ℕ) (m : Marks) (bytes : List ℕ) (r : Stepped) (held' : List ℕ) : Type 0 where
  pub most : r.taken ≤ length bytes
  pub answers : (h : List ℕ) → KeptHeld held m (live h) → FedAs (feed_from bytes h) r (λ s. KeptAs s (take 8192 held') (drop 8192 held') r.marks)

-- a call
pub record FeedsHeld (held : List ℕ) (m : Marks) (bytes : List ℕ) (r : Stepped) (held' : List ℕ) : Type 0 where
  pub most : r.taken ≤ length bytes
  pub answers : (s : Status) → KeptHeld held m s → FedAs (feed_of s bytes) r (KeptHeld held' r.marks)

-- an end
abbrev pub ClosesMarks : Marks → End → Type 0
ClosesMarks m r = (image contents : List ℕ) (s : Status) → Kept image contents m s → r ≡ end_of s
