-- The state that a stream leaves: a function of all bytes so far while it is live, and of the answer where it is over. The contracts of `new`, `feed` and
-- `end` say that it is kept. Request A10.
use Rattle.std.specs.Prelude.{ℕ, ◌*◌, ◌-◌, ◌/◌, ◌≤◌, List, [], false, ◌≡◌, leb, length, take, drop}
use Rattle.trace.specs.Trace.{cases_of, length_at, count_at, begins, total_of}
use Rattle.trace.specs.Stream.{Listing, Within, Status, live, over}
use Rattle.trace.specs.Feed.{feed_of, end_of, Fed as Feeding}
use Rattle.trace.specs.declared.types.Verdict.{Verdict}
use Rattle.stream.specs.Body.{padded, pick_number, pick_bytes, InBody}
use Rattle.stream.specs.declared.state.Phase.{Phase}
use Rattle.stream.specs.declared.state.Standing.{Standing}
use Rattle.stream.specs.declared.state.Course.{Course}
use Rattle.stream.specs.declared.state.Marks.{Marks}
use Rattle.stream.specs.declared.state.State.{State}
use Rattle.stream.specs.declared.state.Fed.{Fed}
use Rattle.stream.specs.declared.state.Closed.{Closed}
use Rattle.trace.specs.Stream.{End}

abbrev pub fresh_standing : Standing
fresh_standing = record { said = Verdict.Agrees; qc = false }

abbrev pub course_at : ℕ → List ℕ → Course
course_at at held = record { at = at; held = held; standing = fresh_standing }

abbrev pub fresh_course : Course
fresh_course = course_at 0 (padded 4 [])

-- the number of cases is known from the fourth byte on, and from then on where the next body has to start
abbrev pub listing_marks : List ℕ → Marks
listing_marks h = record {
  phase = Phase.Contents;
  cases = pick_number (leb 4 (length h)) (cases_of h) 0;
  case = 0;
  due = pick_number (leb 4 (length h)) (begins h ((length h - 4) / 12)) 0;
  course = course_at (length h) (padded 4 (pick_bytes (leb 4 (length h)) [] h));
}

abbrev pub ended_marks : End → Marks
ended_marks e = record { phase = Phase.Ended e; cases = 0; case = 0; due = 0; course = fresh_course }

-- the entries of the contents, as far as they have come
abbrev pub entries_in : List ℕ → List ℕ
entries_in h = take (12 * cases_of h) (drop 4 h)

pub record KeptListing (h image contents : List ℕ) (m : Marks) : Type 0 where
  pub empty : image ≡ padded 8192 []
  pub entries : contents ≡ padded 12288 (drop 4 h)
  pub marks : m ≡ listing_marks h

-- behind the last body, k is the number of cases: what is read of an entry k is then of no use, since no byte of a body has come
pub record KeptWithin (h : List ℕ) (k : ℕ) (image contents : List ℕ) (m : Marks) : Type 0 where
  pub entries : contents ≡ padded 12288 (entries_in h)
  pub phase : m.phase ≡ Phase.Bodies
  pub cases : m.cases ≡ cases_of h
  pub case : m.case ≡ k
  pub due : m.due ≡ total_of h
  pub body : InBody (length_at h k) (count_at h k) (drop (begins h k) h) image m.course

pub record KeptOver (e : End) (image contents : List ℕ) (m : Marks) : Type 0 where
  pub empty : image ≡ padded 8192 []
  pub entries : contents ≡ padded 12288 []
  pub marks : m ≡ ended_marks e

-- what the arrays and the marks are of a stream; there is one such state for each (`kept-one`)
pub data Kept (image contents : List ℕ) (m : Marks) : Status → Type 0 where
  listing : (h : List ℕ) → Listing h → KeptListing h image contents m → Kept image contents m (live h)
  within : (h : List ℕ) (k : ℕ) → Within h k → KeptWithin h k image contents m → Kept image contents m (live h)
  ended : (e : End) → KeptOver e image contents m → Kept image contents m (over e)

abbrev pub Keeps : State → Status → Type 0
Keeps state s = Kept state.image state.contents state.marks s

-- ---- what the calls answer

-- of a state that is kept of a stream: as many bytes as it takes, what it tells, and the state behind it
pub record Answers (f : Feeding) (r : Fed) : Type 0 where
  pub taken : r.taken ≡ f.taken
  pub told : r.told ≡ f.told
  pub state : Keeps r.state f.status

-- of any state no more bytes are taken than are lent
pub record Feeds (state : State) (bytes : List ℕ) (r : Fed) : Type 0 where
  pub within : r.taken ≤ length bytes
  pub answers : (s : Status) → Keeps state s → Answers (feed_of s bytes) r

pub record Closes (state : State) (r : Closed) : Type 0 where
  pub over : Keeps r.state (over r.end)
  pub end : (s : Status) → Keeps state s → r.end ≡ end_of s
