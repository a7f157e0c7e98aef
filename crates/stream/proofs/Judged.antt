-- Bytes of a body behind a stream. `case-on`: the body goes on. `case-whole`: it is whole, its verdict is told, and the next body starts. `file-size`,
-- `file-within`: the bytes of its file. `allowed-yes`, `allowed-no`, `allowed_at-leb`, `allowed-true`: whether it is one that the contents allow. Assumes nothing.
use mathlib.Core.Path.{◌≡◌, refl, sym, ap, ◌∙◌}
use mathlib.Core.List.{List, [], ◌++◌}
use mathlib.Core.Bool.{Bool, true, false, ◌&&◌}
use Prim.Native.Nat.{ℕ, suc, ◌+◌, ◌*◌, ◌%◌, ◌<◌, ◌≤◌}
use native.Mathlib.Omega.{arith}
use lib.Dec.{leb, ltb}
use lib.ListN.{length, take, drop, replicate, length-append, length-take, length-drop, drop_of_length-le}
use lib.Seq.{length-take-le, take-append-le, drop-append-le}
use borrow.Author.Tests.{leb-true, ltb-true, le-leb}
use Rattle.isa.specs.File.{legal, check_of}
use Rattle.isa.specs.Run.{start, ended, run, pick_outcome, checked_run, outcome_of}
use Rattle.std.specs.Prelude.{Ok, Err}
use Rattle.isa.specs.Check.{Check}
use Rattle.isa.specs.declared.types.FileRefusal.{FileRefusal}
use Rattle.isa.specs.declared.types.Ending.{Ending}
use Rattle.isa.proofs.Fields.{and_left, and_right}
use Rattle.isa.proofs.File.{legal-exact}
use Rattle.trace.specs.Trace.{cases_of, length_at, count_at, body_size, begins, total_of}
use Rattle.trace.specs.Verdict.{parts_of, verdict_of}
use Rattle.trace.specs.Stream.{due_of, Within}
use Rattle.trace.specs.declared.types.Told.{Told}
use Rattle.trace.proofs.Contents.{contents-exact}
use Rattle.trace.proofs.Live.{contents-whole, cases-kept, begins-kept, length-kept, count_kept, quiet-within, whole-within}
use Rattle.trace.proofs.Pieces.{run-kept}
use Rattle.stream.specs.Body.{padded, ran_in, standing_in, InBody}
use Rattle.stream.specs.Kept.{fresh_course, entries_in, KeptWithin, within}
use Rattle.stream.specs.Steps.{Allowed, allowed_at, Moves, Steps, JudgesCase}
use Rattle.stream.specs.declared.state.Phase.{Phase}
use Rattle.stream.specs.declared.state.Standing.{Standing}
use Rattle.stream.specs.declared.state.Course.{Course}
use Rattle.stream.specs.declared.state.Marks.{Marks}
use Rattle.stream.proofs.Begun.{body-starts}
use Rattle.stream.proofs.Padded.{padded-length, padded-clear}

-- ---- a whole body

-- a run leaves a file as long as it got
module _ (L : ℕ) (file : List ℕ) (qc : Bool) (words : List ℕ) (size : length file ≡ 4 * L) where
  long-by : (long : Bool) → length (pick_outcome long (ended Ending.TooLong (start file qc)) (run L words (start file qc))).file ≡ 4 * L
  long-by true = size
  long-by false = run-kept L words (start file qc) size

  check-by : (k : Check FileRefusal) → length (checked_run k L words (start file qc)).file ≡ 4 * L
  check-by (Ok passed) = long-by (ltb 4096 (length words))
  check-by (Err refusal) = size

  outcome-sized : length (outcome_of L file qc words).file ≡ 4 * L
  unfolding outcome_of
  outcome-sized = check-by (check_of L (length file))

module _ (L W : ℕ) (b : List ℕ) (size : length b ≡ body_size L W) where
  ran-sized : length (ran_in L W b).file ≡ 4 * L
  unfolding ran_in parts_of
  ran-sized = outcome-sized L (take (4 * L) (drop 4 b)) _ _ (simp (length-take, length-drop) (omega arith))

  -- what is said of it is its verdict
  whole-said : (standing_in L W b).said ≡ verdict_of L W b
  unfolding standing_in
  whole-said = rw (le-leb (8 + 4 * L + 4 * W) (length b) (omega arith))

-- ---- a stream with more bytes

-- marks within the bodies
abbrev pub bodies_marks : Marks → ℕ → Course → Marks
bodies_marks m case course = record { phase = Phase.Bodies; cases = m.cases; case = case; due = m.due; course = course }

module _ (h : List ℕ) (k : ℕ) (v : Within h k) (x : List ℕ) where
  entries-kept : entries_in (h ++ x) ≡ entries_in h
  entries-kept =
      let l = contents-whole h k v in
      rw (cases-kept h x k v)
      (ap (take (12 * cases_of h)) (drop-append-le 4 h x (omega arith)) ∙ take-append-le (12 * cases_of h) (drop 4 h) x (simp length-drop (omega arith)))

  total_kept : total_of (h ++ x) ≡ total_of h
  total_kept = ap (begins (h ++ x)) (cases-kept h x k v) ∙ begins-kept h x k v (cases_of h) (omega arith)

  -- the stream is in the body of another case or of the same
  kept_then : {image contents image' : List ℕ} {m : Marks} → KeptWithin h k image contents m → (j : ℕ) (c : Course) →
      InBody (length_at (h ++ x) j) (count_at (h ++ x) j) (drop (begins (h ++ x) j) (h ++ x)) image' c → KeptWithin (h ++ x) j image' contents (bodies_marks m j c)
  kept_then kept j c b = record {
    entries = kept.entries ∙ ap (padded 12288) (sym entries-kept);
    phase = refl;
    cases = kept.cases ∙ sym (cases-kept h x k v);
    case = refl;
    due = kept.due ∙ sym total_kept;
    body = b;
  }

module _
    (h : List ℕ) (k : ℕ) (v : Within h k) (l : k < cases_of h) (image contents : List ℕ) (m : Marks) (kept : KeptWithin h k image contents m)
    (bytes : List ℕ) (taken : ℕ) (image' : List ℕ) (c : Course)
    (moved : Moves (length_at h k) (count_at h k) bytes image m.course taken image' c) (marks : Marks) where
  abbrev piece : List ℕ
  piece = take taken bytes

  -- the body with it
  abbrev body : List ℕ
  body = drop (begins h k) (h ++ piece)

  piece-length : length piece ≡ taken
  piece-length = length-take-le taken bytes moved.most

  -- where the bytes end
  place : begins h k + c.at ≡ length h + taken
  place =
      let b = (moved.body (drop (begins h k) h) kept.body).at in
      let n = length-append (drop (begins h k) h) piece in
      let d = length-drop (begins h k) h in
      omega (arith, piece-length, v.from)

  room : length h + taken ≤ begins h (suc k)
  unfolding begins
  room =
      let at = kept.body.at in
      let d = length-drop (begins h k) h in
      omega (arith, moved.room, v.from)

  quiet : (j : ℕ) → 0 < j → j < length piece → due_of (h ++ take j piece) ≡ Told.Nothing
  quiet j some less =
      let n = length-take-le j piece (omega arith) in
      let s = length-append h (take j piece) in
      (quiet-within h (take j piece) k v l (omega arith) (omega (arith, room, piece-length))).0

  longer : length (h ++ piece) ≡ length h + taken
  longer = omega (arith, length-append h piece, piece-length)

  in_body : InBody (length_at h k) (count_at h k) body image' c
  in_body = rw (drop-append-le (begins h k) h piece v.from) (moved.body (drop (begins h k) h) kept.body)

  judged-on : (c.at ≡ body_size (length_at h k) (count_at h k) → ⊥) → marks ≡ bodies_marks m m.case c →
      Steps h piece (record { taken = taken; told = Told.Nothing; marks = marks }) image' contents
  unfolding begins
  judged-on short e =
      let p = place in
      let r = room in
      let w = quiet-within h piece k v l (omega (arith, piece-length, moved.some)) (omega (arith, longer, short)) in
      let b = rw (← length-kept h piece k v k l, ← count_kept h piece k v k l, ← begins-kept h piece k v k (omega arith)) at in_body in
      record {
        quiet = quiet;
        told = sym w.0;
        kept = rw (e, kept.case) (within (h ++ piece) k w.1 (kept_then h k v piece kept k c b));
      }

  module _ (whole : c.at ≡ body_size (length_at h k) (count_at h k)) where
    body-size : length body ≡ body_size (length_at h k) (count_at h k)
    body-size = sym in_body.at ∙ whole

    said : c.standing.said ≡ verdict_of (length_at h k) (count_at h k) body
    said = ap (λ (s : Standing). s.said) in_body.stands.standing ∙ whole-said _ _ _ body-size

    cleared : (size : ℕ) (zeros : List ℕ) → size ≡ 4 * length_at h k → zeros ≡ replicate (length (take size image')) 0 →
        zeros ++ drop size image' ≡ padded 8192 []
    cleared size zeros e f =
        let file = ran-sized (length_at h k) (count_at h k) body body-size in
        let most = ((legal-exact _).0 (((contents-exact h).0 v.contents).entries k l).ok).most in
        let n : length image' ≡ 8192 = ap length in_body.stands.file ∙ padded-length 8192 _ (omega arith) in
        let z : zeros ≡ replicate size 0 = f ∙ ap (λ (i : ℕ). replicate i 0) (length-take-le size image' (omega arith)) in
        rw (z, in_body.stands.file) (padded-clear 8192 size _ (omega arith) (omega arith))

    judged-whole : (size : ℕ) (zeros : List ℕ) → size ≡ 4 * length_at h k → zeros ≡ replicate (length (take size image')) 0 →
        marks ≡ bodies_marks m (m.case + 1) fresh_course →
        Steps h piece (record { taken = taken; told = Told.Case c.standing.said; marks = marks }) (zeros ++ drop size image') contents
    unfolding begins
    judged-whole size zeros e f g =
        let ends : length (h ++ piece) ≡ begins h (suc k) = omega (arith, place, longer) in
        let w = whole-within h piece k v l ends in
        let none : drop (begins (h ++ piece) (suc k)) (h ++ piece) ≡ [] =
        drop_of_length-le (h ++ piece) {i = begins (h ++ piece) (suc k)} (omega (arith, begins-kept h piece k v (suc k) l)) in
        let next : m.case + 1 ≡ suc k = omega (arith, kept.case) in
        record {
          quiet = quiet;
          told = ap Told.Case said ∙ sym w.0;
          kept = rw (g, next, cleared size zeros e f)
              (within (h ++ piece) (suc k) w.1 (kept_then h k v piece kept (suc k) fresh_course (rw none (body-starts _ _))));
        }

-- ---- the bytes that a call of `body_bytes` takes

module _
    (L W : ℕ) (image : List ℕ) (m : Marks) (bytes : List ℕ) (taken : ℕ) (image' : List ℕ) (c : Course)
    (moved : Moves L W bytes image m.course taken image' c) (n : ℕ) (body : n ≡ body_size L W) (marks : Marks) where
  pub case-on : (c.at ≡ n → ⊥) → marks ≡ bodies_marks m m.case c →
      JudgesCase L W image m bytes (record { taken = taken; told = Told.Nothing; marks = marks }) image'
  case-on short e h k contents v l f g kept =
      judged-on h k v l image contents m kept bytes taken image' c (rw (f, g) at moved) marks (λ whole. short (omega arith)) e

  pub case-whole : c.at ≡ n → (size : ℕ) → size ≡ 4 * L → (zeros : List ℕ) → zeros ≡ replicate (length (take size image')) 0 →
      (start : Course) → start ≡ fresh_course → marks ≡ bodies_marks m (m.case + 1) start →
      JudgesCase L W image m bytes (record { taken = taken; told = Told.Case c.standing.said; marks = marks }) (zeros ++ drop size image')
  case-whole whole size e zeros z start fresh s h k contents v l f g kept =
      judged-whole h k v l image contents m kept bytes taken image' c (rw (f, g) at moved) marks (omega arith) size zeros (omega arith) z
      (s ∙ ap (bodies_marks m (m.case + 1)) fresh)

-- ---- a body that the contents allow

-- the bytes of its file, in an image
pub file-size : (L : ℕ) → legal L ≡ true → L * 4 % 18446744073709551616 ≡ 4 * L
file-size L ok = let most = ((legal-exact L).0 ok).most in omega arith

pub file-within : (L : ℕ) (image : List ℕ) → legal L ≡ true → length image ≡ 8192 → L * 4 % 18446744073709551616 ≤ length image
file-within L image ok size = omega (arith, ((legal-exact L).0 ok).most)

module _ (L W : ℕ) (r : Bool) (e : r ≡ legal L) where
  pub allowed-yes : (r && leb W 4096) ≡ true → Allowed L W
  allowed-yes t = record { ok = sym e ∙ and_left r (leb W 4096) t; few = leb-true W 4096 (and_right r (leb W 4096) t) }

  pub allowed_at-leb : (at n : ℕ) → n ≡ body_size L W → (r && leb W 4096) ≡ true → ltb at n ≡ allowed_at L W at
  allowed_at-leb at n f t = rw (← e, t, f)

  pub allowed-no : (at : ℕ) → (r && leb W 4096) ≡ false → false ≡ allowed_at L W at
  allowed-no at t = rw (← e, t)

pub allowed-true : (L W at : ℕ) → allowed_at L W at ≡ true → Allowed L W × (at < body_size L W)
allowed-true L W at t =
    let both = and_left (legal L && leb W 4096) (ltb at (body_size L W)) t in
    (allowed-yes L W (legal L) refl both, ltb-true _ _ (and_right (legal L && leb W 4096) (ltb at (body_size L W)) t))
