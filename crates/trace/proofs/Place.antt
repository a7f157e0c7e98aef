-- How large the place of a verdict is. `verdict-place`: it is within as much of a body as has come; `picked-place`: the place of one of two. `words-most`: the
-- words of a body are, and `outcome-count`: a run does no more words than there are. `within-place`, `feed-place`: a call tells no place above 8,191, past the
-- contents and from within them. Assumes nothing.
use mathlib.Core.Path.{◌≡◌}
use mathlib.Core.List.{List, [], ◌∷◌}
use mathlib.Core.Bool.{Bool, true, false, ◌&&◌}
use Prim.Native.Nat.{ℕ, suc, ◌+◌, ◌<◌, ◌≤◌}
use native.Mathlib.Omega.{arith}
use lib.Dec.{ltb, eqb}
use lib.ListN.{length, length-take, length-drop}
use Rattle.isa.specs.Run.{Outcome, start, ended, run, pick_outcome, checked_run, outcome_of}
use Rattle.isa.specs.File.{check_of}
use Rattle.isa.specs.declared.types.Ending.{Ending}
use Rattle.std.specs.Prelude.{Ok, Err}
use Rattle.isa.specs.Check.{Check}
use Rattle.isa.specs.declared.types.FileRefusal.{FileRefusal}
use Rattle.isa.proofs.Bytes.{words-length}
use Rattle.isa.proofs.Run.{run-count}
use Rattle.trace.specs.Trace.{length_at, count_at, body_size, begins, body_of}
use Rattle.trace.specs.Verdict.{Body, parts_of, is_flag, flag_of, flags, pick_verdict, compared, ended_verdict, verdict_of, case_of}
use Rattle.trace.specs.Number.{verdict_place, told_place}
use Rattle.trace.specs.Stream.{Listing, Within, then}
use Rattle.trace.specs.Feed.{goes_on, feed_from}
use Rattle.trace.specs.declared.types.Verdict.{Verdict}
use Rattle.trace.specs.declared.types.Told.{Told}
use Rattle.trace.proofs.Contents.{contents-exact}
use Rattle.trace.proofs.Sizes.{parts-sized}
use Rattle.trace.proofs.Returned.{verdict-small}
use Rattle.trace.proofs.Byte.{ListingThen, listing-then, WithinThen, within-then}

-- ---- a body

module _ (L : ℕ) (file : List ℕ) (qc : Bool) (words : List ℕ) where
  picked-count : (t : Bool) → (pick_outcome t (ended Ending.TooLong (start file qc)) (run L words (start file qc))).answer.done ≤ length words
  picked-count true = omega arith
  picked-count false = (run-count L words file qc).0

  checked-count : (k : Check FileRefusal) → (checked_run k L words (start file qc)).answer.done ≤ length words
  checked-count (Ok passed) = picked-count (ltb 4096 (length words))
  checked-count (Err refusal) = omega arith

  -- a run does no more words than there are
  pub outcome-count : (outcome_of L file qc words).answer.done ≤ length words
  unfolding outcome_of
  outcome-count = checked-count (check_of L (length file))

pub picked-place : (n : ℕ) (t : Bool) (a b : Verdict) → verdict_place a ≤ n → verdict_place b ≤ n → verdict_place (pick_verdict t a b) ≤ n
picked-place n true a b l m = l
picked-place n false a b l m = m

flags-place : (left after : Bool) → verdict_place (flags left after) ≤ 0
flags-place true true = omega arith
flags-place true false = omega arith
flags-place false true = omega arith
flags-place false false = omega arith

compared-place : (n i : ℕ) (xs ys : List ℕ) (v : Verdict) → verdict_place v ≤ n → i + length ys ≤ n → verdict_place (compared i xs ys v) ≤ n
unfolding compared
compared-place n i [] ys v l m = l
compared-place n i (x ∷ xs) [] v l m = l
compared-place n i (x ∷ xs) (y ∷ ys) v l m =
    picked-place n (eqb x y) (compared (suc i) xs ys v) (Verdict.FileDiffers i x) (compared-place n (suc i) xs ys v l (omega arith)) (omega arith)

ended-place : (n : ℕ) (e : Ending) (o : Outcome) (after : Bool) (left : List ℕ) → o.answer.done ≤ n → length left ≤ n →
    verdict_place (ended_verdict e o after left) ≤ n
ended-place n Ending.Done o after left l m =
    compared-place n 0 o.file left (flags o.answer.qc after) (omega (arith, flags-place o.answer.qc after)) (omega arith)
ended-place n Ending.Outside o after left l m = l
ended-place n Ending.Reserved o after left l m = l
ended-place n Ending.BadLength o after left l m = omega arith
ended-place n Ending.NotPowerOfTwo o after left l m = omega arith
ended-place n Ending.BadSize o after left l m = omega arith
ended-place n Ending.TooLong o after left l m = omega arith

module _ (L W : ℕ) (b : List ℕ) where
  pub words-most : length (parts_of L W b).words ≤ length b
  unfolding parts_of
  words-most = simp (words-length, length-take, length-drop) (omega arith)

  left-most : length (parts_of L W b).left ≤ length b
  unfolding parts_of
  left-most = simp length-drop (omega arith)

  pub verdict-place : verdict_place (verdict_of L W b) ≤ length b
  unfolding verdict_of
  verdict-place =
      let p : Body = parts_of L W b in
      let o : Outcome = outcome_of L p.file (flag_of p.before) p.words in
      let count : o.answer.done ≤ length b = omega (arith, outcome-count L p.file (flag_of p.before) p.words, words-most) in
      picked-place (length b) (is_flag p.before && is_flag p.after) _ Verdict.BadFlag
      (ended-place (length b) o.answer.ending o (flag_of p.after) p.left count left-most) (omega arith)

-- ---- a call

-- the body of case k is whole
case-place : (t : List ℕ) (k : ℕ) → Within t (suc k) → verdict_place (case_of t k) < 8192
unfolding case_of verdict_of body_of begins
case-place t k v =
    let few = v.few in
    let here = ((contents-exact t).0 v.contents).entries k (omega arith) in
    let L : ℕ = length_at t k in
    let W : ℕ = count_at t k in
    let size : length (body_of t k) ≡ body_size L W = simp (length-take, length-drop) (omega (arith, here.start, v.from)) in
    (verdict-small L (parts_of L W (body_of t k)) (parts-sized L W (body_of t k) here.ok here.few size)).1

place-by : (h : List ℕ) (b k : ℕ) (bytes : List ℕ) → (Within (then h b) k → told_place (feed_from bytes (then h b)).told < 8192) →
    (d : Told) → WithinThen h b k d → told_place (goes_on d (then h b) (feed_from bytes)).told < 8192
place-by h b k bytes ih d (WithinThen.on l w) = ih w
place-by h b k bytes ih d (WithinThen.whole e w) = case-place (then h b) k w
place-by h b k bytes ih d (WithinThen.past all) = omega arith

pub within-place : (bytes h : List ℕ) (k : ℕ) → Within h k → told_place (feed_from bytes h).told < 8192
unfolding feed_from
within-place [] h k v = omega arith
within-place (b ∷ bytes) h k v = place-by h b k bytes (within-place bytes (then h b) k) _ (within-then h b k v)

listing-by : (h : List ℕ) (b : ℕ) (bytes : List ℕ) → (Listing (then h b) → told_place (feed_from bytes (then h b)).told < 8192) →
    (d : Told) → ListingThen h b d → told_place (goes_on d (then h b) (feed_from bytes)).told < 8192
listing-by h b bytes ih d (ListingThen.on w) = ih w
listing-by h b bytes ih d (ListingThen.whole w) = within-place bytes (then h b) 0 w
listing-by h b bytes ih d (ListingThen.refused i l short bad) = omega arith

pub feed-place : (bytes h : List ℕ) → Listing h → told_place (feed_from bytes h).told < 8192
unfolding feed_from
feed-place [] h v = omega arith
feed-place (b ∷ bytes) h v = listing-by h b bytes (feed-place bytes (then h b)) _ (listing-then h b v)
