-- How large the marks of a stream are: `kept_small`: their numbers fit four bytes. There are at most 1,024 cases, a body has at most 32,776 bytes, and the
-- last ends at or before 12,292 + 32,776 x 1,024. Assumes nothing.
use mathlib.Core.Path.{◌≡◌, refl, sym, ap, subst, ◌∙◌}
use mathlib.Core.List.{List, []}
use mathlib.Core.Bool.{Bool, true, false}
use Prim.Native.Nat.{ℕ, ◌+◌, ◌*◌, ◌-◌, ◌/◌, ◌<◌, ◌≤◌}
use native.Mathlib.Omega.{arith}
use native.Mathlib.Decide.{dec_le}
use lib.Dec.{leb}
use lib.ListN.{length, drop, length-drop}
use borrow.Author.Tests.{leb-true, leb-false}
use Rattle.isa.specs.Run.{Outcome}
use Rattle.isa.specs.declared.types.Ending.{Ending}
use Rattle.isa.proofs.File.{legal-exact}
use Rattle.trace.specs.Trace.{cases_of, length_at, count_at, begins}
use Rattle.trace.specs.Verdict.{parts_of, is_flag, flag_of, verdict_of}
use Rattle.trace.specs.Number.{verdict_place}
use Rattle.trace.specs.Stream.{Listing, Within, Status}
use Rattle.trace.specs.declared.types.Verdict.{Verdict}
use Rattle.trace.proofs.Contents.{contents-exact, begins-short}
use Rattle.trace.proofs.Live.{listing-cases, listing-entry}
use Rattle.trace.proofs.Few.{listing-few}
use Rattle.trace.proofs.Place.{outcome-count, picked-place, words-most, verdict-place}
use Rattle.stream.specs.Body.{pick_number, pick_bytes, before_in, ran_in, stop_said, said_early, standing_in, in_file, held_in}
use Rattle.stream.specs.Kept.{listing_marks, ended_marks, KeptWithin, Kept}
use Rattle.stream.specs.declared.state.Marks.{Marks}
use Rattle.stream.proofs.Padded.{padded-length}
use Rattle.capi_stream.proofs.Stored.{Small}
use Rattle.trace.specs.Stream.{End}

-- ---- within a body

stop-place : (e : Ending) (n : ℕ) → verdict_place (stop_said e n) ≤ n
stop-place Ending.Done n = omega arith
stop-place Ending.BadLength n = omega arith
stop-place Ending.NotPowerOfTwo n = omega arith
stop-place Ending.BadSize n = omega arith
stop-place Ending.TooLong n = omega arith
stop-place Ending.Outside n = omega arith
stop-place Ending.Reserved n = omega arith

picked-short : (n : ℕ) (t : Bool) (a b : List ℕ) → (t ≡ true → length a ≤ n) → (t ≡ false → length b ≤ n) → length (pick_bytes t a b) ≤ n
picked-short n true a b l m = l refl
picked-short n false a b l m = m refl

module _ (L W : ℕ) (b : List ℕ) where
  ran-count : (ran_in L W b).answer.done ≤ length b
  unfolding ran_in
  ran-count =
      let flag : Bool = is_flag (before_in b) in
      let words : List ℕ = (parts_of L W b).words in
      omega (
        arith,
        outcome-count L (parts_of L W b).file (flag_of (before_in b)) (pick_bytes flag words []),
        picked-short (length b) flag words [] (λ e. words-most L W b) (λ e. omega arith),
      )

  standing-place : verdict_place (standing_in L W b).said ≤ length b
  unfolding standing_in
  standing-place =
      let o : Outcome = ran_in L W b in
      picked-place (length b) (leb (8 + 4 * L + 4 * W) (length b)) (verdict_of L W b) (said_early L W b) (verdict-place L W b)
      (picked-place (length b) (is_flag (before_in b)) (stop_said o.answer.ending o.answer.done) Verdict.BadFlag
      (omega (arith, stop-place o.answer.ending o.answer.done, ran-count)) (omega arith))

  held-short : length (held_in L W b) ≤ 4
  unfolding held_in
  held-short = picked-short 4 (in_file L W (length b)) [] (drop (length b / 4 * 4) b) (λ e. omega arith) (λ e. simp length-drop (omega arith))

-- ---- the marks

-- from the fourth byte on
picked-small : (t : Bool) (a : ℕ) → (t ≡ true → a < 4294967296) → pick_number t a 0 < 4294967296
picked-small true a l = l refl
picked-small false a l = omega arith

listing-small : (h : List ℕ) → Listing h → Small (listing_marks h)
listing-small h v =
    let some = leb-true 4 (length h) in
    let none = leb-false 4 (length h) in
    let few : leb 4 (length h) ≡ true → cases_of h ≤ 1024 = λ e. (listing-cases h v (some e)).1 in
    let short = listing-few h v in
    let k : ℕ = (length h - 4) / 12 in
    let due : leb 4 (length h) ≡ true → begins h k ≤ 12292 + 32776 * k =
    λ e. let l = some e in begins-short h k (few e) (λ j m. listing-entry h v j (omega arith)) in
    record {
      cases = picked-small (leb 4 (length h)) (cases_of h) (λ e. omega (arith, few e));
      case = omega arith;
      due = picked-small (leb 4 (length h)) (begins h k) (λ e. omega (arith, some e, due e));
      at = omega arith;
      place = omega arith;
      held = padded-length 4 _ (picked-short 4 (leb 4 (length h)) [] h (λ e. omega arith) (λ e. omega (arith, none e)));
    }

-- what has come of a body
body-short : (h : List ℕ) (k : ℕ) → Within h k → length (drop (begins h k) h) ≤ 32776
unfolding begins
body-short h k v =
    elim (dec_le (cases_of h) k) [
      | yes l ↦ simp length-drop (omega (arith, v.last (omega (arith, v.few))))
      | no l ↦
          let here = ((contents-exact h).0 v.contents).entries k (omega arith) in
          simp length-drop (omega (arith, v.to (omega arith), ((legal-exact _).0 here.ok).most, here.few))
    ]

within-small : (h : List ℕ) (k : ℕ) (image contents : List ℕ) (m : Marks) → Within h k → KeptWithin h k image contents m → Small m
within-small h k image contents m v w =
    let c = (contents-exact h).0 v.contents in
    let L : ℕ = length_at h k in
    let W : ℕ = count_at h k in
    let b : List ℕ = drop (begins h k) h in
    let short = body-short h k v in
    record {
      cases = omega (arith, w.cases, c.few);
      case = omega (arith, w.case, v.few, c.few);
      due = omega (arith, w.due, begins-short h (cases_of h) c.few c.entries, c.few);
      at = omega (arith, w.body.at);
      place = rw w.body.stands.standing (omega (arith, standing-place L W b));
      held = ap length w.body.held ∙ padded-length 4 _ (held-short L W b);
    }

ended-small : (e : End) → Small (ended_marks e)
ended-small e = record {
  cases = omega arith;
  case = omega arith;
  due = omega arith;
  at = omega arith;
  place = omega arith;
  held = padded-length 4 [] (omega arith);
}

pub kept_small : {image contents : List ℕ} {m : Marks} {s : Status} → Kept image contents m s → Small m
kept_small (Kept.listing h v w) = subst Small (sym w.marks) (listing-small h v)
kept_small {image} {contents} {m} (Kept.within h k v w) = within-small h k image contents m v w
kept_small (Kept.ended e w) = subst Small (sym w.marks) (ended-small e)
