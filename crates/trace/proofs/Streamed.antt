-- A stream gives A9's verdicts and refusals. `streamed`: whatever the calls, of a trace of any size. `accept-ends`, `ended-short`: of a trace of up to 64 KiB
-- the end tells what A9 answers. `verdict-is-replay`: of a trace that A9 accepts, the verdicts are those that A9 gives of its cases. Assumes nothing.
use mathlib.Core.Path.{◌≡◌, refl, sym, ap, subst, ◌∙◌}
use mathlib.Core.Option.{some}
use mathlib.Core.List.{List, [], ◌∷◌, ◌++◌, append-nil}
use mathlib.Core.Bool.{Bool, true, false, true≢false}
use Prim.Native.Nat.{ℕ, zero, suc, ◌+◌, ◌*◌, ◌<◌, ◌≤◌}
use native.Mathlib.Nat.{zero-add, add-zero}
use native.Mathlib.Omega.{arith}
use native.Mathlib.Decide.{dec_le}
use lib.Dec.{eqb}
use lib.ListN.{length, get_elem?, length-append}
use lib.Seq.{append_snoc}
use borrow.Author.Tests.{le-leb, eq-eqb, ne_eqb, lt-ltb}
use Rattle.isa.proofs.File.{cases}
use Rattle.trace.specs.Trace.{cases_of, contents_size, begins, total_of, number_allowed, contents_allowed}
use Rattle.trace.specs.Verdict.{pick_accepted, case_of, accepted_of, judge_of}
use Rattle.trace.specs.Number.{end_number, accepted_number, accepted_cases}
use Rattle.trace.specs.Returned.{ContentsAllowed, TotalAllowed, AcceptReturns}
use Rattle.trace.specs.Stream.{pick_end, due_of, Listing, Within, live, over, start, then}
use Rattle.trace.specs.Feed.{end_of, Whole, whole_on, whole_from, Calls}
use Rattle.trace.specs.Streamed.{ending_of, accepted_by, verdicts_from, Streamed, Replayed}
use Rattle.trace.specs.declared.types.Verdict.{Verdict}
use Rattle.trace.specs.declared.types.Told.{Told}
use Rattle.trace.proofs.Contents.{contents-numbers, contents-exact, begins-mono}
use Rattle.trace.proofs.Prefix.{word-append, allowed-append}
use Rattle.trace.proofs.Returned.{accept-exact}
use Rattle.trace.proofs.Live.{live-empty, cases-kept, begins-kept, contents-kept, case-kept, close-listing, close-within, close-past}
use Rattle.trace.proofs.Byte.{ListingThen, listing-then, WithinThen, within-then}
use Rattle.trace.proofs.Calls.{calls-whole}
use Rattle.trace.specs.declared.types.TraceRefusal.{TraceRefusal}
use Rattle.trace.specs.Stream.{End}
use Rattle.std.specs.Prelude.{Ok, Err}

-- ---- the end

ending-contents : (t : List ℕ) → contents_allowed t ≡ false → ending_of t ≡ (Err TraceRefusal.BadContents)
unfolding ending_of
ending-contents t e = rw e

ending-total : (t : List ℕ) → contents_allowed t ≡ true → (length t ≡ total_of t → ⊥) → ending_of t ≡ (Err TraceRefusal.BadTotal)
unfolding ending_of
ending-total t e ne = rw (e, ne_eqb (length t) (total_of t) ne)

ending-complete : (t : List ℕ) → contents_allowed t ≡ true → length t ≡ total_of t → ending_of t ≡ (Ok tt)
unfolding ending_of
ending-complete t e l = rw (e, eq-eqb (length t) (total_of t) l)

-- ---- what the bytes from case k on bring

record Rest (t : List ℕ) (k : ℕ) (w : Whole) : Type 0 where
  ends : end_of w.status ≡ ending_of t
  n : ℕ
  verdicts : w.verdicts ≡ verdicts_from t k n
  few : k + n ≤ cases_of t
  none : contents_allowed t ≡ false → n ≡ 0
  there : contents_allowed t ≡ true → begins t (k + n) ≤ length t
  all : contents_allowed t ≡ true → k + n < cases_of t → length t < begins t (suc (k + n))

-- the contents are not allowed
rest-refused : (t : List ℕ) (w : Whole) → contents_allowed t ≡ false → w.verdicts ≡ [] → end_of w.status ≡ (Err TraceRefusal.BadContents) → Rest t 0 w
unfolding verdicts_from
rest-refused t w bad empty e = record {
  ends = e ∙ sym (ending-contents t bad);
  n = 0;
  verdicts = empty;
  few = omega arith;
  none = λ f. refl;
  there = λ f. absurd (true≢false (sym f ∙ bad));
  all = λ f. absurd (true≢false (sym f ∙ bad));
}

-- no further body is whole
rest-none : (t : List ℕ) (k : ℕ) (w : Whole) → w.verdicts ≡ [] → end_of w.status ≡ ending_of t → k ≤ cases_of t → begins t k ≤ length t →
    (k < cases_of t → length t < begins t (suc k)) → Rest t k w
unfolding verdicts_from
rest-none t k w empty e few from to = record {
  ends = e;
  n = 0;
  verdicts = empty;
  few = omega arith;
  none = λ f. refl;
  there = λ f. rw (add-zero k) from;
  all = λ f l. rw (add-zero k) (to (omega arith));
}

-- the verdict of case k, then what the bytes from the next on bring
rest-case : (t : List ℕ) (k : ℕ) (w : Whole) (v : Verdict) → contents_allowed t ≡ true → v ≡ case_of t k → Rest t (suc k) w →
    Rest t k (record { verdicts = v ∷ w.verdicts; status = w.status })
unfolding verdicts_from
rest-case t k w v good e r =
    let move : suc k + r.n ≡ k + suc r.n = omega arith in
    record {
      ends = r.ends;
      n = suc r.n;
      verdicts = rw (e, r.verdicts);
      few = omega (arith, r.few);
      none = λ f. absurd (true≢false (sym good ∙ f));
      there = λ f. rw move at (r.there f);
      all = λ f l. rw move at (r.all f (omega arith));
    }

-- ---- past the contents

module _ (h : List ℕ) (k : ℕ) (v : Within h k) where
  -- no byte more: what an end tells
  close-same : end_of (live h) ≡ ending_of h
  close-same =
      elim (dec_le (cases_of h) k) [
        | yes l ↦
            let whole : k ≡ cases_of h = omega (arith, v.few) in
            close-past h (subst (Within h) whole v) ∙ sym (ending-complete h v.contents (v.last whole ∙ ap (begins h) whole))
        | no l ↦
            let behind = begins-mono h (suc k) (cases_of h) (omega arith) in
            let short = v.to (omega arith) in
            close-within h k v (omega arith) ∙ sym (ending-total h v.contents (λ e. omega arith))
      ]

  -- a byte too many
  rest-past : (b : ℕ) (x : List ℕ) → k ≡ cases_of h → Rest (h ++ b ∷ x) k (record { verdicts = []; status = over (Err TraceRefusal.BadTotal) })
  rest-past b x whole =
      let t : List ℕ = h ++ b ∷ x in
      let n = length-append h (b ∷ x) in
      let c = cases-kept h (b ∷ x) k v in
      let from = begins-kept h (b ∷ x) k v k (omega arith) in
      let last : length h ≡ begins h k = v.last whole in
      let total : total_of t ≡ begins h k = ap (begins t) (c ∙ sym whole) ∙ from in
      rest-none t k _ refl (sym (ending-total t (contents-kept h (b ∷ x) k v) (λ e. omega arith))) (omega arith) (omega arith) (λ l. absurd (omega arith))

  module _ (b : ℕ) (x : List ℕ) (ih : (j : ℕ) → Within (then h b) j → Rest (then h b ++ x) j (whole_from x (then h b))) where
    rest-within : (d : Told) → WithinThen h b k d → Rest (then h b ++ x) k (whole_on d (then h b) (whole_from x))
    rest-within d (WithinThen.on l w) = ih k w
    rest-within d (WithinThen.whole e w) =
        rest-case (then h b ++ x) k _ _ (contents-kept (then h b) x (suc k) w) (sym (case-kept (then h b) x (suc k) w k (omega arith))) (ih (suc k) w)
    rest-within d (WithinThen.past all) = rw (append_snoc h b x) (rest-past b x all)

from-within : (x h : List ℕ) (k : ℕ) → Within h k → Rest (h ++ x) k (whole_from x h)
unfolding whole_from
from-within [] h k v = rw append-nil (rest-none h k _ refl (close-same h k v) v.few v.from v.to)
from-within (b ∷ x) h k v =
    subst (λ (t : List ℕ). Rest t k (whole_on (due_of (then h b)) (then h b) (whole_from x))) (append_snoc h b x)
    (rest-within h k v b x (from-within x (then h b)) _ (within-then h b k v))

-- ---- within the contents

contents-short : (t : List ℕ) → length t < contents_size t → contents_allowed t ≡ false
contents-short t l = cases (contents_allowed t) (λ e. absurd (omega (arith, ((contents-numbers t).0 e).0))) (λ e. e)

-- a number that is not allowed
contents-bad : (h x : List ℕ) (i : ℕ) → 4 * i + 4 ≤ length h → length h ≤ contents_size h → number_allowed h i ≡ false → contents_allowed (h ++ x) ≡ false
contents-bad h x i l m bad =
    let c = word-append h x 0 (omega arith) in
    cases (contents_allowed (h ++ x))
    (λ e. absurd (true≢false (sym (((contents-numbers (h ++ x)).0 e).1 i (omega arith)) ∙ allowed-append h x i l ∙ bad)))
    (λ e. e)

module _ (h : List ℕ) (b : ℕ) (x : List ℕ) (ih : Listing (then h b) → Rest (then h b ++ x) 0 (whole_from x (then h b))) where
  rest-listing : (d : Told) → ListingThen h b d → Rest (then h b ++ x) 0 (whole_on d (then h b) (whole_from x))
  rest-listing d (ListingThen.on w) = ih w
  rest-listing d (ListingThen.whole w) = from-within x (then h b) 0 w
  rest-listing d (ListingThen.refused i l short bad) = rest-refused (then h b ++ x) _ (contents-bad (then h b) x i l short bad) refl refl

from-listing : (x h : List ℕ) → Listing h → Rest (h ++ x) 0 (whole_from x h)
unfolding whole_from
from-listing [] h v = rw append-nil (rest-refused h _ (contents-short h v.short) refl (close-listing h v))
from-listing (b ∷ x) h v =
    subst (λ (t : List ℕ). Rest t 0 (whole_on (due_of (then h b)) (then h b) (whole_from x))) (append_snoc h b x)
    (rest-listing h b x (from-listing x (then h b)) _ (listing-then h b v))

-- ---- whatever the calls with the bytes of a trace of any size, and an end behind them

pub streamed : {t : List ℕ} {w : Whole} → Calls start t w → Streamed t w.verdicts (end_of w.status)
streamed {t} {w} c =
    let r = from-listing t [] live-empty in
    let e = zero-add r.n in
    let same = calls-whole c in
    record {
      ends = ap (λ (x : Whole). end_of x.status) same ∙ r.ends;
      n = r.n;
      told = ap (λ (x : Whole). x.verdicts) same ∙ r.verdicts;
      few = omega (arith, r.few);
      none = r.none;
      there = λ p. rw e at (r.there p);
      all = λ p l. rw e at (r.all p (omega arith));
    }

-- ---- a trace of up to 64 KiB

accept-by : (t : List ℕ) (a b : Bool) →
    pick_accepted a (pick_accepted b (Ok (cases_of t)) (Err TraceRefusal.BadTotal)) (Err TraceRefusal.BadContents)
    ≡ accepted_by (pick_end a (pick_end b (Ok tt) (Err TraceRefusal.BadTotal)) (Err TraceRefusal.BadContents)) t
accept-by t true true = refl
accept-by t true false = refl
accept-by t false b = refl

pub accept-ends : (t : List ℕ) → length t ≤ 65536 → accepted_of t ≡ accepted_by (ending_of t) t
unfolding accepted_of ending_of
accept-ends t l = rw (le-leb (length t) 65536 l) (accept-by t (contents_allowed t) (eqb (length t) (total_of t)))

number_by : (t : List ℕ) (e : End) → end_number e ≡ accepted_number (accepted_by e t)
number_by t (Ok tt) = refl
number_by t (Err TraceRefusal.BadContents) = refl
number_by t (Err TraceRefusal.BadTotal) = refl

pub ended-short : {t : List ℕ} {w : Whole} → Calls start t w → length t ≤ 65536 → end_number (end_of w.status) ≡ accepted_number (accepted_of t)
ended-short {t} {w} c l = ap end_number (streamed c).ends ∙ number_by t (ending_of t) ∙ ap accepted_number (sym (accept-ends t l))

-- ---- a trace that A9 accepts, with c cases

verdicts-length : (t : List ℕ) (k n : ℕ) → length (verdicts_from t k n) ≡ n
unfolding verdicts_from
verdicts-length t k zero = refl
verdicts-length t k (suc n) = ap suc (verdicts-length t (suc k) n)

verdicts-at : (t : List ℕ) (k n i : ℕ) → i < n → get_elem? (verdicts_from t k n) i ≡ some (case_of t (k + i))
unfolding verdicts_from
verdicts-at t k zero i l = absurd (omega arith)
verdicts-at t k (suc n) zero l = rw (add-zero k)
verdicts-at t k (suc n) (suc i) l = let move : suc k + i ≡ k + suc i = omega arith in rw move at (verdicts-at t (suc k) n i (omega arith))

accepted-as : (t : List ℕ) {n c : ℕ} → AcceptReturns t n c → n ≡ 0 → ContentsAllowed t × TotalAllowed t × (c ≡ cases_of t)
accepted-as t (AcceptReturns.accepted a b) e = (a, b, refl)
accepted-as t (AcceptReturns.bad_contents a) e = absurd (omega arith)
accepted-as t (AcceptReturns.bad_total a b) e = absurd (omega arith)

-- all bodies are whole
all_told : (t : List ℕ) {verdicts : List Verdict} {end : End} → ContentsAllowed t → TotalAllowed t → Streamed t verdicts end →
    verdicts ≡ verdicts_from t 0 (cases_of t)
all_told t a b s =
    elim (dec_le (cases_of t) s.n) [
      | yes l ↦ let e : s.n ≡ cases_of t = omega (arith, s.few) in s.told ∙ ap (verdicts_from t 0) e
      | no l ↦ absurd (omega (arith, s.all ((contents-exact t).1 a) (omega arith), begins-mono t (suc s.n) (cases_of t) (omega arith), b.exact))
    ]

pub verdict-is-replay : {t : List ℕ} {w : Whole} (c : ℕ) → accepted_of t ≡ Ok c → Calls start t w → Replayed t c w.verdicts (end_of w.status)
unfolding judge_of
verdict-is-replay {t} {w} c e calls =
    let s = streamed calls in
    let r = accepted-as t ((accept-exact t 0 c).0 (ap accepted_number e, ap accepted_cases e)) refl in
    let all : w.verdicts ≡ verdicts_from t 0 c = all_told t r.0 r.1 s ∙ ap (verdicts_from t 0) (sym r.2) in
    record {
      complete = s.ends ∙ ending-complete t ((contents-exact t).1 r.0) r.1.exact;
      count = ap length all ∙ verdicts-length t 0 c;
      verdict = λ k l. ap (λ (v : List Verdict). get_elem? v k) all ∙ verdicts-at t 0 c k l ∙ ap (λ (i : ℕ). some (case_of t i)) (zero-add k);
      judged = λ k l. rw (e, lt-ltb k c l);
    }
