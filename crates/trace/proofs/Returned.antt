-- Request A9's numbers and verdicts, exactly: `accept-exact` (a trace), `case-exact` (a case of an accepted trace) and `judge-exact` (a case asked for).
-- `verdict-exact`: the verdict on any body whose parts have their sizes. `case-runs`: document 01's run of a case is never refused. `verdict-small`,
-- `number_small`, `kind-small`, `place-small`: how large the answers are. Assumes nothing.
use mathlib.Core.Path.{◌≡◌, refl, sym, ap, ap₂, ◌∙◌, subst}
use mathlib.Core.Logic.{◌↔◌}
use mathlib.Core.List.{List}
use mathlib.Core.Bool.{Bool, true, false, ◌&&◌, true≢false, Bool-discrete}
use Prim.Native.Nat.{ℕ, ◌*◌, ◌<◌, ◌≤◌}
use native.Mathlib.Omega.{arith}
use lib.Dec.{ltb}
use lib.ListN.{length}
use borrow.Author.Tests.{ltb-true, ltb-false, lt-ltb, le-ltb}
use Rattle.isa.specs.declared.types.Ending.{Ending}
use Rattle.isa.specs.Number.{ending_number, run_number, run_left}
use Rattle.isa.specs.Returned.{RunsAs}
use Rattle.isa.specs.Run.{State, start, ended, run}
use Rattle.isa.proofs.File.{cases, legal-exact}
use Rattle.isa.proofs.Fields.{and_left, and_right}
use Rattle.isa.proofs.Order.{run-otherwise}
use Rattle.isa.proofs.Run.{Stop, Ends, run_ends, run-count}
use Rattle.isa.proofs.Returned.{call-exact}
use Rattle.trace.specs.Trace.{cases_of, length_at}
use Rattle.trace.specs.Verdict.{Body, is_flag, flag_of, flags, compared, verdict_on, verdict_of, case_of, accepted_of, judge_of}
use Rattle.trace.specs.Number.{verdict_kind, verdict_place, judged_number, judged_kind, judged_place}
use Rattle.trace.specs.Returned.{ContentsAllowed, TotalAllowed, AcceptReturns, AcceptsAs, FlagsAllowed, BodyRuns, RunEnds, NotRefused, run_of, CaseReturns, body_at, JudgeReturns, JudgesAs}
use Rattle.trace.specs.declared.types.Verdict.{Verdict}
use Rattle.trace.proofs.Contents.{and_both, refused, contents-exact, total-exact}
use Rattle.trace.proofs.Compared.{compared_same, compared-differs, first-difference}
use Rattle.trace.proofs.Pieces.{run-kept}
use Rattle.trace.proofs.Sizes.{Sized, case-sized}

-- what a test decides holds or does not
decided : {A B : Type 0} {t : Bool} → ((t ≡ true) ↔ A) → (A → B) → ((A → ⊥) → B) → B
decided {t = t} e good bad = cases t (λ h. good (e.0 h)) (λ h. bad (λ a. true≢false (sym (e.1 a) ∙ h)))

-- where all that is returned is what the definition answers, and something is, its answer is returned
exactly : {A B : Type 0} {P : A → B → Type 0} {a : A} {b : B} → ((x : A) (y : B) → P x y → (a ≡ x) × (b ≡ y)) → (x : A) × (y : B) × P x y →
    (x : A) (y : B) → ((a ≡ x) × (b ≡ y)) ↔ P x y
exactly said some x y = let e = said _ _ some.2 in ((λ h. rw (← h.0, ← h.1, e.0, e.1) some.2), said x y)

-- ---- the check of a trace

module _ (t : List ℕ) where
  checks : {n cases : ℕ} → AcceptReturns t n cases → AcceptsAs t n cases
  unfolding accepted_of
  checks (AcceptReturns.accepted c a) = rw ((contents-exact t).1 c, (total-exact t).1 a) (refl, refl)
  checks (AcceptReturns.bad_contents bad) = rw (refused (contents-exact t) bad) (refl, refl)
  checks (AcceptReturns.bad_total c bad) = rw ((contents-exact t).1 c, refused (total-exact t) bad) (refl, refl)

  checked : (n : ℕ) × (cases : ℕ) × AcceptReturns t n cases
  checked =
      decided (contents-exact t)
      (λ c. decided (total-exact t) (λ a. (0, cases_of t, AcceptReturns.accepted c a)) (λ bad. (16, 0, AcceptReturns.bad_total c bad)))
      (λ bad. (15, 0, AcceptReturns.bad_contents bad))

  pub accept-exact : (n cases : ℕ) → AcceptsAs t n cases ↔ AcceptReturns t n cases
  accept-exact = exactly (λ n cases. checks) checked

-- ---- a run that is not refused: its number and its ending

ends_same : {n : ℕ} {e d : Ending} → RunEnds n e → RunEnds n d → e ≡ d
ends_same RunEnds.done RunEnds.done = refl
ends_same RunEnds.outside RunEnds.outside = refl
ends_same RunEnds.reserved RunEnds.reserved = refl

ends-known : {words : List ℕ} {n : ℕ} {e : Ending} → Ends words n e → RunEnds (ending_number e) e
unfolding ending_number
ends-known (Ends.all h) = RunEnds.done
ends-known (Ends.stop Stop.outside l h) = RunEnds.outside
ends-known (Ends.stop Stop.reserved l h) = RunEnds.reserved

-- ---- the flags

flag-exact : (n : ℕ) → (is_flag n ≡ true) ↔ (n ≤ 1)
flag-exact n = ((λ e. omega (arith, ltb-true n 2 e)), (λ l. lt-ltb n 2 (omega arith)))

flags-exact : (b : Body) → ((is_flag b.before && is_flag b.after) ≡ true) ↔ FlagsAllowed b
flags-exact b =
    let first = is_flag b.before in
    let last = is_flag b.after in (
      (λ e. record { before = (flag-exact _).0 (and_left first last e); after = (flag-exact _).0 (and_right first last e) }),
      (λ f. and_both ((flag-exact _).1 f.before) ((flag-exact _).1 f.after)),
    )

flags-same : (q : Bool) → flags q q ≡ Verdict.Agrees
flags-same true = refl
flags-same false = refl

flags-other : (q r : Bool) → (q ≡ r → ⊥) → flags q r ≡ Verdict.FlagDiffers
flags-other true true other = absurd (other refl)
flags-other true false other = refl
flags-other false true other = refl
flags-other false false other = absurd (other refl)

-- ---- the verdict on a body whose parts have their sizes

module _ (L : ℕ) (b : Body) (z : Sized L b) where
  run-known : run_of L b ≡ run L b.words (start b.file (flag_of b.before))
  run-known = run-otherwise L _ _ _ z.ok z.file z.words

  pub not-refused : NotRefused (run_of L b)
  not-refused = rw run-known (ends-known (run_ends L b.words b.file (flag_of b.before)).1)

  answered : {n : ℕ} {s : State} → BodyRuns L b n s → RunsAs L b.file (flag_of b.before) b.words n s
  answered = (call-exact L _ _ _ _ _).1

  outcome-known : {n : ℕ} {e : Ending} {s : State} → RunEnds n e → BodyRuns L b n s → run_of L b ≡ ended e s
  outcome-known h r = ap₂ ended (ends_same (subst (λ n. RunEnds n (run_of L b).answer.ending) (answered r).0 not-refused) h) (answered r).1

  run-sizes : {n : ℕ} {s : State} → BodyRuns L b n s → (length s.file ≡ 4 * L) × (s.done ≤ length b.words)
  run-sizes r =
      subst (λ (s : State). (length s.file ≡ 4 * L) × (s.done ≤ length b.words)) (ap run_left (sym run-known) ∙ (answered r).1)
      (run-kept L b.words _ z.file, (run-count L b.words _ _).0)

  -- after a run of all the words the files are compared
  done-compared : {s : State} → FlagsAllowed b → BodyRuns L b 0 s → verdict_on L b ≡ compared 0 s.file b.left (flags s.qc (flag_of b.after))
  done-compared f r = rw ((flags-exact b).1 f, outcome-known RunEnds.done r)

  done-same : {s : State} → FlagsAllowed b → BodyRuns L b 0 s → s.file ≡ b.left → verdict_on L b ≡ flags s.qc (flag_of b.after)
  done-same f r same = done-compared f r ∙ rw same (compared_same _ b.left b.left 0 refl (λ i l. refl))

  returns : {kind place : ℕ} → CaseReturns L b kind place → (verdict_kind (verdict_on L b) ≡ kind) × (verdict_place (verdict_on L b) ≡ place)
  returns (CaseReturns.bad_flag bad) = rw (refused (flags-exact b) bad) (refl, refl)
  returns (CaseReturns.outside s f r) = rw ((flags-exact b).1 f, outcome-known RunEnds.outside r) (refl, refl)
  returns (CaseReturns.reserved s f r) = rw ((flags-exact b).1 f, outcome-known RunEnds.reserved r) (refl, refl)
  returns (CaseReturns.file_differs s i f r d) =
      rw (done-compared f r, compared-differs _ s.file b.left 0 i (z.left ∙ sym (run-sizes r).0) d.within d.earlier d.here) (refl, omega arith)
  returns (CaseReturns.flag_differs s f r same other) = rw (done-same f r same, flags-other _ _ other) (refl, refl)
  returns (CaseReturns.agrees s f r same flag) = rw (done-same f r same, flag, flags-same (flag_of b.after)) (refl, refl)

  by_flag : {s : State} → FlagsAllowed b → BodyRuns L b 0 s → s.file ≡ b.left → Dec (s.qc ≡ flag_of b.after) →
      (kind : ℕ) × (place : ℕ) × CaseReturns L b kind place
  by_flag {s} f r same (yes flag) = (1, 0, CaseReturns.agrees s f r same flag)
  by_flag {s} f r same (no other) = (3, 0, CaseReturns.flag_differs s f r same other)

  by-ending : {n : ℕ} {e : Ending} {s : State} → FlagsAllowed b → RunEnds n e → BodyRuns L b n s → (kind : ℕ) × (place : ℕ) × CaseReturns L b kind place
  by-ending {s = s} f RunEnds.done r =
      first-difference s.file b.left ((run-sizes r).0 ∙ sym z.left)
      (λ same. by_flag f r same (Bool-discrete s.qc (flag_of b.after)))
      (λ i d. (2, i, CaseReturns.file_differs s i f r d))
  by-ending {s = s} f RunEnds.outside r = (4, s.done, CaseReturns.outside s f r)
  by-ending {s = s} f RunEnds.reserved r = (5, s.done, CaseReturns.reserved s f r)

  returned : (kind : ℕ) × (place : ℕ) × CaseReturns L b kind place
  returned =
      decided (flags-exact b)
      (λ f. by-ending f not-refused ((call-exact L _ _ _ (run_number (run_of L b)) (run_left (run_of L b))).0 (refl, refl)))
      (λ bad. (17, 0, CaseReturns.bad_flag bad))

  pub verdict-exact : (kind place : ℕ) → ((verdict_kind (verdict_on L b) ≡ kind) × (verdict_place (verdict_on L b) ≡ place)) ↔ CaseReturns L b kind place
  verdict-exact = exactly (λ kind place. returns) returned

  -- a place is a byte's of at most 4 x 2,048, or a word's of at most 4,096
  case-small : {kind place : ℕ} → CaseReturns L b kind place → (kind < 18) × (place < 8192)
  case-small (CaseReturns.bad_flag bad) = (omega arith, omega arith)
  case-small (CaseReturns.outside s f r) = (omega arith, omega (arith, (run-sizes r).1, z.words))
  case-small (CaseReturns.reserved s f r) = (omega arith, omega (arith, (run-sizes r).1, z.words))
  case-small (CaseReturns.file_differs s i f r d) = (omega arith, omega (arith, d.within, (run-sizes r).0, ((legal-exact L).0 z.ok).most))
  case-small (CaseReturns.flag_differs s f r same other) = (omega arith, omega arith)
  case-small (CaseReturns.agrees s f r same flag) = (omega arith, omega arith)

  pub verdict-small : (verdict_kind (verdict_on L b) < 18) × (verdict_place (verdict_on L b) < 8192)
  verdict-small = case-small ((verdict-exact _ _).0 (refl, refl))

-- ---- the cases of an accepted trace

module _ (t : List ℕ) (c : ContentsAllowed t) (a : TotalAllowed t) (k : ℕ) (l : k < cases_of t) where
  pub case-runs : NotRefused (run_of (length_at t k) (body_at t k))
  case-runs = not-refused _ (body_at t k) (case-sized t c a k l)

  pub case-exact : (kind place : ℕ) → ((verdict_kind (case_of t k) ≡ kind) × (verdict_place (case_of t k) ≡ place)) ↔ CaseReturns (length_at t k) (body_at t k) kind place
  unfolding case_of verdict_of
  case-exact = verdict-exact _ (body_at t k) (case-sized t c a k l)

-- ---- a case asked for by its number

module _ (t : List ℕ) (k : ℕ) where
  judges : {n kind place : ℕ} → JudgeReturns t k n kind place → JudgesAs t k n kind place
  unfolding judge_of accepted_of
  judges (JudgeReturns.bad_contents bad) = rw (refused (contents-exact t) bad) (refl, refl, refl)
  judges (JudgeReturns.bad_total c bad) = rw ((contents-exact t).1 c, refused (total-exact t) bad) (refl, refl, refl)
  judges (JudgeReturns.no_case c a l) = rw ((contents-exact t).1 c, (total-exact t).1 a, le-ltb k (cases_of t) l) (refl, refl, refl)
  judges (JudgeReturns.judged kind place c a l r) =
      let e = (case-exact t c a k l kind place).1 r in
      rw ((contents-exact t).1 c, (total-exact t).1 a, lt-ltb k (cases_of t) l) (refl, e.0, e.1)

  by-check : {m cases : ℕ} → AcceptReturns t m cases → (n : ℕ) × (kind : ℕ) × (place : ℕ) × JudgeReturns t k n kind place
  by-check (AcceptReturns.accepted c a) =
      cases (ltb k (cases_of t))
      (λ h. let l = ltb-true _ _ h in (0, _, _, JudgeReturns.judged _ _ c a l ((case-exact t c a k l _ _).0 (refl, refl))))
      (λ h. (22, 0, 0, JudgeReturns.no_case c a (ltb-false _ _ h)))
  by-check (AcceptReturns.bad_contents bad) = (15, 0, 0, JudgeReturns.bad_contents bad)
  by-check (AcceptReturns.bad_total c bad) = (16, 0, 0, JudgeReturns.bad_total c bad)

  pub judge-exact : (n kind place : ℕ) → JudgesAs t k n kind place ↔ JudgeReturns t k n kind place
  judge-exact n kind place =
      let some = by-check (checked t).2 in
      let e = judges some.3 in
      ((λ h. rw (← h.0, ← h.1, ← h.2, e.0, e.1, e.2) some.3), judges)

  all_small : {n kind place : ℕ} → JudgeReturns t k n kind place → (n < 23) × (kind < 18) × (place < 8192)
  all_small (JudgeReturns.bad_contents bad) = (omega arith, omega arith, omega arith)
  all_small (JudgeReturns.bad_total c bad) = (omega arith, omega arith, omega arith)
  all_small (JudgeReturns.no_case c a l) = (omega arith, omega arith, omega arith)
  all_small (JudgeReturns.judged kind place c a l r) = let s = case-small _ _ (case-sized t c a k l) r in (omega arith, s.0, s.1)

  pub number_small : judged_number (judge_of t k) < 23
  number_small = (all_small ((judge-exact _ _ _).0 (refl, refl, refl))).0

  pub kind-small : judged_kind (judge_of t k) < 18
  kind-small = (all_small ((judge-exact _ _ _).0 (refl, refl, refl))).1

  pub place-small : judged_place (judge_of t k) < 8192
  place-small = (all_small ((judge-exact _ _ _).0 (refl, refl, refl))).2
