-- Document 01, 'Numbers returned', with request A5's 11, exactly: `call-exact` (a run), `check-exact` (a length and a size), `register-exact` (asking for a register) and
-- `decode-exact`; `encode-exact` stands in Checks. Assumes nothing.
use mathlib.Core.Path.{◌≡◌, refl, sym, ap, ◌∙◌, subst}
use mathlib.Core.Logic.{◌↔◌}
use Prim.Native.Nat.{ℕ, ◌*◌, ◌<◌, ◌≤◌}
use native.Mathlib.Omega.{arith}
use mathlib.Core.Bool.{Bool, true, false}
use mathlib.Core.List.{List}
use lib.Dec.{ltb, eqb}
use lib.ListN.{length, get_or}
use borrow.Author.Tests.{ltb-true, ltb-false, lt-ltb, le-ltb, eqb-true, eqb-false, eq-eqb, ne_eqb}
use Rattle.isa.specs.declared.types.Op.{Op}
use Rattle.isa.specs.declared.types.Decoded.{Decoded}
use Rattle.isa.specs.declared.types.Ending.{Ending}
use Rattle.isa.specs.Decode.{decode_of}
use Rattle.isa.specs.File.{legal, multiple, check_of, register_check, register_of}
use Rattle.isa.specs.Run.{State, start, Outcome, run, outcome_of}
use Rattle.isa.specs.Number.{decoded_number, decoded_operation, written_number, written_word, checked_number, asked_number, ending_number, run_number, run_left}
use Rattle.isa.specs.Returned.{Runs, Operations, after_words, RunReturns, RunsAs, CheckReturns, ChecksAs, RegisterReturns, AsksAs, DecodeReturns, DecodesAs}
use Rattle.isa.proofs.File.{legal-multiple, refused-exact, other-exact}
use Rattle.isa.proofs.Order.{refused-length, refused-power, refused-size, refused-program, run-otherwise}
use Rattle.isa.proofs.Run.{Stop, Worked, Ends, run_ends, run-exact, run-prefix}
use Rattle.isa.proofs.Checks.{passed, word-exact, encode-exact}
use Rattle.isa.proofs.Exact.{operation-exact, reserved-exact, outside-exact}
use Rattle.isa.proofs.RoundTrip.{decode-encode, encode-decode}

-- two answers that are equal are returned alike
moved : {A B : Type 0} (P : A → B → Type 0) {a x : A} {b y : B} → P a b → (a ≡ x) × (b ≡ y) → P x y
moved P {a} {x} {b} {y} p e = subst (λ u. P u y) e.0 (subst (P a) e.1 p)

-- ---- a length and a size

module _ (L size : ℕ) where
  checked : (m l s : Bool) → multiple L ≡ m → legal L ≡ l → eqb size (4 * L) ≡ s → CheckReturns L size (checked_number (check_of L size))
  unfolding check_of checked_number
  checked false l s em el es = let o = (other-exact L).1 em in rw em (CheckReturns.bad_length o.0 o.1)
  checked true false s em el es = rw (em, el) (CheckReturns.not_power_of_two ((refused-exact L).1 (em, el)))
  checked true true false em el es = rw (em, el, es) (CheckReturns.bad_size el (eqb-false size (4 * L) es))
  checked true true true em el es = rw (em, el, es) (CheckReturns.passed el (eqb-true size (4 * L) es))

  checks : {n : ℕ} → CheckReturns L size n → checked_number (check_of L size) ≡ n
  unfolding check_of checked_number
  checks (CheckReturns.passed el es) = rw (legal-multiple L el, el, eq-eqb size (4 * L) es)
  checks (CheckReturns.bad_length el other) = rw ((other-exact L).0 (el, other))
  checks (CheckReturns.not_power_of_two h) = let r = (refused-exact L).0 h in rw (r.0, r.1)
  checks (CheckReturns.bad_size el ne) = rw (legal-multiple L el, el, ne_eqb size (4 * L) ne)

  pub check-exact : (n : ℕ) → ChecksAs L size n ↔ CheckReturns L size n
  check-exact n = ((λ e. subst (CheckReturns L size) e (checked _ _ _ refl refl refl)), checks)

-- ---- asking for a register

module _ (L : ℕ) (file : List ℕ) (r : ℕ) where
  asked : (m l s b : Bool) → multiple L ≡ m → legal L ≡ l → eqb (length file) (4 * L) ≡ s → ltb r 32 ≡ b →
      RegisterReturns L file r (asked_number (register_check L (length file) r)) (register_of L file r)
  unfolding register_of register_check check_of asked_number
  asked false l s b em el es eb = let o = (other-exact L).1 em in rw em (RegisterReturns.bad_length o.0 o.1)
  asked true false s b em el es eb = rw (em, el) (RegisterReturns.not_power_of_two ((refused-exact L).1 (em, el)))
  asked true true false b em el es eb = rw (em, el, es) (RegisterReturns.bad_size el (eqb-false (length file) (4 * L) es))
  asked true true true false em el es eb =
      let high : 31 < r = omega (arith, ltb-false r 32 eb) in
      rw (em, el, es, eb) (RegisterReturns.no_register el (eqb-true (length file) (4 * L) es) high)
  asked true true true true em el es eb =
      let low : r ≤ 31 = omega (arith, ltb-true r 32 eb) in
      rw (em, el, es, eb) (RegisterReturns.found el (eqb-true (length file) (4 * L) es) low)

  asks : {n : ℕ} {part : List ℕ} → RegisterReturns L file r n part → AsksAs L file r n part
  unfolding register_of register_check check_of asked_number
  asks (RegisterReturns.found el es h) = rw (legal-multiple L el, el, eq-eqb (length file) (4 * L) es, lt-ltb r 32 (omega arith)) (refl, refl)
  asks (RegisterReturns.bad_length el other) = rw ((other-exact L).0 (el, other)) (refl, refl)
  asks (RegisterReturns.not_power_of_two h) = let k = (refused-exact L).0 h in rw (k.0, k.1) (refl, refl)
  asks (RegisterReturns.bad_size el ne) = rw (legal-multiple L el, el, ne_eqb (length file) (4 * L) ne) (refl, refl)
  asks (RegisterReturns.no_register el es h) = rw (legal-multiple L el, el, eq-eqb (length file) (4 * L) es, le-ltb r 32 (omega arith)) (refl, refl)

  pub register-exact : (n : ℕ) (part : List ℕ) → AsksAs L file r n part ↔ RegisterReturns L file r n part
  register-exact n part = (moved (RegisterReturns L file r) (asked _ _ _ _ refl refl refl refl), asks)

-- ---- decoding

module _ (w : ℕ) where
  decoded : (d : Decoded) → decode_of w ≡ d → DecodeReturns w (decoded_number d) (decoded_operation d)
  unfolding decoded_number decoded_operation written_number written_word
  decoded (Decoded.Operation op) e =
      let h = decode-encode w op e in
      DecodeReturns.operation op ((operation-exact w).0 op e) ((encode-exact op 0 w).0 (ap written_number h, ap written_word h))
  decoded Decoded.Reserved e = DecodeReturns.reserved ((reserved-exact w).0 e)
  decoded Decoded.Outside e = DecodeReturns.outside ((outside-exact w).0 e)

  decodes : {n : ℕ} {v : List Op} → DecodeReturns w n v → DecodesAs w n v
  unfolding decoded_number decoded_operation
  decodes (DecodeReturns.operation op a h) =
      let e = (word-exact op w).1 (passed op 0 w h refl) in
      rw (encode-decode op w e).1 (refl, refl)
  decodes (DecodeReturns.outside h) = rw ((outside-exact w).1 h) (refl, refl)
  decodes (DecodeReturns.reserved h) = rw ((reserved-exact w).1 h) (refl, refl)

  pub decode-exact : (n : ℕ) (v : List Op) → DecodesAs w n v ↔ DecodeReturns w n v
  decode-exact n v = (moved (DecodeReturns w) (decoded _ refl), decodes)

-- ---- a run

module _ (L : ℕ) (file : List ℕ) (qc : Bool) (words : List ℕ) where
  abbrev ran : Outcome
  ran = run L words (start file qc)

  operations : (k : ℕ) → Worked words k → Operations words k
  operations k worked i h = let o = worked i h in (operation-exact (get_or words i 0)).0 o.0 o.1

  worked : (k : ℕ) → Operations words k → Worked words k
  worked k allowed i h = (operation-exact (get_or words i 0)).1 (allowed i h)

  -- what is left is what a run of the words done alone leaves
  left : run_left ran ≡ after_words L file qc words ran.answer.done
  left = sym (ap (λ (o : Outcome). record { file = o.file; qc = o.answer.qc; done = ran.answer.done }) (run-prefix L words file qc))

  returned : {k : ℕ} {e : Ending} → Runs L file words → Worked words k → Ends words k e → RunReturns L file qc words (ending_number e) (after_words L file qc words k)
  unfolding ending_number
  returned {k} r h (Ends.all e) =
      subst (λ n. RunReturns L file qc words 0 (after_words L file qc words n)) (sym e) (RunReturns.done r (subst (Operations words) e (operations k h)))
  returned {k} r h (Ends.stop Stop.outside l e) = RunReturns.outside k r (operations k h) l ((outside-exact (get_or words k 0)).0 e)
  returned {k} r h (Ends.stop Stop.reserved l e) = RunReturns.reserved k r (operations k h) l ((reserved-exact (get_or words k 0)).0 e)

  called : (m l s p : Bool) → multiple L ≡ m → legal L ≡ l → eqb (length file) (4 * L) ≡ s → ltb 4096 (length words) ≡ p →
      RunReturns L file qc words (run_number (outcome_of L file qc words)) (run_left (outcome_of L file qc words))
  unfolding ending_number
  called false l s p em el es ep = let o = (other-exact L).1 em in rw (refused-length L file qc words em) (RunReturns.bad_length o.0 o.1)
  called true false s p em el es ep = rw (refused-power L file qc words em el) (RunReturns.not_power_of_two ((refused-exact L).1 (em, el)))
  called true true false p em el es ep =
      let other : length file ≡ 4 * L → ⊥ = eqb-false (length file) (4 * L) es in
      rw (refused-size L file qc words el other) (RunReturns.bad_size el other)
  called true true true true em el es ep =
      let size = eqb-true (length file) (4 * L) es in
      let long = ltb-true 4096 (length words) ep in
      rw (refused-program L file qc words el size long) (RunReturns.too_long el size long)
  called true true true false em el es ep =
      let size = eqb-true (length file) (4 * L) es in
      let short = ltb-false 4096 (length words) ep in
      let r = run_ends L words file qc in
      rw (run-otherwise L file qc words el size short, left) (returned (record { ok = el; sized = size; short = short }) r.0 r.1)

  -- the run ends so after k words
  runs_as : {k : ℕ} {e : Ending} → Runs L file words → Operations words k → Ends words k e → RunsAs L file qc words (ending_number e) (after_words L file qc words k)
  runs_as {k} {e} r h ends =
      let exact = run-exact L words (start file qc) k e (worked k h) ends in
      let count : ran.answer.done ≡ k = omega (arith, exact.0) in
      rw (run-otherwise L file qc words r.ok r.sized r.short) (ap ending_number exact.1, left ∙ ap (after_words L file qc words) count)

  runs : {n : ℕ} {s : State} → RunReturns L file qc words n s → RunsAs L file qc words n s
  unfolding ending_number
  runs (RunReturns.done r h) = runs_as r h (Ends.all refl)
  runs (RunReturns.bad_length el other) = rw (refused-length L file qc words ((other-exact L).0 (el, other))) (refl, refl)
  runs (RunReturns.not_power_of_two h) = let k = (refused-exact L).0 h in rw (refused-power L file qc words k.0 k.1) (refl, refl)
  runs (RunReturns.bad_size el other) = rw (refused-size L file qc words el other) (refl, refl)
  runs (RunReturns.too_long el size long) = rw (refused-program L file qc words el size long) (refl, refl)
  runs (RunReturns.outside k r h l e) = runs_as r h (Ends.stop Stop.outside l ((outside-exact (get_or words k 0)).1 e))
  runs (RunReturns.reserved k r h l e) = runs_as r h (Ends.stop Stop.reserved l ((reserved-exact (get_or words k 0)).1 e))

  pub call-exact : (n : ℕ) (s : State) → RunsAs L file qc words n s ↔ RunReturns L file qc words n s
  call-exact n s = (moved (RunReturns L file qc words) (called _ _ _ _ refl refl refl refl), runs)
