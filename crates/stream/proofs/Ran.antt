-- The run of the words of a body that have come. `run-onward`: words behind others go on where those ended with done, and change nothing where they
-- stopped. `ran-early`, `standing-early`: before the first word is whole. `words-move`: whole words more. `ran-partial`: less than a word more. Assumes nothing.
use mathlib.Core.Path.{◌≡◌, refl, sym, ap, ◌∙◌}
use mathlib.Core.List.{List, [], ◌∷◌, ◌++◌, append-nil}
use mathlib.Core.Bool.{Bool, true, false}
use Prim.Native.Nat.{ℕ, ◌+◌, ◌*◌, ◌-◌, ◌/◌, ◌%◌, ◌<◌, ◌≤◌}
use native.Mathlib.Omega.{arith}
use native.Mathlib.Decide.{dec_le}
use lib.ListN.{length, take, drop, length-append, length-take, length-drop, drop_of_length-le}
use lib.Seq.{take_all, take-append-le, drop-append-le}
use borrow.Author.Tests.{lt-leb, le-leb}
use Rattle.isa.specs.Bytes.{words_of}
use Rattle.isa.specs.Decode.{decode_of}
use Rattle.isa.specs.File.{legal, check_of}
use Rattle.isa.specs.Run.{State, start, after, Outcome, run, checked_run, outcome_of}
use Rattle.std.specs.Prelude.{Ok, Err}
use Rattle.isa.specs.Check.{Check}
use Rattle.isa.specs.declared.types.FileRefusal.{FileRefusal}
use Rattle.isa.specs.declared.types.Decoded.{Decoded}
use Rattle.isa.specs.declared.types.Ending.{Ending}
use Rattle.isa.specs.declared.types.Op.{Op}
use Rattle.isa.proofs.Bytes.{words-length, words_append}
use Rattle.isa.proofs.File.{cases}
use Rattle.isa.proofs.FileChecks.{check-passed}
use Rattle.isa.proofs.Going.{outcome-runs}
use Rattle.isa.proofs.Run.{Stop, run-elim, run_on, run-stop}
use Rattle.trace.specs.Verdict.{parts_of, is_flag, flag_of, pick_verdict}
use Rattle.trace.specs.declared.types.Verdict.{Verdict}
use Rattle.trace.proofs.Pieces.{counted, from, run-from, run-kept}
use Rattle.trace.proofs.Prefix.{word-append}
use Rattle.stream.specs.Body.{before_in, pick_bytes, ran_in, stop_said, standing_in}
use Rattle.stream.specs.Steps.{standing_before, worked, NumberByte}
use Rattle.stream.specs.declared.state.Standing.{Standing}

-- ---- words behind others

-- the state that an outcome leaves
abbrev left_by : Outcome → State
left_by o = record { file = o.file; qc = o.answer.qc; done = o.answer.done }

data Onward (L : ℕ) (xs ys : List ℕ) (s : State) (o : Outcome) : Type 0 where
  on : o.answer.ending ≡ Ending.Done → o.answer.done ≡ s.done + length xs → run L (xs ++ ys) s ≡ run L ys (left_by o) → Onward L xs ys s o
  stops : {d : Decoded} {e : Ending} → Stop d e → o.answer.ending ≡ e → run L (xs ++ ys) s ≡ o → Onward L xs ys s o

run-onward : (L : ℕ) (ys xs : List ℕ) (s : State) → Onward L xs ys s (run L xs s)
unfolding after
run-onward L ys =
    run-elim L (λ xs s o. Onward L xs ys s o)
    (λ s. on refl (omega arith) refl)
    (λ w xs s d e k h. stops k refl (run-stop L w (xs ++ ys) s k h))
    (λ w xs s op h ih. more w xs s op h ih)
  where
    more : (w : ℕ) (xs : List ℕ) (s : State) (op : Op) → decode_of w ≡ Decoded.Operation op → Onward L xs ys (after L op s) (run L xs (after L op s)) →
        Onward L (w ∷ xs) ys s (run L xs (after L op s))
    more w xs s op h (on d c r) = on d (c ∙ (let e : s.done + 1 + length xs ≡ s.done + length (w ∷ xs) = omega arith in e)) (run_on L w (xs ++ ys) s h ∙ r)
    more w xs s op h (stops k d r) = stops k d (run_on L w (xs ++ ys) s h ∙ r)

-- the same of the whole call, on a whole file
pub data Next (L : ℕ) (xs ys : List ℕ) (file : List ℕ) (qc : Bool) (o : Outcome) : Type 0 where
  on : o.answer.ending ≡ Ending.Done → o.answer.done ≡ length xs → length o.file ≡ 4 * L →
      outcome_of L file qc (xs ++ ys) ≡ counted o.answer.done (outcome_of L o.file o.answer.qc ys) → Next L xs ys file qc o
  stops : {d : Decoded} {e : Ending} → Stop d e → o.answer.ending ≡ e → outcome_of L file qc (xs ++ ys) ≡ o → Next L xs ys file qc o

module _ (L : ℕ) (xs ys file : List ℕ) (qc : Bool) (ok : legal L ≡ true) (size : length file ≡ 4 * L) (few : length (xs ++ ys) ≤ 4096) where
  runs : (zs : List ℕ) → length zs ≤ 4096 → run L zs (start file qc) ≡ outcome_of L file qc zs
  runs zs l = outcome-runs L file qc zs (check-passed L (length file) ok size) l

  both : length xs + length ys ≤ 4096
  both = omega (arith, length-append xs ys)

  next_of : (o : Outcome) → o ≡ run L xs (start file qc) → Onward L xs ys (start file qc) o → Next L xs ys file qc o
  next_of o e (on d c r) =
      let whole : length o.file ≡ 4 * L = ap (λ (p : Outcome). length p.file) e ∙ run-kept L xs (start file qc) size in
      let b = both in
      let zero_more : left_by o ≡ from o.answer.done (start o.file o.answer.qc) =
      ap (λ (n : ℕ). record { file = o.file; qc = o.answer.qc; done = n }) (let p : o.answer.done ≡ o.answer.done + 0 = omega arith in p) in
      on d (c ∙ (let p : 0 + length xs ≡ length xs = omega arith in p)) whole
      (sym (runs (xs ++ ys) few) ∙ r ∙ ap (run L ys) zero_more ∙ run-from L o.answer.done ys (start o.file o.answer.qc)
      ∙ ap (counted o.answer.done) (outcome-runs L o.file o.answer.qc ys (check-passed L (length o.file) ok whole) (omega arith)))
  next_of o e (stops k d r) = stops k d (sym (runs (xs ++ ys) few) ∙ r)

  pub words-next : Next L xs ys file qc (outcome_of L file qc xs)
  words-next =
      let b = both in
      let same = runs xs (omega arith) in
      rw (← same) (next_of (run L xs (start file qc)) refl (run-onward L ys xs (start file qc)))

-- a run on a whole file ends with done, or stops at a word
pub data Ended (o : Outcome) : Type 0 where
  ends-done : o.answer.ending ≡ Ending.Done → Ended o
  ends-stopped : {d : Decoded} {e : Ending} → Stop d e → o.answer.ending ≡ e → Ended o

pub outcome-ended : (L : ℕ) (file : List ℕ) (qc : Bool) (words : List ℕ) → legal L ≡ true → length file ≡ 4 * L → length words ≤ 4096 →
    Ended (outcome_of L file qc words)
outcome-ended L file qc words ok size few =
    by_next (words-next L words [] file qc ok size (rw (append-nil words) few))
  where
    by_next : {o : Outcome} → Next L words [] file qc o → Ended o
    by_next (on d c s r) = ends-done d
    by_next (stops k d r) = ends-stopped k d

-- ---- before the first word is whole

no_words : (s : List ℕ) → length s < 4 → words_of s ≡ []
unfolding words_of
no_words [] l = refl
no_words (a ∷ []) l = refl
no_words (a ∷ b ∷ []) l = refl
no_words (a ∷ b ∷ c ∷ []) l = refl
no_words (a ∷ b ∷ c ∷ d ∷ s) l = absurd (omega arith)

-- a run of no words
record Idle (f : List ℕ) (q : Bool) (o : Outcome) : Type 0 where
  file : o.file ≡ f
  qc : o.answer.qc ≡ q
  said : stop_said o.answer.ending o.answer.done ≡ Verdict.Agrees

idle : (L : ℕ) (file : List ℕ) (qc : Bool) → Idle file qc (outcome_of L file qc [])
unfolding outcome_of run
idle L file qc = by-check (check_of L (length file))
  where
    by-check : (c : Check FileRefusal) → Idle file qc (checked_run c L [] (start file qc))
    by-check (Ok passed) = record { file = refl; qc = refl; said = refl }
    by-check (Err FileRefusal.BadLength) = record { file = refl; qc = refl; said = refl }
    by-check (Err FileRefusal.NotPowerOfTwo) = record { file = refl; qc = refl; said = refl }
    by-check (Err FileRefusal.BadSize) = record { file = refl; qc = refl; said = refl }

-- one of two that are the same
pick_same : (t : Bool) (a : List ℕ) → a ≡ [] → pick_bytes t a [] ≡ []
pick_same true a e = e
pick_same false a e = refl

module _ (L W : ℕ) (b : List ℕ) (l : length b < 8 + 4 * L) where
  ran-idle : ran_in L W b ≡ outcome_of L (take (4 * L) (drop 4 b)) (flag_of (before_in b)) []
  unfolding ran_in parts_of
  ran-idle =
      let none : words_of (take (4 * W) (drop (4 + 4 * L) b)) ≡ [] = no_words _ (simp (length-take, length-drop) (omega arith)) in
      ap (outcome_of L (take (4 * L) (drop 4 b)) (flag_of (before_in b))) (pick_same (is_flag (before_in b)) _ none)

  pub file-early : (ran_in L W b).file ≡ take (4 * L) (drop 4 b)
  file-early = ap (λ (o : Outcome). o.file) ran-idle ∙ (idle L _ _).file

  pub standing-early : standing_in L W b ≡ standing_before (before_in b)
  unfolding standing_in
  standing-early =
      let o = ran_in L W b in
      let said : stop_said o.answer.ending o.answer.done ≡ Verdict.Agrees =
      ap (λ (o : Outcome). stop_said o.answer.ending o.answer.done) ran-idle ∙ (idle L (take (4 * L) (drop 4 b)) (flag_of (before_in b))).said in
      let qc : o.answer.qc ≡ flag_of (before_in b) = ap (λ (o : Outcome). o.answer.qc) ran-idle ∙ (idle L (take (4 * L) (drop 4 b)) (flag_of (before_in b))).qc in
      rw (lt-leb (8 + 4 * L + 4 * W) (length b) (omega arith), said, qc)

-- ---- before QC after is whole

abbrev pub midway : Bool → Outcome → Standing
midway t o = record { said = pick_verdict t (stop_said o.answer.ending o.answer.done) Verdict.BadFlag; qc = o.answer.qc }

pub standing-midway : (L W : ℕ) (b : List ℕ) → length b < 8 + 4 * L + 4 * W → (t : Bool) → is_flag (before_in b) ≡ t → (o : Outcome) → ran_in L W b ≡ o →
    standing_in L W b ≡ midway t o
unfolding standing_in
standing-midway L W b l t e o r = rw (lt-leb (8 + 4 * L + 4 * W) (length b) l, e, r)

-- ---- whole words more

-- QC before does not change behind its last byte
pub before-append : (b p : List ℕ) → 4 ≤ length b → before_in (b ++ p) ≡ before_in b
before-append b p l =
    let longer = length-append b p in
    rw (le-leb 4 (length b) l, le-leb 4 (length (b ++ p)) (omega arith)) (word-append b p 0 l)

module _ (L W : ℕ) (b p : List ℕ) (from-words : 4 + 4 * L ≤ length b) (room : length b + length p ≤ 4 + 4 * L + 4 * W) where
  -- the words' bytes that have come
  abbrev come : List ℕ
  come = drop (4 + 4 * L) b

  file-same : take (4 * L) (drop 4 (b ++ p)) ≡ take (4 * L) (drop 4 b)
  file-same = ap (take (4 * L)) (drop-append-le 4 b p (omega arith)) ∙ take-append-le (4 * L) (drop 4 b) p (simp length-drop (omega arith))

  words_same : take (4 * W) (drop (4 + 4 * L) (b ++ p)) ≡ come ++ p
  words_same =
      ap (take (4 * W)) (drop-append-le (4 + 4 * L) b p from-words)
      ∙ take_all (4 * W) (come ++ p) (simp (length-append, length-drop) (omega arith))

  words-here : take (4 * W) come ≡ come
  words-here = take_all (4 * W) come (simp length-drop (omega arith))

  pub file-whole : length (take (4 * L) (drop 4 b)) ≡ 4 * L
  file-whole = simp (length-take, length-drop) (omega arith)

  module _ (ok : legal L ≡ true) (few : W ≤ 4096) (whole : length b % 4 ≡ 0) where
    abbrev flag : Bool
    flag = flag_of (before_in b)

    abbrev file : List ℕ
    file = take (4 * L) (drop 4 b)

    ran-here : (t : Bool) → is_flag (before_in b) ≡ t → ran_in L W b ≡ outcome_of L file flag (pick_bytes t (words_of come) [])
    unfolding ran_in parts_of
    ran-here t e = rw (e, words-here)

    ran-there : (t : Bool) → is_flag (before_in b) ≡ t → ran_in L W (b ++ p) ≡ outcome_of L file flag (pick_bytes t (words_of come ++ words_of p) [])
    unfolding ran_in parts_of
    ran-there t e =
        let words = words_append come p (simp length-drop (omega arith)) in
        rw (before-append b p (omega arith), e, file-same, words_same, words)

    next_here : Next L (words_of come) (words_of p) file flag (outcome_of L file flag (words_of come))
    next_here =
        words-next L (words_of come) (words_of p) file flag ok file-whole
        (simp (length-append, words-length, length-drop) (omega arith))

    -- words that are executed, and words that are not
    worked-on : (o : Outcome) (done : ℕ) → o.answer.ending ≡ Ending.Done → done ≡ o.answer.done →
        record {
          standing = midway true (counted o.answer.done (outcome_of L o.file o.answer.qc (words_of p)));
          file = (outcome_of L o.file o.answer.qc (words_of p)).file;
        } ≡ worked L done (midway true o) o.file p
    worked-on o done e d = rw (e, d)

    worked-stopped : (o : Outcome) (done : ℕ) {d : Decoded} {e : Ending} → Stop d e → o.answer.ending ≡ e →
        record { standing = midway true o; file = o.file } ≡ worked L done (midway true o) o.file p
    worked-stopped o done Stop.outside e = rw e
    worked-stopped o done Stop.reserved e = rw e

    -- what the words make of the run and of what is said, by the run so far
    abbrev Moved : Outcome → Outcome → Bool → Type 0
    Moved o o' t =
        record { standing = midway t o'; file = o'.file } ≡ worked L ((length b - (4 + 4 * L)) / 4) (midway t o) o.file p

    moved-next : (o : Outcome) → Next L (words_of come) (words_of p) file flag o → Moved o (outcome_of L file flag (words_of come ++ words_of p)) true
    moved-next o (on d c size r) =
        let count : (length b - (4 + 4 * L)) / 4 ≡ o.answer.done = sym (c ∙ words-length come ∙ ap (λ (n : ℕ). n / 4) (length-drop (4 + 4 * L) b)) in
        rw r (worked-on o _ d count)
    moved-next o (stops k d r) = rw r (worked-stopped o _ k d)

    pub words-move : record { standing = standing_in L W (b ++ p); file = (ran_in L W (b ++ p)).file }
        ≡ worked L ((length b - (4 + 4 * L)) / 4) (standing_in L W b) (ran_in L W b).file p
    words-move = cases (is_flag (before_in b)) (λ e. by_flag true e (moved-next _ next_here)) (λ e. by_flag false e refl)
      where
        by_flag : (t : Bool) → is_flag (before_in b) ≡ t →
            Moved (outcome_of L file flag (pick_bytes t (words_of come) [])) (outcome_of L file flag (pick_bytes t (words_of come ++ words_of p) [])) t →
            record { standing = standing_in L W (b ++ p); file = (ran_in L W (b ++ p)).file }
            ≡ worked L ((length b - (4 + 4 * L)) / 4) (standing_in L W b) (ran_in L W b).file p
        by_flag t e m =
            let longer = length-append b p in
            let here = standing-midway L W b (omega arith) t e _ (ran-here t e) in
            let there = standing-midway L W (b ++ p) (omega arith) t (ap is_flag (before-append b p (omega arith)) ∙ e) _ (ran-there t e) in
            rw (here, there, ran-here t e, ran-there t e) m

-- ---- less than a word more

-- a body of whole numbers, and less than a number behind it
module _ (L W : ℕ) (b q : List ℕ) (whole : length b % 4 ≡ 0) (less : length q < 4) (n : NumberByte L W (length b)) where
  words-less : 4 + 4 * L ≤ length b → words_of (take (4 * W) (drop (4 + 4 * L) (b ++ q))) ≡ words_of (take (4 * W) (drop (4 + 4 * L) b))
  words-less l =
      ap (λ (s : List ℕ). words_of (take (4 * W) s)) (drop-append-le (4 + 4 * L) b q l) ∙ elim (dec_le (4 * W) (length (drop (4 + 4 * L) b))) [
        | yes all ↦ ap words_of (take-append-le (4 * W) (drop (4 + 4 * L) b) q all)
        | no some ↦
            let size = length-drop (4 + 4 * L) b in
            let longer = length-append (drop (4 + 4 * L) b) q in
            ap words_of (take_all (4 * W) (drop (4 + 4 * L) b ++ q) (omega arith)) ∙ words_append (drop (4 + 4 * L) b) q (omega arith)
            ∙ ap (λ (s : List ℕ). words_of (drop (4 + 4 * L) b) ++ s) (no_words q less) ∙ append-nil (words_of (drop (4 + 4 * L) b))
            ∙ ap words_of (sym (take_all (4 * W) (drop (4 + 4 * L) b) (omega arith)))
      ]

  ran-less : 4 ≤ length b → ran_in L W (b ++ q) ≡ ran_in L W b
  unfolding ran_in parts_of
  ran-less l =
      let from-words = n.part l in
      let file : take (4 * L) (drop 4 (b ++ q)) ≡ take (4 * L) (drop 4 b) =
      ap (take (4 * L)) (drop-append-le 4 b q l) ∙ take-append-le (4 * L) (drop 4 b) q (simp length-drop (omega arith)) in
      rw (before-append b q l, file, words-less from-words)

  -- QC before is not whole
  pub record Less : Type 0 where
    pub file : (ran_in L W (b ++ q)).file ≡ (ran_in L W b).file
    pub standing : standing_in L W (b ++ q) ≡ standing_in L W b

  pub ran-partial : Less
  ran-partial =
      let longer = length-append b q in
      elim (dec_le 4 (length b)) [
        | yes l ↦
            let same = ran-less l in
            record {
              file = ap (λ (o : Outcome). o.file) same;
              standing = cases (is_flag (before_in b))
                  (λ e. standing-midway L W (b ++ q) (omega (arith, n.most)) true (ap is_flag (before-append b q l) ∙ e) _ same ∙ sym (standing-midway L W b n.most true e _ refl))
                  (λ e. standing-midway L W (b ++ q) (omega (arith, n.most)) false (ap is_flag (before-append b q l) ∙ e) _ same ∙ sym (standing-midway L W b n.most false e _ refl));
            }
        | no l ↦
            let none : drop 4 (b ++ q) ≡ drop 4 b = drop_of_length-le (b ++ q) {i = 4} (omega arith) ∙ sym (drop_of_length-le b {i = 4} (omega arith)) in
            let before : before_in (b ++ q) ≡ before_in b = rw (lt-leb 4 (length (b ++ q)) (omega arith), lt-leb 4 (length b) (omega arith)) in
            record {
              file = file-early L W (b ++ q) (omega arith) ∙ ap (take (4 * L)) none ∙ sym (file-early L W b (omega arith));
              standing = standing-early L W (b ++ q) (omega arith) ∙ ap standing_before before ∙ sym (standing-early L W b (omega arith));
            }
      ]

-- ---- behind the words

pub ran-behind : (L W : ℕ) (b p : List ℕ) → 4 + 4 * L + 4 * W ≤ length b → ran_in L W (b ++ p) ≡ ran_in L W b
unfolding ran_in parts_of
ran-behind L W b p l =
    let file : take (4 * L) (drop 4 (b ++ p)) ≡ take (4 * L) (drop 4 b) =
    ap (take (4 * L)) (drop-append-le 4 b p (omega arith)) ∙ take-append-le (4 * L) (drop 4 b) p (simp length-drop (omega arith)) in
    let words : take (4 * W) (drop (4 + 4 * L) (b ++ p)) ≡ take (4 * W) (drop (4 + 4 * L) b) =
    ap (take (4 * W)) (drop-append-le (4 + 4 * L) b p (omega arith)) ∙ take-append-le (4 * W) (drop (4 + 4 * L) b) p (simp length-drop (omega arith)) in
    rw (before-append b p (omega arith), file, words)
