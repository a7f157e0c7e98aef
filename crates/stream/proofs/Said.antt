-- What is said of a case as QC after and the file after come. `flag-moves`: QC after. `left-moves`: bytes of the file after. `compared-append`: two files
-- compared in parts. Assumes nothing.
use mathlib.Core.Path.{◌≡◌, refl, sym, ap, ◌∙◌}
use mathlib.Core.List.{List, [], ◌∷◌, ◌++◌}
use mathlib.Core.Bool.{Bool, true, false, ◌&&◌}
use Prim.Native.Nat.{ℕ, suc, ◌+◌, ◌*◌, ◌-◌, ◌≤◌}
use native.Mathlib.Nat.{add-zero, zero-add}
use native.Mathlib.Omega.{arith}
use lib.Dec.{eqb}
use lib.ListN.{length, take, drop, length-append, length-take, length-drop, drop_of_length-le}
use lib.Seq.{drop-append_seam, drop-append-le}
use borrow.Author.Tests.{le-leb}
use Rattle.isa.specs.Bytes.{word_at, words_of}
use Rattle.isa.specs.File.{legal}
use Rattle.isa.specs.Run.{Outcome, outcome_of}
use Rattle.isa.proofs.Bytes.{words-length}
use Rattle.isa.proofs.File.{cases}
use Rattle.isa.proofs.Run.{Stop}
use Rattle.trace.specs.Trace.{body_size}
use Rattle.trace.specs.Verdict.{parts_of, is_flag, flag_of, compared, flags, besides, pick_verdict, verdict_of}
use Rattle.trace.specs.declared.types.Verdict.{Verdict}
use Rattle.trace.proofs.Prefix.{word-append, word-drop}
use Rattle.stream.specs.Body.{pick_bytes, before_in, ran_in, standing_in}
use Rattle.stream.specs.Steps.{pick_open, pick_agrees, standing_after, standing_beside}
use Rattle.stream.specs.declared.state.Standing.{Standing}
use Rattle.stream.proofs.Ran.{Ended, ends-done, ends-stopped, outcome-ended, before-append, midway, standing-midway, ran-behind}

-- ---- two files in parts

-- the bytes behind those that are compared are not looked at
compared-take : (v : Verdict) (i : ℕ) (xs zs : List ℕ) → compared i xs zs v ≡ compared i (take (length zs) xs) zs v
unfolding compared
compared-take v i [] [] = refl
compared-take v i [] (z ∷ zs) = refl
compared-take v i (x ∷ xs) [] = refl
compared-take v i (x ∷ xs) (z ∷ zs) = rw (compared-take v (suc i) xs zs)

compared-none : (v : Verdict) (i : ℕ) (xs : List ℕ) → compared i xs [] v ≡ v
unfolding compared
compared-none v i [] = refl
compared-none v i (x ∷ xs) = refl

-- v is what is said where the files agree, so that the comparison is open
module _ (v : Verdict) (open-so : (a b : Verdict) → pick_open v a b ≡ a) where
  abbrev Onwards : ℕ → List ℕ → List ℕ → List ℕ → Verdict → Type 0
  Onwards i xs ys zs u = compared i xs (ys ++ zs) v ≡ pick_open u (compared (i + length ys) (take (length zs) (drop (length ys) xs)) zs u) u

  pub compared-append : (i : ℕ) (xs ys zs : List ℕ) → length ys + length zs ≤ length xs → Onwards i xs ys zs (compared i xs ys v)
  unfolding compared
  compared-append i xs [] zs l =
      rw (compared-none v i xs) (compared-take v i xs zs ∙ sym (open-so _ v ∙ ap (λ (n : ℕ). compared n (take (length zs) xs) zs v) (add-zero i)))
  compared-append i [] (y ∷ ys) zs l = absurd (omega arith)
  compared-append i (x ∷ xs) (y ∷ ys) zs l = cases (eqb x y) (λ e. rw e (next (compared-append (suc i) xs ys zs (omega arith)))) (λ e. rw e)
    where
      next : Onwards (suc i) xs ys zs (compared (suc i) xs ys v) →
          compared (suc i) xs (ys ++ zs) v
          ≡ pick_open (compared (suc i) xs ys v) (compared (i + suc (length ys)) (take (length zs) (drop (length ys) xs)) zs (compared (suc i) xs ys v)) (compared (suc i) xs ys v)
      next ih =
          let place : suc i + length ys ≡ i + suc (length ys) = omega arith in
          ih ∙ ap (λ (n : ℕ). pick_open (compared (suc i) xs ys v) (compared n (take (length zs) (drop (length ys) xs)) zs (compared (suc i) xs ys v)) (compared (suc i) xs ys v)) place

-- what is said where the file agrees
flags-open : (q r : Bool) (a b : Verdict) → pick_open (flags q r) a b ≡ a
flags-open true true a b = refl
flags-open true false a b = refl
flags-open false true a b = refl
flags-open false false a b = refl

-- ---- the verdict, by the run

abbrev judged_by : Bool → ℕ → Outcome → List ℕ → Verdict
judged_by t after o left = pick_verdict (t && is_flag after) (besides o (flag_of after) left) Verdict.BadFlag

module _ (L W : ℕ) (b : List ℕ) (ok : legal L ≡ true) (few : W ≤ 4096) (l : 8 + 4 * L + 4 * W ≤ length b) where
  abbrev words : List ℕ
  words = words_of (take (4 * W) (drop (4 + 4 * L) b))

  abbrev file : List ℕ
  file = take (4 * L) (drop 4 b)

  before-whole : before_in b ≡ word_at b 0
  before-whole = rw (le-leb 4 (length b) (omega arith))

  abbrev after : ℕ
  after = word_at b (4 + 4 * L + 4 * W)

  abbrev left : List ℕ
  left = drop (8 + 4 * L + 4 * W) b

  ran-words : is_flag (before_in b) ≡ true → ran_in L W b ≡ outcome_of L file (flag_of (before_in b)) words
  unfolding ran_in parts_of
  ran-words e = ap (λ (t : Bool). outcome_of L file (flag_of (before_in b)) (pick_bytes t words [])) e

  verdict-words : verdict_of L W b ≡ judged_by (is_flag (before_in b)) after (outcome_of L file (flag_of (before_in b)) words) left
  unfolding verdict_of parts_of
  verdict-words = ap (λ (n : ℕ). judged_by (is_flag n) after (outcome_of L file (flag_of n) words) left) (sym before-whole)

  verdict-ran : (t : Bool) → is_flag (before_in b) ≡ t → verdict_of L W b ≡ judged_by t after (ran_in L W b) left
  verdict-ran true e =
      verdict-words ∙ ap (λ (t : Bool). judged_by t after (outcome_of L file (flag_of (before_in b)) words) left) e
      ∙ ap (λ (o : Outcome). judged_by true after o left) (sym (ran-words e))
  verdict-ran false e = verdict-words ∙ ap (λ (t : Bool). judged_by t after (outcome_of L file (flag_of (before_in b)) words) left) e

  -- where QC before is 0 or 1 the run is that of the words, on a whole file
  ran-ended : is_flag (before_in b) ≡ true → Ended (ran_in L W b)
  ran-ended e =
      rw (ran-words e)
      (outcome-ended L file (flag_of (before_in b)) words ok (simp (length-take, length-drop) (omega arith)) (simp (words-length, length-take, length-drop) (omega arith)))

  standing-late : (t : Bool) → is_flag (before_in b) ≡ t →
      standing_in L W b ≡ record { said = judged_by t after (ran_in L W b) left; qc = (ran_in L W b).answer.qc }
  unfolding standing_in
  standing-late t e = rw (le-leb (8 + 4 * L + 4 * W) (length b) l, verdict-ran t e)

-- ---- QC after

module _ (t : Bool) (n : ℕ) (o : Outcome) (ends : t ≡ true → Ended o) where
  -- no byte of the file after has come
  flag-said : judged_by t n o [] ≡ (standing_after (midway t o) n).said
  flag-said = by_flag t (is_flag n) ends
    where
      by-ending : Ended o → besides o (flag_of n) [] ≡ pick_agrees (midway true o).said (flags o.answer.qc (flag_of n)) (midway true o).said
      by-ending (ends-done e) = rw e (compared-none _ 0 o.file)
      by-ending (ends-stopped Stop.outside e) = rw e
      by-ending (ends-stopped Stop.reserved e) = rw e

      by_flag : (t s : Bool) → (t ≡ true → Ended o) →
          pick_verdict (t && s) (besides o (flag_of n) []) Verdict.BadFlag
          ≡ pick_verdict s (pick_agrees (midway t o).said (flags o.answer.qc (flag_of n)) (midway t o).said) Verdict.BadFlag
      by_flag true true ended = by-ending (ended refl)
      by_flag true false ended = refl
      by_flag false true ended = refl
      by_flag false false ended = refl

module _ (L W : ℕ) (b p : List ℕ) (ok : legal L ≡ true) (few : W ≤ 4096) (here : length b ≡ 4 + 4 * L + 4 * W) (size : length p ≡ 4) where
  pub flag-moves : standing_in L W (b ++ p) ≡ standing_after (standing_in L W b) (word_at p 0)
  flag-moves = cases (is_flag (before_in b)) (by_flag true) (by_flag false)
    where
      by_flag : (t : Bool) → is_flag (before_in b) ≡ t → standing_in L W (b ++ p) ≡ standing_after (standing_in L W b) (word_at p 0)
      by_flag t e =
          let longer = length-append b p in
          let all : 8 + 4 * L + 4 * W ≤ length (b ++ p) = omega arith in
          let e' = ap is_flag (before-append b p (omega arith)) ∙ e in
          let ran = ran-behind L W b p (omega arith) in
          let number : word_at (b ++ p) (4 + 4 * L + 4 * W) ≡ word_at p 0 = word-drop (b ++ p) (length b) 0 (4 + 4 * L + 4 * W) (omega arith) ∙ ap (λ (s : List ℕ). word_at s 0) (drop-append_seam b p) in
          let none : drop (8 + 4 * L + 4 * W) (b ++ p) ≡ [] = drop_of_length-le (b ++ p) {i = 8 + 4 * L + 4 * W} (omega arith) in
          let early = standing-midway L W b (omega arith) t e _ refl in
          standing-late L W (b ++ p) ok few all t e'
          ∙ (λ i. record { said = judged_by t (number i) (ran i) (none i); qc = (ran i).answer.qc })
          ∙ ap (λ (v : Verdict). record { said = v; qc = (ran_in L W b).answer.qc })
          (flag-said t (word_at p 0) (ran_in L W b) (λ y. rw ran at (ran-ended L W (b ++ p) ok few all (e' ∙ y))))
          ∙ ap (λ (s : Standing). standing_after s (word_at p 0)) (sym early)

-- ---- the file after

module _ (t : Bool) (n : ℕ) (o : Outcome) (ends : t ≡ true → Ended o) (left p : List ℕ) (room : length left + length p ≤ length o.file) where
  -- what is said by the bytes that have come
  abbrev so_far : Bool → Bool → Verdict
  so_far t s = pick_verdict (t && s) (besides o (flag_of n) left) Verdict.BadFlag

  abbrev more : Verdict → Verdict
  more v = pick_open v (compared (length left) (take (length p) (drop (length left) o.file)) p v) v

  left-said : judged_by t n o (left ++ p) ≡ more (judged_by t n o left)
  left-said = by_flag t (is_flag n) ends
    where
      by-ending : Ended o → besides o (flag_of n) (left ++ p) ≡ more (besides o (flag_of n) left)
      by-ending (ends-done e) = rw e (compared-append (flags o.answer.qc (flag_of n)) (flags-open o.answer.qc (flag_of n)) 0 o.file left p room ∙ ap from_place (zero-add (length left)))
        where
          from_place : ℕ → Verdict
          from_place i =
              let v : Verdict = compared 0 o.file left (flags o.answer.qc (flag_of n)) in
              pick_open v (compared i (take (length p) (drop (length left) o.file)) p v) v
      by-ending (ends-stopped Stop.outside e) = rw e
      by-ending (ends-stopped Stop.reserved e) = rw e

      by_flag : (t s : Bool) → (t ≡ true → Ended o) → pick_verdict (t && s) (besides o (flag_of n) (left ++ p)) Verdict.BadFlag ≡ more (so_far t s)
      by_flag true true ended = by-ending (ended refl)
      by_flag true false ended = refl
      by_flag false true ended = refl
      by_flag false false ended = refl

module _ (L W : ℕ) (b p : List ℕ) (ok : legal L ≡ true) (few : W ≤ 4096) (here : 8 + 4 * L + 4 * W ≤ length b) (room : length b + length p ≤ body_size L W)
    (whole : length (ran_in L W b).file ≡ 4 * L) where
  -- the bytes that the run left beside those that come
  abbrev beside : List ℕ
  beside = take (length p) (drop (length b - (8 + 4 * L + 4 * W)) (ran_in L W b).file)

  pub left-moves : standing_in L W (b ++ p) ≡ standing_beside (standing_in L W b) (length b - (8 + 4 * L + 4 * W)) beside p
  left-moves = cases (is_flag (before_in b)) (by_flag true) (by_flag false)
    where
      by_flag : (t : Bool) → is_flag (before_in b) ≡ t →
          standing_in L W (b ++ p) ≡ standing_beside (standing_in L W b) (length b - (8 + 4 * L + 4 * W)) beside p
      by_flag t e =
          let longer = length-append b p in
          let all : 8 + 4 * L + 4 * W ≤ length (b ++ p) = omega arith in
          let e' = ap is_flag (before-append b p (omega arith)) ∙ e in
          let ran = ran-behind L W b p (omega arith) in
          let number : word_at (b ++ p) (4 + 4 * L + 4 * W) ≡ word_at b (4 + 4 * L + 4 * W) = word-append b p (4 + 4 * L + 4 * W) (omega arith) in
          let left : List ℕ = drop (8 + 4 * L + 4 * W) b in
          let size : length left ≡ length b - (8 + 4 * L + 4 * W) = length-drop (8 + 4 * L + 4 * W) b in
          let come : drop (8 + 4 * L + 4 * W) (b ++ p) ≡ left ++ p = drop-append-le (8 + 4 * L + 4 * W) b p here in
          let late = standing-late L W b ok few here t e in
          standing-late L W (b ++ p) ok few all t e'
          ∙ (λ i. record { said = judged_by t (number i) (ran i) (come i); qc = (ran i).answer.qc })
          ∙ ap (λ (v : Verdict). record { said = v; qc = (ran_in L W b).answer.qc })
          (left-said t (word_at b (4 + 4 * L + 4 * W)) (ran_in L W b) (λ y. ran-ended L W b ok few here (e ∙ y)) left p (omega arith))
          ∙ ap (λ (n : ℕ). standing_beside (record { said = judged_by t (word_at b (4 + 4 * L + 4 * W)) (ran_in L W b) left; qc = (ran_in L W b).answer.qc }) n (take (length p) (drop n (ran_in L W b).file)) p) size
          ∙ ap (λ (s : Standing). standing_beside s (length b - (8 + 4 * L + 4 * W)) beside p) (sym late)
