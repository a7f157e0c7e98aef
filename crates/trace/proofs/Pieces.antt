-- A run in pieces: words of the program are run as they are taken, each piece as a run of its own from the file and flag that the piece before left.
-- `piece-on`: a piece that ends with done goes on. `piece-stops`: one that stops has stopped the whole run. Assumes nothing.
use mathlib.Core.Path.{◌≡◌, refl, sym, ap, ◌∙◌}
use mathlib.Core.List.{List, [], ◌∷◌, ◌++◌}
use mathlib.Core.Bool.{Bool, true}
use Prim.Native.Nat.{ℕ, ◌+◌, ◌*◌, ◌≤◌}
use native.Mathlib.Omega.{arith}
use native.Mathlib.Nat.{add-zero}
use lib.ListN.{length, take, drop, length-take, length-drop, take-append-drop}
use lib.Seq.{drop-drop}
use types.Run.{OneOf, miss}
use denote.Enum.Declared.{tag_of}
use Rattle.isa.specs.Decode.{decode_of}
use Rattle.isa.specs.File.{legal, byte_at, file_of}
use Rattle.isa.specs.Meaning.{step, flag_after}
use Rattle.isa.specs.Run.{State, start, after, Outcome, next, run, outcome_of}
use Rattle.isa.specs.declared.types.Op.{Op}
use Rattle.isa.specs.declared.types.Decoded.{Decoded}
use Rattle.isa.specs.declared.types.Ending.{Ending}
use Rattle.isa.specs.declared.types.Ran.{Ran}
use Rattle.isa.specs.contracts.types.Ending.{the_type}
use Rattle.isa.proofs.File.{file_of-length}
use Rattle.isa.proofs.FileChecks.{check-passed}
use Rattle.isa.proofs.Going.{Going, outcome-runs}
use Rattle.isa.proofs.Run.{run-count, run-elim}

-- what comes of the words behind a piece
abbrev pub onward : Ending → Outcome → (State → Outcome) → Outcome
onward Ending.Done o more = more (record { file = o.file; qc = o.answer.qc; done = o.answer.done })
onward Ending.BadLength o more = o
onward Ending.NotPowerOfTwo o more = o
onward Ending.BadSize o more = o
onward Ending.TooLong o more = o
onward Ending.Outside o more = o
onward Ending.Reserved o more = o

abbrev pub further : Outcome → (State → Outcome) → Outcome
further o more = onward o.answer.ending o more

-- n words were done before
abbrev pub counted : ℕ → Outcome → Outcome
counted n o = record { answer = record { ending = o.answer.ending; done = n + o.answer.done; qc = o.answer.qc }; file = o.file }

abbrev pub from : ℕ → State → State
from n s = record { file = s.file; qc = s.qc; done = n + s.done }

module _ (L : ℕ) where
  -- ---- the words of two parts

  append-by : (w : ℕ) (xs ys : List ℕ) (s : State) → ((op : Op) → run L (xs ++ ys) (after L op s) ≡ further (run L xs (after L op s)) (run L ys)) →
      (d : Decoded) → next d s (λ op. run L (xs ++ ys) (after L op s)) ≡ further (next d s (λ op. run L xs (after L op s))) (run L ys)
  append-by w xs ys s rest (Decoded.Operation op) = rest op
  append-by w xs ys s rest Decoded.Reserved = refl
  append-by w xs ys s rest Decoded.Outside = refl

  pub run-append : (xs ys : List ℕ) (s : State) → run L (xs ++ ys) s ≡ further (run L xs s) (run L ys)
  unfolding run
  run-append [] ys s = refl
  run-append (w ∷ xs) ys s = append-by w xs ys s (λ op. run-append xs ys (after L op s)) (decode_of w)

  -- ---- words that were done before

  counted-by : (n w : ℕ) (xs : List ℕ) (s : State) → ((op : Op) → run L xs (after L op (from n s)) ≡ counted n (run L xs (after L op s))) →
      (d : Decoded) → next d (from n s) (λ op. run L xs (after L op (from n s))) ≡ counted n (next d s (λ op. run L xs (after L op s)))
  counted-by n w xs s rest (Decoded.Operation op) = rest op
  counted-by n w xs s rest Decoded.Reserved = refl
  counted-by n w xs s rest Decoded.Outside = refl

  after-from : (n : ℕ) (op : Op) (s : State) → after L op (from n s) ≡ from n (after L op s)
  unfolding after
  after-from n op s = ap (λ (k : ℕ). record { file = file_of L (step op (byte_at L s.file)); qc = flag_after op (byte_at L s.file) s.qc; done = k }) (let e : n + s.done + 1 ≡ n + (s.done + 1) = omega arith in e)

  pub run-from : (n : ℕ) (xs : List ℕ) (s : State) → run L xs (from n s) ≡ counted n (run L xs s)
  unfolding run
  run-from n [] s = refl
  run-from n (w ∷ xs) s = counted-by n w xs s (λ op. ap (run L xs) (after-from n op s) ∙ run-from n xs (after L op s)) (decode_of w)

-- a run leaves a file of the same size
pub run-kept : (L : ℕ) (words : List ℕ) (s : State) → length s.file ≡ 4 * L → length (run L words s).file ≡ 4 * L
unfolding after
run-kept L = run-elim L (λ words s o. length s.file ≡ 4 * L → length o.file ≡ 4 * L) (λ s e. e) (λ w words s d e k h f. f) (λ w words s op h ih f. ih (file_of-length L _))

-- ---- a piece of n words, in the middle of a run

stays : (o : Outcome) (more : State → Outcome) (e : Ending) → OneOf (1 ∷ 2 ∷ 3 ∷ 4 ∷ 5 ∷ 6 ∷ []) (tag_of the_type e) → onward e o more ≡ o
stays o more Ending.Done h = absurd (miss (1 ∷ 2 ∷ 3 ∷ 4 ∷ 5 ∷ 6 ∷ []) 0 tt h)
stays o more Ending.BadLength h = refl
stays o more Ending.NotPowerOfTwo h = refl
stays o more Ending.BadSize h = refl
stays o more Ending.TooLong h = refl
stays o more Ending.Outside h = refl
stays o more Ending.Reserved h = refl

module _ (L : ℕ) (words : List ℕ) (s₀ : State) (file : List ℕ) (qc : Bool) (i n : ℕ) (g : Going L words s₀ (record { file = file; qc = qc; done = i }) i)
    (ok : legal L ≡ true) (r : Ran) (left : List ℕ) (few : n ≤ 4096)
    (here : record { answer = r; file = left } ≡ outcome_of L file qc (take n (drop i words))) where
  abbrev piece : List ℕ
  piece = take n (drop i words)

  -- the piece's run, by itself
  alone : record { answer = r; file = left } ≡ run L piece (start file qc)
  alone =
      let short : length piece ≤ 4096 = simp length-take (omega arith) in
      here ∙ sym (outcome-runs L file qc piece (check-passed L (length file) ok g.sized) short)

  pub piece-count : r.done ≤ n
  piece-count =
      let few = (run-count L piece file qc).0 in
      let same = ap (λ (o : Outcome). o.answer.done) alone in
      let size : length piece ≤ n = simp length-take (omega arith) in
      omega arith

  -- the rest of the run is the piece's, and what comes behind it
  behind : run L words s₀ ≡ further (counted i (record { answer = r; file = left })) (run L (drop (i + n) words))
  behind =
      let split : drop i words ≡ piece ++ drop (i + n) words = sym (take-append-drop n (drop i words)) ∙ ap (λ xs. piece ++ xs) (drop-drop n i words) in
      let state : record { file = file; qc = qc; done = i } ≡ from i (start file qc) = ap (λ (k : ℕ). record { file = file; qc = qc; done = k }) (sym (add-zero i)) in
      g.same ∙ ap (λ xs. run L xs (record { file = file; qc = qc; done = i })) split ∙ run-append L piece (drop (i + n) words) (record { file = file; qc = qc; done = i })
      ∙ ap (λ s. further (run L piece s) (run L (drop (i + n) words))) state
      ∙ ap (λ o. further o (run L (drop (i + n) words))) (run-from L i piece (start file qc) ∙ ap (counted i) (sym alone))

  pub piece-stops : OneOf (1 ∷ 2 ∷ 3 ∷ 4 ∷ 5 ∷ 6 ∷ []) (tag_of the_type r.ending) →
      record { answer = record { ending = r.ending; done = i + r.done; qc = r.qc }; file = left } ≡ run L words s₀
  piece-stops h = sym (behind ∙ stays _ _ r.ending h)

  run-size : length left ≡ 4 * L
  run-size = ap (λ (o : Outcome). length o.file) alone ∙ run-kept L piece (start file qc) g.sized

  pub piece-on : r.ending ≡ Ending.Done → i + n ≤ length words → Going L words s₀ (record { file = left; qc = r.qc; done = i + n }) (i + n)
  piece-on e l =
      let size : length piece ≡ n = simp (length-take, length-drop) (omega arith) in
      let count : (run L piece (start file qc)).answer.done ≡ length piece = (run-count L piece file qc).1.0 (sym (ap (λ (o : Outcome). o.answer.ending) alone) ∙ e) in
      let all : r.done ≡ n = ap (λ (o : Outcome). o.answer.done) alone ∙ count ∙ size in
      let goes : further (counted i (record { answer = r; file = left })) (run L (drop (i + n) words)) ≡ run L (drop (i + n) words) (record { file = left; qc = r.qc; done = i + r.done }) =
      ap (λ d. onward d (counted i (record { answer = r; file = left })) (run L (drop (i + n) words))) e in
      record {
        bound = l;
        counted = refl;
        sized = run-size;
        same = behind ∙ goes ∙ ap (λ (k : ℕ). run L (drop (i + n) words) (record { file = left; qc = r.qc; done = i + k })) all;
      }
