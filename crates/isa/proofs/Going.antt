-- A run in its middle. `Going`: the run from word i on, at the state reached, is the run from the start. It holds at the start (`going-starts`), goes on
-- over a word that is an operation (`going_on`), and gives the outcome at a word that ends the run (`going-stops`) and past the last (`going-ends`).
-- `outcome-of`, `outcome-long`, `outcome-runs`: the whole call by its checks. Assumes nothing.
use mathlib.Core.Path.{◌≡◌, refl, sym, ap, ◌∙◌}
use mathlib.Core.List.{List, ◌∷◌}
use mathlib.Core.Bool.{Bool}
use Prim.Native.Nat.{ℕ, ◌+◌, ◌*◌, ◌<◌, ◌≤◌}
use native.Mathlib.Omega.{arith}
use native.Mathlib.Numerals.{add-one}
use lib.ListN.{length, get_or, drop}
use lib.Seq.{drop-cons, drop-length}
use borrow.Author.Tests.{lt-ltb, le-ltb}
use Rattle.isa.specs.Decode.{decode_of}
use Rattle.isa.specs.File.{check_of}
use Rattle.isa.specs.Run.{State, start, after, ended, run, checked_run, outcome_of}
use Rattle.isa.specs.declared.types.Op.{Op}
use Rattle.isa.specs.declared.types.Decoded.{Decoded}
use Rattle.isa.specs.Check.{Check}
use Rattle.isa.specs.declared.types.FileRefusal.{FileRefusal}
use Rattle.std.specs.Prelude.{Ok}
use Rattle.isa.specs.declared.types.Ending.{Ending}
use Rattle.isa.proofs.File.{file_of-length}
use Rattle.isa.proofs.Run.{Stop, run_on, run-stop}

pub record Going (L : ℕ) (words : List ℕ) (s₀ s : State) (i : ℕ) : Type 0 where
  pub bound : i ≤ length words
  pub counted : s.done ≡ i
  pub sized : length s.file ≡ 4 * L
  pub same : run L words s₀ ≡ run L (drop i words) s

pub going-starts : (L : ℕ) (words : List ℕ) (file : List ℕ) (qc : Bool) → length file ≡ 4 * L → Going L words (start file qc) (start file qc) 0
going-starts L words file qc h = record { bound = omega arith; counted = refl; sized = h; same = refl }

-- the words from word i on are word i and those from the next on
run-from : (L : ℕ) (words : List ℕ) (i : ℕ) (s : State) → i < length words → run L (drop i words) s ≡ run L (get_or words i 0 ∷ drop (i + 1) words) s
run-from L words i s h = rw (add-one, drop-cons words i 0)

module _ (L : ℕ) (words : List ℕ) (s₀ s : State) (i : ℕ) (g : Going L words s₀ s i) where
  pub going_on : (op : Op) → i < length words → decode_of (get_or words i 0) ≡ Decoded.Operation op → Going L words s₀ (after L op s) (i + 1)
  unfolding after
  going_on op h e = record {
    bound = omega arith;
    counted = ap (λ n. n + 1) g.counted;
    sized = file_of-length L _;
    same = g.same ∙ run-from L words i s h ∙ run_on L (get_or words i 0) (drop (i + 1) words) s e;
  }

  pub going-stops : {d : Decoded} {e : Ending} → Stop d e → i < length words → decode_of (get_or words i 0) ≡ d → ended e s ≡ run L words s₀
  going-stops k h e = sym (g.same ∙ run-from L words i s h ∙ run-stop L (get_or words i 0) (drop (i + 1) words) s k e)

  pub going-ends : length words ≤ i → ended Ending.Done s ≡ run L words s₀
  unfolding run
  going-ends h =
      let e : i ≡ length words = omega (arith, g.bound) in
      sym (g.same ∙ ap (λ xs. run L xs s) (ap (λ k. drop k words) e ∙ drop-length words))

-- ---- the whole call, by what the check of the length and the size answered

module _ (L : ℕ) (file : List ℕ) (qc : Bool) (words : List ℕ) where
  pub outcome-of : (k : Check FileRefusal) → check_of L (length file) ≡ k → checked_run k L words (start file qc) ≡ outcome_of L file qc words
  unfolding outcome_of
  outcome-of k e = rw e

  pub outcome-long : check_of L (length file) ≡ (Ok tt) → 4096 < length words → ended Ending.TooLong (start file qc) ≡ outcome_of L file qc words
  outcome-long e h = rw (← outcome-of (Ok tt) e, lt-ltb 4096 (length words) h)

  pub outcome-runs : check_of L (length file) ≡ (Ok tt) → length words ≤ 4096 → run L words (start file qc) ≡ outcome_of L file qc words
  outcome-runs e h = rw (← outcome-of (Ok tt) e, le-ltb 4096 (length words) h)
