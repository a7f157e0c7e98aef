-- The words of a body, run as they are taken. `words-taken`: what is taken is the next words of the program. `program-..`: the run in the middle.
-- Assumes nothing.
use mathlib.Core.Path.{◌≡◌, refl, sym, ap, ◌∙◌}
use mathlib.Core.List.{List, [], ◌∷◌}
use mathlib.Core.Bool.{Bool, true}
use Prim.Native.Nat.{ℕ, ◌+◌, ◌*◌, ◌/◌, ◌<◌, ◌≤◌, min}
use Rattle.std.proofs.Math.Nat.{min-le_left, min-le_right}
use native.Mathlib.Omega.{arith}
use lib.ListN.{length, get_or, take, drop, length-take, length-drop}
use lib.Seq.{ext_get_or, get_or-take, get_or-drop}
use types.Run.{OneOf}
use denote.Enum.Declared.{tag_of}
use Rattle.isa.specs.Bytes.{word_at, words_of}
use Rattle.isa.specs.Run.{start, run, outcome_of}
use Rattle.isa.specs.declared.types.Ending.{Ending}
use Rattle.isa.specs.declared.types.Ran.{Ran}
use Rattle.isa.proofs.Bytes.{words-length, words-at}
use Rattle.isa.proofs.FileChecks.{check-passed}
use Rattle.isa.proofs.Going.{Going, going-starts, going-ends, outcome-runs}
use Rattle.isa.specs.contracts.types.Ending.{the_type}
use Rattle.regfile.specs.Sweep.{Held}
use Rattle.trace.proofs.Pieces.{piece-on, piece-stops, piece-count}
use Rattle.replay.specs.Body.{WordsFrom}

pub words-taken : (bytes words : List ℕ) (i n at : ℕ) → i + n ≤ length bytes / 4 → at ≡ i * 4 → WordsFrom bytes at n words →
    take n words ≡ take n (drop i (words_of bytes))
words-taken bytes words i n at m e taken =
    let size : length (take n words) ≡ n = simp length-take (omega (arith, taken.there)) in
    let many = words-length bytes in
    let other : length (take n (drop i (words_of bytes))) ≡ n = simp (length-take, length-drop) (omega arith) in
    ext_get_or 0 _ _ (size ∙ sym other)
    (λ k h.
    let place : at + 4 * k ≡ (i + k) * 4 = omega arith in
    get_or-take n words k 0 (omega arith) ∙ taken.each k (omega arith) ∙ ap (word_at bytes) place ∙ words-at bytes (i + k) (omega arith)
    ∙ sym (get_or-take n (drop i (words_of bytes)) k 0 (omega arith) ∙ get_or-drop i (words_of bytes) k 0))

-- at most 16 words are taken, and one at least
pub taken-some : (n left : ℕ) → n ≡ min 16 left → 0 < left → (0 < n) × (n ≤ left) × (n ≤ 16)
taken-some n left e some = (grind (arith, min-le_left, min-le_right), omega (arith, e, min-le_right 16 left), omega (arith, e, min-le_left 16 left))

module _ (L : ℕ) (file : List ℕ) (qc : Bool) (bytes : List ℕ) (held : Held L file) (short : length bytes ≤ 16384) where
  -- after `done` words
  abbrev pub Running : List ℕ → Bool → ℕ → Type 0
  Running now flag done = Going L (words_of bytes) (start file qc) (record { file = now; qc = flag; done = done }) done

  pub program-starts : Running file qc 0
  program-starts = going-starts L (words_of bytes) file qc held.sized

  whole : {r : Ran} {left : List ℕ} → record { answer = r; file = left } ≡ run L (words_of bytes) (start file qc) → record { answer = r; file = left } ≡ outcome_of L file qc (words_of bytes)
  whole e = e ∙ outcome-runs L file qc (words_of bytes) (check-passed L (length file) held.ok held.sized) (omega (arith, words-length bytes))

  pub program-ends : (now : List ℕ) (flag : Bool) (done : ℕ) → Running now flag done → length bytes / 4 ≤ done →
      record { answer = record { ending = Ending.Done; done = done; qc = flag }; file = now } ≡ outcome_of L file qc (words_of bytes)
  program-ends now flag done g l = whole (going-ends L (words_of bytes) (start file qc) (record { file = now; qc = flag; done = done }) done g (omega (arith, words-length bytes)))

  module _ (now : List ℕ) (flag : Bool) (done : ℕ) (g : Running now flag done) (n : ℕ) (words : List ℕ) (few : n ≤ 16)
      (more : done + n ≤ length bytes / 4) (at : ℕ) (place : at ≡ done * 4) (taken : WordsFrom bytes at n words) (r : Ran) (left : List ℕ)
      (ran : record { answer = r; file = left } ≡ outcome_of L now flag (take n words)) where
    here : record { answer = r; file = left } ≡ outcome_of L now flag (take n (drop done (words_of bytes)))
    here = ran ∙ ap (outcome_of L now flag) (words-taken bytes words done n at more place taken)

    pub program-count : r.done ≤ n
    program-count = piece-count L (words_of bytes) (start file qc) now flag done n g held.ok r left (omega arith) here

    pub program-stops : OneOf (1 ∷ 2 ∷ 3 ∷ 4 ∷ 5 ∷ 6 ∷ []) (tag_of the_type r.ending) →
        record { answer = record { ending = r.ending; done = done + r.done; qc = r.qc }; file = left } ≡ outcome_of L file qc (words_of bytes)
    program-stops h = whole (piece-stops L (words_of bytes) (start file qc) now flag done n g held.ok r left (omega arith) here h)

    pub program-on : r.ending ≡ Ending.Done → Running left r.qc (done + n)
    program-on e = piece-on L (words_of bytes) (start file qc) now flag done n g held.ok r left (omega arith) here e (omega (arith, words-length bytes))
