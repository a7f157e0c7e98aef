-- The whole call by its checks, in their order. `refused-length`, `refused-power`, `refused-size`, `refused-program`: 1, 11, 2 and 3 leave the file and
-- the flag as they were, with 0 words. `run-otherwise`: with none of the four it is the run. Assumes nothing.
use mathlib.Core.Path.{◌≡◌}
use Prim.Native.Nat.{ℕ, ◌*◌, ◌<◌, ◌≤◌}
use mathlib.Core.Bool.{Bool, true, false}
use mathlib.Core.List.{List}
use lib.ListN.{length}
use borrow.Author.Tests.{lt-ltb, le-ltb, eq-eqb, ne_eqb}
use Rattle.isa.specs.declared.types.Ending.{Ending}
use Rattle.isa.specs.File.{legal, multiple, check_of}
use Rattle.isa.specs.Run.{start, ended, run, outcome_of}
use Rattle.isa.proofs.File.{legal-multiple}

module _ (L : ℕ) (file : List ℕ) (qc : Bool) (words : List ℕ) where
  pub refused-length : multiple L ≡ false → outcome_of L file qc words ≡ ended Ending.BadLength (start file qc)
  unfolding outcome_of check_of
  refused-length m = rw m

  pub refused-power : multiple L ≡ true → legal L ≡ false → outcome_of L file qc words ≡ ended Ending.NotPowerOfTwo (start file qc)
  unfolding outcome_of check_of
  refused-power m e = rw (m, e)

  pub refused-size : legal L ≡ true → (length file ≡ 4 * L → ⊥) → outcome_of L file qc words ≡ ended Ending.BadSize (start file qc)
  unfolding outcome_of check_of
  refused-size e h = rw (legal-multiple L e, e, ne_eqb (length file) (4 * L) h)

  pub refused-program : legal L ≡ true → length file ≡ 4 * L → 4096 < length words → outcome_of L file qc words ≡ ended Ending.TooLong (start file qc)
  unfolding outcome_of check_of
  refused-program e size h = rw (legal-multiple L e, e, eq-eqb (length file) (4 * L) size, lt-ltb 4096 (length words) h)

  pub run-otherwise : legal L ≡ true → length file ≡ 4 * L → length words ≤ 4096 → outcome_of L file qc words ≡ run L words (start file qc)
  unfolding outcome_of check_of
  run-otherwise e size h = rw (legal-multiple L e, e, eq-eqb (length file) (4 * L) size, le-ltb 4096 (length words) h)
