-- A number read at a place: `read-there`, `read_short`: it is there, or it is cut short. `read_number`, `read-cut`: what an answer tells. Assumes
-- nothing.
use mathlib.Core.Path.{◌≡◌, refl, sym}
use mathlib.Core.List.{List}
use mathlib.Core.Bool.{Bool, true, false, cond}
use Prim.Native.Nat.{ℕ, ◌+◌, ◌<◌, ◌≤◌}
use native.Mathlib.Omega.{arith}
use lib.Dec.{leb}
use lib.ListN.{length}
use borrow.Author.Tests.{leb-true, leb-false, le-leb, lt-leb}
use Rattle.std.proofs.lemmas.Option.{cond_some, none-some}
use Rattle.std.specs.Prelude.{Option, Some, None}
use Rattle.isa.specs.Bytes.{word_at}
use Rattle.replay.specs.Read.{number_at}

-- an answer that a test decides
pub cond_none : {A : Type 0} (b : Bool) (x : A) → cond b (Some x) None ≡ None → b ≡ false
cond_none true x e = absurd (none-some x (sym e))
cond_none false x e = refl

module _ (s : List ℕ) (at : ℕ) where
  pub read-there : at + 4 ≤ length s → Some (word_at s at) ≡ number_at s at
  unfolding number_at
  read-there l = rw (le-leb (at + 4) (length s) l)

  pub read_short : length s < at + 4 → None ≡ number_at s at
  unfolding number_at
  read_short l = rw (lt-leb (at + 4) (length s) l)

  pub read_number : (n : ℕ) → number_at s at ≡ Some n → (at + 4 ≤ length s) × (word_at s at ≡ n)
  unfolding number_at
  read_number n e = let p = cond_some (leb (at + 4) (length s)) (word_at s at) n e in (leb-true _ _ p.0, p.1)

  pub read-cut : number_at s at ≡ None → length s < at + 4
  unfolding number_at
  read-cut e = leb-false _ _ (cond_none (leb (at + 4) (length s)) (word_at s at) e)
