-- The sizes of a body's parts. `parts-sized`: those of a body as long as its length and word count say. `case-sized`: each body of an accepted trace is.
-- Assumes nothing.
use mathlib.Core.Path.{◌≡◌}
use mathlib.Core.List.{List}
use mathlib.Core.Bool.{true}
use Prim.Native.Nat.{ℕ, ◌*◌, ◌<◌, ◌≤◌}
use native.Mathlib.Omega.{arith}
use lib.ListN.{length, length-take, length-drop}
use Rattle.isa.specs.File.{legal}
use Rattle.isa.proofs.Bytes.{words-length}
use Rattle.trace.specs.Trace.{cases_of, length_at, count_at, body_size, body_of}
use Rattle.trace.specs.Verdict.{Body, parts_of}
use Rattle.trace.specs.Returned.{ContentsAllowed, TotalAllowed, body_at}
use Rattle.trace.proofs.Contents.{body-within}

-- what the run and the comparison of a case ask of its body
pub record Sized (L : ℕ) (b : Body) : Type 0 where
  pub ok : legal L ≡ true
  pub file : length b.file ≡ 4 * L
  pub words : length b.words ≤ 4096
  pub left : length b.left ≡ 4 * L

pub parts-sized : (L W : ℕ) (body : List ℕ) → legal L ≡ true → W ≤ 4096 → length body ≡ body_size L W → Sized L (parts_of L W body)
unfolding parts_of
parts-sized L W body ok few size = record {
  ok = ok;
  file = simp (length-take, length-drop) (omega arith);
  words = simp (words-length, length-take) (omega arith);
  left = simp length-drop (omega arith);
}

module _ (t : List ℕ) (c : ContentsAllowed t) (a : TotalAllowed t) (k : ℕ) (l : k < cases_of t) where
  pub body-length : length (body_of t k) ≡ body_size (length_at t k) (count_at t k)
  unfolding body_of
  body-length = simp (length-take, length-drop) (omega (arith, body-within t k l, (c.entries k l).start))

  pub case-sized : Sized (length_at t k) (body_at t k)
  case-sized = let e = c.entries k l in parts-sized _ _ (body_of t k) e.ok e.few body-length
