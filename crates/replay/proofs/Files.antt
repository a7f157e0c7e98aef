-- Two files beside each other, and a file copied. Assumes nothing.
use mathlib.Core.Path.{◌≡◌, sym, ap, subst, ◌∙◌}
use mathlib.Core.List.{List}
use mathlib.Core.Bool.{Bool, true, ◌&&◌}
use Prim.Native.Nat.{ℕ, ◌+◌, ◌-◌, ◌<◌, ◌≤◌}
use native.Mathlib.Omega.{arith}
use native.Mathlib.Nat.{zero-add}
use lib.Dec.{ltb, eqb}
use lib.ListN.{length, get_or}
use lib.Seq.{ext_get_or}
use borrow.Author.Tests.{ltb-true, ltb-false, eqb-true, eqb-false}
use Rattle.isa.proofs.Fields.{and_left, and_right}
use Rattle.isa.proofs.File.{cases}
use Rattle.isa.proofs.Made.{Made}
use Rattle.trace.specs.Verdict.{compared}
use Rattle.trace.specs.declared.types.Verdict.{Verdict}
use Rattle.trace.proofs.Compared.{compared_same, compared-differs}
use Rattle.replay.specs.Body.{Alike, AlikeFrom, Differing}

pub copied : (file image : List ℕ) (n : ℕ) → Made 0 (length file) n (λ k. get_or file k 0) image → length file ≤ n → image ≡ file
copied file image n m l = ext_get_or 0 image file m.sized (λ i h. m.at i (omega (arith, m.sized, m.within)))

module _ (xs ys : List ℕ) where
  pub alike-more : (n count : ℕ) → Alike xs ys n → AlikeFrom xs ys n count → Alike xs ys (n + count)
  alike-more n count a b i h =
      cases (ltb i n) (λ e. a i (ltb-true i n e))
      (λ e.
      let past = ltb-false i n e in
      let same : n + (i - n) ≡ i = omega arith in
      subst (λ (k : ℕ). get_or xs k 0 ≡ get_or ys k 0) same (b (i - n) (omega arith)))

  pub alike-one : (n : ℕ) → Alike xs ys n → get_or xs n 0 ≡ get_or ys n 0 → Alike xs ys (n + 1)
  alike-one n a here = alike-more n 1 a (λ i h. let first : n ≡ n + i = omega arith in subst (λ (k : ℕ). get_or xs k 0 ≡ get_or ys k 0) first here)

  module _ (v : Verdict) (size : length ys ≡ length xs) (n : ℕ) (d : Differing xs ys n) where
    pub differs-compared : n < length xs → Verdict.FileDiffers n (get_or xs n 0) ≡ compared 0 xs ys v
    differs-compared l = sym (compared-differs v xs ys 0 n size l d.alike (d.here l) ∙ ap (λ (k : ℕ). Verdict.FileDiffers k (get_or xs n 0)) (zero-add n))

    pub same-compared : length xs ≤ n → v ≡ compared 0 xs ys v
    same-compared l = sym (compared_same v xs ys 0 size (λ i h. d.alike i (omega arith)))

-- ---- a block, by a test that is made of every byte

module _ (xs ys : List ℕ) (at : ℕ) where
  pub block_more : (n : ℕ) (same : Bool) → (same ≡ true → AlikeFrom xs ys at n) → (same && eqb (get_or xs (at + n) 0) (get_or ys (at + n) 0)) ≡ true → AlikeFrom xs ys at (n + 1)
  block_more n same f e i h =
      cases (eqb i n)
      (λ last. subst (λ (k : ℕ). get_or xs (at + k) 0 ≡ get_or ys (at + k) 0) (sym (eqb-true i n last)) (eqb-true _ _ (and_right same (eqb (get_or xs (at + n) 0) (get_or ys (at + n) 0)) e)))
      (λ other.
      let ne = eqb-false i n other in
      f (and_left same (eqb (get_or xs (at + n) 0) (get_or ys (at + n) 0)) e) i (omega (arith, ne)))
