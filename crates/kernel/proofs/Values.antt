-- Lists of lanes, read by the values of the lanes.
-- Assumes nothing.
use mathlib.Core.Path.{◌≡◌, refl, sym, ap, ◌∙◌, subst}
use mathlib.Core.Bool.{Bool}
use mathlib.Core.List.{List, [], ◌∷◌}
use Prim.Native.Nat.{ℕ, zero, suc, ◌+◌, ◌≤◌, ◌<◌}
use native.Mathlib.Omega.{arith}
use lib.ListN.{get_or, set, length, replicate}
use lib.IntN.{ℤ, pos, ◌*ℤ◌}
use Rattle.std.specs.Prelude.{map}
use Rattle.integer.specs.Number.{signed_by}
use Rattle.isa.specs.declared.types.Size.{Size}
use Rattle.isa.specs.declared.types.Size.TheVariants.{B, H, S, D}
use Rattle.isa.specs.Register.{pairs}
use Rattle.isa.specs.Stage.{lane}
use Rattle.isa.proofs.Made.{Made, made_none, made_more}

pub some-pairs : (z : Size) → 0 < pairs z
unfolding pairs
some-pairs B = omega arith
some-pairs H = omega arith
some-pairs S = omega arith
some-pairs D = omega arith

pub few-pairs : (z : Size) → pairs z ≤ 8
unfolding pairs
few-pairs B = omega arith
few-pairs H = omega arith
few-pairs S = omega arith
few-pairs D = omega arith

module _ {A : Type 0} (value : A → ℤ) where
  -- the value at a place that the list has
  pub value-at : (s : List A) (i : ℕ) (d : A) → i < length s → value (get_or s i d) ≡ lane (map value s) i
  value-at [] i d h = absurd (omega (arith, h))
  value-at (a ∷ s) zero d h = refl
  value-at (a ∷ s) (suc i) d h = value-at s i d (omega (arith, h))

  pub length-values : (s : List A) → length (map value s) ≡ length s
  length-values [] = refl
  length-values (a ∷ s) = ap suc (length-values s)

  pub values-set : (s : List A) (i : ℕ) (v : A) → map value (set s i v) ≡ set (map value s) i (value v)
  values-set [] i v = refl
  values-set (a ∷ s) zero v = refl
  values-set (a ∷ s) (suc i) v = ap (λ (t : List ℤ). value a ∷ t) (values-set s i v)

  pub values-replicate : (n : ℕ) (v : A) → map value (replicate n v) ≡ replicate n (value v)
  values-replicate zero v = refl
  values-replicate (suc n) v = ap (λ (t : List ℤ). value v ∷ t) (values-replicate n v)

  -- ---- a loop that stores lanes from the front on

  pub begin : {size : ℕ} {f : ℕ → ℤ} (r : List A) → length r ≡ size → Made (pos 0) size 0 f (map value r)
  begin r e = made_none (length-values r ∙ e)

  pub store : {size n : ℕ} {f : ℕ → ℤ} (r : List A) → Made (pos 0) size n f (map value r) → n < size → (v : A) → value v ≡ f n → Made (pos 0) size (n + 1) f (map value (set r n v))
  store {size} {n} {f} r m l v e = subst (Made (pos 0) size (n + 1) f) (sym (values-set r n v)) (made_more m l (value v) e)

  -- a lane taken from a place of s
  pub taken : (s : List A) {v : A} (d : A) (i j : ℕ) → v ≡ get_or s i d → i < length s → i ≡ j → value v ≡ lane (map value s) j
  taken s d i j e h p = ap value e ∙ value-at s i d h ∙ ap (lane (map value s)) p

-- ---- what is worked out of lanes that were read

module _ (f : ℤ → ℤ → ℤ) {v a b : ℤ} {m t : Bool} where
  pub of_sum : {i j : ℤ} → v ≡ f a (signed_by m b) → a ≡ i → m ≡ t → b ≡ j → v ≡ f i (signed_by t j)
  of_sum p pa pm pb = p ∙ simp (pa, pm, pb)

  pub of_product : {c i j k : ℤ} → v ≡ f c (signed_by m (a *ℤ b)) → c ≡ i → m ≡ t → a ≡ j → b ≡ k → v ≡ f i (signed_by t (j *ℤ k))
  of_product p pc pm pa pb = p ∙ simp (pc, pm, pa, pb)
