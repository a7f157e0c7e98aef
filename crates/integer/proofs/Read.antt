-- What is read of a lane that a function made of other lanes: the definition's number, since lanes that fit are read as they are.
-- Assumes nothing.
use mathlib.Core.Path.{◌≡◌, ap, ◌∙◌}
use mathlib.Core.Bool.{Bool}
use Prim.Native.Nat.{◌^◌, ◌<◌}
use lib.IntN.{ℤ, ◌*ℤ◌}
use lib.Signed.{mag}
use mir.Syntax.{Width}
use mir.Val.{hbits, to_z, of_z}
use Rattle.integer.specs.Number.{signed_by}
use Rattle.integer.proofs.Word.{kept}

-- of one lane, of a width of its own
pub read_one : (w k : Width) (f : ℤ → ℤ) {v : ℤ} (x : ℤ) → mag v < 2 ^ hbits w → mag x < 2 ^ hbits k → v ≡ f (to_z k (of_z k x)) → to_z w (of_z w v) ≡ f x
read_one w k f x h hx e = kept w _ h ∙ e ∙ ap f (kept k x hx)

-- of two lanes
pub read-two : (w : Width) (f : ℤ → ℤ → ℤ) {v : ℤ} (x y : ℤ) → mag v < 2 ^ hbits w → mag x < 2 ^ hbits w → mag y < 2 ^ hbits w → v ≡ f (to_z w (of_z w x)) (to_z w (of_z w y)) → to_z w (of_z w v) ≡ f x y
read-two w f x y h hx hy e = kept w _ h ∙ e ∙ simp (kept w x hx, kept w y hy)

module _ (w : Width) (f : ℤ → ℤ → ℤ) {v : ℤ} {minus t : Bool} where
  -- of an addend and of a lane that is added or subtracted
  pub read-sum : (x y : ℤ) → mag v < 2 ^ hbits w → mag x < 2 ^ hbits w → mag y < 2 ^ hbits w → minus ≡ t → v ≡ f (to_z w (of_z w x)) (signed_by minus (to_z w (of_z w y))) → to_z w (of_z w v) ≡ f x (signed_by t y)
  read-sum x y h hx hy m e = kept w _ h ∙ e ∙ simp (kept w x hx, kept w y hy, m)

  -- of an addend and of a product
  pub read-product : (x y z : ℤ) → mag v < 2 ^ hbits w → mag x < 2 ^ hbits w → mag y < 2 ^ hbits w → mag z < 2 ^ hbits w → minus ≡ t → v ≡ f (to_z w (of_z w x)) (signed_by minus (to_z w (of_z w y) *ℤ to_z w (of_z w z))) → to_z w (of_z w v) ≡ f x (signed_by t (y *ℤ z))
  read-product x y z h hx hy hz m e = kept w _ h ∙ e ∙ simp (kept w x hx, kept w y hy, kept w z hz, m)
