-- A number x of a width w brought into a narrower width n: the tests of a clamp on what is read of x, and what each arm gives.
-- Assumes nothing.
use mathlib.Core.Path.{◌≡◌, refl, sym, ap, ◌∙◌}
use mathlib.Core.Bool.{Bool, true, false, cond}
use Prim.Native.Nat.{ℕ, ◌-◌, ◌^◌, ◌<◌}
use lib.IntN.{ℤ, pos, neg_ℤ}
use lib.Signed.{lt_z, mag}
use mir.Syntax.{Width}
use mir.Val.{bits, hbits, SFits, to_z, of_z}
use mir.Facts.{to_z-of_z}
use Rattle.integer.specs.Number.{clamp_to, clamp, clamps, end_to, changed, pick_end, raised, cut_down, neither}
use Rattle.integer.proofs.Word.{kept}
use Rattle.integer.proofs.Round.{between}
use Rattle.integer.proofs.Bits.{half}

flag : (t : Bool) → t ≡ changed (pick_end t cut_down neither)
flag true = refl
flag false = refl

module _ (n : Width) {w : Width} {x : ℤ} (f : SFits w x) where
  clamp-is : clamp_to (neg_ℤ (pos (2 ^ hbits n))) (pos (2 ^ hbits n - 1)) x ≡ clamp (bits n) x
  clamp-is = ap (λ (P : ℕ). clamp_to (neg_ℤ (pos P)) (pos (P - 1)) x) (sym (half n))

  end_is : changed (end_to (neg_ℤ (pos (2 ^ hbits n))) (pos (2 ^ hbits n - 1)) x) ≡ clamps (bits n) x
  end_is = ap (λ (P : ℕ). changed (end_to (neg_ℤ (pos P)) (pos (P - 1)) x)) (sym (half n))

  module _ (t : lt_z (to_z w (of_z w x)) (neg_ℤ (pos (2 ^ hbits n))) ≡ true) where
    pub narrow-low : neg_ℤ (pos (2 ^ hbits n)) ≡ clamp (bits n) x
    unfolding clamp_to
    narrow-low = let u = simp (to_z-of_z f) at t in sym (ap (λ (b : Bool). cond b (neg_ℤ (pos (2 ^ hbits n))) (cond (lt_z (pos (2 ^ hbits n - 1)) x) (pos (2 ^ hbits n - 1)) x)) u) ∙ clamp-is

    pub overflows-low : true ≡ clamps (bits n) x
    unfolding end_to
    overflows-low = let u = simp (to_z-of_z f) at t in sym (ap (λ (b : Bool). changed (pick_end b raised (pick_end (lt_z (pos (2 ^ hbits n - 1)) x) cut_down neither))) u) ∙ end_is

  module _ (t : lt_z (to_z w (of_z w x)) (neg_ℤ (pos (2 ^ hbits n))) ≡ false) where
    past-low : lt_z x (neg_ℤ (pos (2 ^ hbits n))) ≡ false
    past-low = simp (to_z-of_z f) at t

    rest : clamp_to (neg_ℤ (pos (2 ^ hbits n))) (pos (2 ^ hbits n - 1)) x ≡ cond (lt_z (pos (2 ^ hbits n - 1)) x) (pos (2 ^ hbits n - 1)) x
    unfolding clamp_to
    rest = ap (λ (b : Bool). cond b (neg_ℤ (pos (2 ^ hbits n))) (cond (lt_z (pos (2 ^ hbits n - 1)) x) (pos (2 ^ hbits n - 1)) x)) past-low

    pub narrow_high : lt_z (pos (2 ^ hbits n - 1)) (to_z w (of_z w x)) ≡ true → pos (2 ^ hbits n - 1) ≡ clamp (bits n) x
    narrow_high u = let v = simp (to_z-of_z f) at u in sym (ap (λ (b : Bool). cond b (pos (2 ^ hbits n - 1)) x) v) ∙ sym rest ∙ clamp-is

    pub overflows-high : lt_z (pos (2 ^ hbits n - 1)) (to_z w (of_z w x)) ≡ clamps (bits n) x
    unfolding end_to
    overflows-high =
        ap (lt_z (pos (2 ^ hbits n - 1))) (to_z-of_z f) ∙ flag (lt_z (pos (2 ^ hbits n - 1)) x)
        ∙ sym (ap (λ (b : Bool). changed (pick_end b raised (pick_end (lt_z (pos (2 ^ hbits n - 1)) x) cut_down neither))) past-low) ∙ end_is

    module _ (u : lt_z (pos (2 ^ hbits n - 1)) (to_z w (of_z w x)) ≡ false) where
      past-high : lt_z (pos (2 ^ hbits n - 1)) x ≡ false
      past-high = simp (to_z-of_z f) at u

      inside : mag x < 2 ^ hbits n
      inside = between (hbits n) x past-low past-high

      pub narrow-fits : SFits n (to_z w (of_z w x))
      narrow-fits = simp (to_z-of_z f) (record { sfits = inside })

      pub narrow-inside : to_z n (of_z n (to_z w (of_z w x))) ≡ clamp (bits n) x
      narrow-inside =
          ap (λ (z : ℤ). to_z n (of_z n z)) (to_z-of_z f) ∙ kept n x inside ∙ sym (ap (λ (b : Bool). cond b (pos (2 ^ hbits n - 1)) x) past-high) ∙ sym rest ∙ clamp-is
