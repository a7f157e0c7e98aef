-- A signed number of a machine width and its bits: what is read of the one is `signed` and `pattern` of the other.
-- Assumes nothing.
use mathlib.Core.Path.{◌≡◌, refl, ap, ◌∙◌, subst, sym}
use mathlib.Core.Bool.{Bool, true, false}
use Prim.Native.Nat.{ℕ, suc, ◌-◌, ◌*◌, ◌^◌, ◌≤◌, ◌<◌}
use native.Mathlib.Nat.{mod-eq_of_lt}
use native.Mathlib.Omega.{arith}
use borrow.Author.Tests.{ltb-true, ltb-false}
use lib.Dec.{ltb}
use lib.IntN.{ℤ, pos, negsuc}
use mir.Syntax.{Width, w8, w16, w32, w64, w128}
use mir.Val.{bits, hbits, SFits, to_z, of_z, sel}
use mir.Facts.{of_z-to_z, to_z-of_z}
use Rattle.integer.specs.Number.{signed, pattern}
use Rattle.integer.proofs.Word.{signed_low, signed_high}

pub half : (w : Width) → 2 ^ (bits w - 1) ≡ 2 ^ hbits w
half w8 = refl
half w16 = refl
half w32 = refl
half w64 = refl
half w128 = refl

pub whole : (w : Width) → 2 ^ bits w ≡ 2 ^ hbits w * 2
whole w8 = refl
whole w16 = refl
whole w32 = refl
whole w64 = refl
whole w128 = refl

-- from bits to the number
pub read-signed : (w : Width) (u : ℕ) → u < 2 ^ bits w → to_z w u ≡ signed (bits w) u
read-signed w u h = by-test (ltb u (2 ^ hbits w)) refl
  where
    by-test : (t : Bool) → ltb u (2 ^ hbits w) ≡ t → sel t (pos u) (negsuc (2 ^ bits w - suc u)) ≡ signed (bits w) u
    by-test true e = signed_low (bits w) u (subst (λ (n : ℕ). u < n) (sym (half w)) (ltb-true u (2 ^ hbits w) e))
    by-test false e =
        ap negsuc (omega arith)
        ∙ signed_high (bits w) u (subst (λ (n : ℕ). n ≤ u) (sym (half w)) (ltb-false u (2 ^ hbits w) e)) h

-- the same of the number r that the code reads
pub read-bits : (w : Width) (u : ℕ) {r : ℤ} → u < 2 ^ bits w → r ≡ to_z w u → to_z w (of_z w r) ≡ signed (bits w) u
read-bits w u {r} h e =
    ap (λ (z : ℤ). to_z w (of_z w z)) e ∙ ap (to_z w) (of_z-to_z {w = w} {n = u} (record { fits = h })) ∙ read-signed w u h

-- from a number to its bits
pub bits-pattern : (w : Width) (a : ℤ) → SFits w a → of_z w a ≡ pattern (bits w) a
unfolding pattern
bits-pattern w (pos n) f = sym (mod-eq_of_lt (omega (arith, f.sfits, whole w)))
bits-pattern w (negsuc n) f = ap (λ (k : ℕ). 2 ^ bits w - suc k) (sym (mod-eq_of_lt (omega (arith, f.sfits, whole w))))

-- the same of the bits u that the code reads
pub pattern-bits : (w : Width) (a : ℤ) {u : ℕ} → SFits w a → u ≡ of_z w (to_z w (of_z w a)) → u ≡ pattern (bits w) a
pattern-bits w a f e = e ∙ ap (of_z w) (to_z-of_z f) ∙ bits-pattern w a f
