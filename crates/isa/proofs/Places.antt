-- Elements in their bytes, by size.
-- Assumes nothing.
use mathlib.Core.Path.{◌≡◌, refl, sym, ap, ◌∙◌}
use Prim.Native.Nat.{ℕ, ◌+◌, ◌-◌, ◌*◌, ◌/◌, ◌%◌, ◌^◌, ◌<◌}
use native.Mathlib.Nat.{div-one, mod-eq_of_lt}
use native.Mathlib.Omega.{arith}
use mathlib.Core.Bool.{Bool, true, false}
use mathlib.Core.List.{List}
use lib.IntN.{ℤ}
use lib.Signed.{mag}
use mir.Syntax.{Width}
use mir.Val.{to_z, of_z, hbits}
use Rattle.integer.proofs.Word.{kept}
use Rattle.isa.specs.Stage.{lane, first_place, second_place, partner_of, index_place}
use Rattle.integer.specs.Number.{signed, pattern, digit, byte_of}
use Rattle.isa.specs.Register.{Bytes, B, H, S, bytes, bits, little, element}

-- the number in the bytes of an element of 16 bits
pub element16 : (b : Bytes) (e : ℕ) → signed 16 (b (e + e) + 256 * b (e + e + 1)) ≡ element H b e
unfolding element little bits bytes
element16 b e = ap (signed 16) (omega (arith, ap b twice, ap (λ (x : ℕ). b (x + 1)) twice))
  where
    twice : e + e ≡ 2 * e
    twice = omega arith

pub element8 : (b : Bytes) (e : ℕ) → signed 8 (b e) ≡ element B b e
unfolding element little bits bytes
element8 b e = ap (signed 8) (omega (arith, ap b once))
  where
    once : e ≡ 1 * e
    once = omega arith

-- where k is the first byte's place
pub element32 : (b : Bytes) (e k : ℕ) → k ≡ 4 * e → signed 32 (b k + 256 * (b (k + 1) + 256 * (b (k + 2) + 256 * b (k + 3)))) ≡ element S b e
unfolding element little bits bytes
element32 b e k p = ap (signed 32) (omega (arith, ap b p, ap b p1, ap b p2, ap b p3))
  where
    p1 : k + 1 ≡ 4 * e + 1
    p1 = omega arith

    p2 : k + 2 ≡ 4 * e + 1 + 1
    p2 = omega arith

    p3 : k + 3 ≡ 4 * e + 1 + 1 + 1
    p3 = omega arith

-- ---- a lane that is taken from place i of a list, which is place j

pub taken : (w : Width) (n : List ℤ) {u : ℕ} (i j : ℕ) → u ≡ of_z w (lane n i) → mag (lane n i) < 2 ^ hbits w → i ≡ j → to_z w u ≡ lane n j
taken w n i j e h p = ap (to_z w) e ∙ kept w (lane n i) h ∙ ap (lane n) p

-- the same of the number that the bits stand for
pub taken-read : (w : Width) (n : List ℤ) {z : ℤ} (i j : ℕ) → z ≡ to_z w (of_z w (lane n i)) → mag (lane n i) < 2 ^ hbits w → i ≡ j → z ≡ lane n j
taken-read w n i j e h p = e ∙ kept w (lane n i) h ∙ ap (lane n) p

pub first-odd : {odd : Bool} (e : ℕ) → odd ≡ true → e - e % 2 + 1 ≡ first_place odd e
unfolding first_place
first-odd e t = rw t (omega arith)

pub first-even : {odd : Bool} (e : ℕ) → odd ≡ false → e - e % 2 ≡ first_place odd e
unfolding first_place
first-even e t = rw t (omega arith)

pub second-odd : {odd : Bool} (e : ℕ) → odd ≡ true → partner_of e ≡ second_place odd e
unfolding second_place
second-odd e t = rw t

pub second-even : {odd : Bool} (e : ℕ) → odd ≡ false → e ≡ second_place odd e
unfolding second_place
second-even e t = rw t

pub index-place : (index e : ℕ) → index + index + e % 2 ≡ index_place index e
unfolding index_place
index-place index e = refl

-- ---- byte i of the bytes of lanes of W bytes, where it is byte j of lane e, whose pattern is u

module _ (N W : ℕ) (s : List ℤ) (e u : ℕ) (r : u ≡ pattern N (lane s e)) where
  pub byte_at : (j i : ℕ) → i / W ≡ e → i % W ≡ j → u / 256 ^ j % 256 ≡ byte_of N (lane s (i / W)) (i % W)
  unfolding byte_of digit
  byte_at j i p q = rw (p, q, r)

  -- the first byte, and the last
  pub byte-first : (i : ℕ) → i / W ≡ e → i % W ≡ 0 → u % 256 ≡ byte_of N (lane s (i / W)) (i % W)
  byte-first i p q = ap (λ (x : ℕ). x % 256) (sym (div-one u)) ∙ byte_at 0 i p q

  pub byte_last : (j i : ℕ) → i / W ≡ e → i % W ≡ j → u / 256 ^ j < 256 → u / 256 ^ j ≡ byte_of N (lane s (i / W)) (i % W)
  byte_last j i p q h = sym (mod-eq_of_lt h) ∙ byte_at j i p q
