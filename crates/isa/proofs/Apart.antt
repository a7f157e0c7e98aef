-- Rows of which no word matches two: some bit is fixed in both and differs (`apart`).
-- `apart-never`: two such rows match no word. `fixed-bit`: a fixed bit of a word that matches a row is the base's. Assumes nothing.
use Prim.Native.Nat.{ℕ, zero, suc, ◌+◌, ◌-◌, ◌/◌, ◌%◌, ◌^◌, ◌<◌, ◌≤◌}
use mathlib.Core.Path.{◌≡◌, refl, sym, ap, ◌∙◌}
use mathlib.Core.List.{List, [], ◌∷◌}
use mathlib.Core.Bool.{Bool, true, false, not, ◌&&◌, ◌||◌}
use native.Mathlib.Omega.{arith}
use borrow.Author.Tests.{ltb-true, leb-true, eq-eqb, not-true}
use lib.Dec.{leb, ltb, eqb}
use lib.Pow.{field, mod-mod-pow, shr-shr}
use Rattle.isa.specs.Field.{Field, Row, width}
use Rattle.isa.proofs.Fields.{sound, FixedBelow, SameBits, Of, and_left, and_right, matches-fixed}

-- bit p of a number
abbrev pub bit : ℕ → ℕ → ℕ
bit p w = w / 2 ^ p % 2

-- bit p is in no field
abbrev pub fixed_at : ℕ → List Field → Bool
fixed_at p [] = true
fixed_at p (f ∷ fs) = (ltb p f.low || leb (width f + f.low) p) && fixed_at p fs

-- a bit of a number within n bits from `from` on
inner : (x from n p : ℕ) → from ≤ p → p < n + from → bit p x ≡ x / 2 ^ from % 2 ^ n / 2 ^ (p - from) % 2
inner x from n p h1 h2 =
    let a = p - from in
    let j = n - (a + 1) in
    ap (λ (q : ℕ). x / 2 ^ q % 2) (let e : p ≡ from + a = omega arith in e)
    ∙ ap (λ (y : ℕ). y % 2) (sym (shr-shr x from a))
    ∙ sym (mod-mod-pow (x / 2 ^ from / 2 ^ a) j 1)
    ∙ ap (λ (y : ℕ). y % 2) (sym (field (x / 2 ^ from) (j + 1) a))
    ∙ ap (λ (q : ℕ). x / 2 ^ from % 2 ^ q / 2 ^ a % 2) (let e : (j + 1) + a ≡ n = omega arith in e)

same_bit : (n from base w p : ℕ) → SameBits n from base w → from ≤ p → p < n + from → bit p w ≡ bit p base
same_bit zero from base w p s h1 h2 = absurd (omega arith)
same_bit (suc n) from base w p s h1 h2 =
    inner w from (suc n) p h1 h2 ∙ ap (λ (x : ℕ). x / 2 ^ (p - from) % 2) s ∙ sym (inner base from (suc n) p h1 h2)

bit_below : (top base w p : ℕ) (fs : List Field) → FixedBelow top base w fs → p < top → fixed_at p fs ≡ true → bit p w ≡ bit p base
bit_below top base w p [] s h k = same_bit top 0 base w p s (omega arith) (omega arith)
bit_below top base w p (f ∷ fs) s h k = by (ltb p f.low) refl (and_left _ _ k) (λ l. bit_below f.low base w p fs s.1 l (and_right (ltb p f.low || leb (width f + f.low) p) _ k))
  where
    by : (b : Bool) → ltb p f.low ≡ b → (b || leb (width f + f.low) p) ≡ true → (p < f.low → bit p w ≡ bit p base) → bit p w ≡ bit p base
    by true e o below = below (ltb-true p f.low e)
    by false e o below =
        let l = leb-true (width f + f.low) p o in
        same_bit (top - (width f + f.low)) (width f + f.low) base w p s.0 l (omega arith)

pub fixed-bit : (r : Row) → sound r ≡ true → (w p : ℕ) → Of r w → p < 32 → fixed_at p r.fields ≡ true → bit p w ≡ bit p r.base
fixed-bit r s w p e h k = bit_below 32 r.base w p r.fields (matches-fixed r s w e) h k

-- bit p is fixed in both rows, and differs
abbrev pub parts : Row → Row → ℕ → Bool
parts r q p = fixed_at p r.fields && (fixed_at p q.fields && not (eqb (bit p r.base) (bit p q.base)))

-- some bit below n parts the rows
abbrev pub parted_below : ℕ → Row → Row → Bool
parted_below zero r q = false
parted_below (suc p) r q = parts r q p || parted_below p r q

abbrev pub apart : Row → Row → Bool
apart r q = parted_below 32 r q

module _ (r q : Row) (sr : sound r ≡ true) (sq : sound q ≡ true) (w : ℕ) (er : Of r w) (eq : Of q w) where
  parts-never : (p : ℕ) → p < 32 → parts r q p ≡ true → ⊥
  parts-never p h k =
      let both = and_right (fixed_at p r.fields) _ k in
      let here = fixed-bit r sr w p er h (and_left _ _ k) in
      let there = fixed-bit q sq w p eq h (and_left _ _ both) in
      let same = eq-eqb (bit p r.base) (bit p q.base) (sym here ∙ there) in
      let other = not-true (eqb (bit p r.base) (bit p q.base)) (and_right (fixed_at p q.fields) _ both) in
      let z : ◌≡◌ {A = Bool} true false = sym same ∙ other in
      absurd-bool z
    where
      absurd-bool : ◌≡◌ {A = Bool} true false → ⊥
      absurd-bool z = let n : ◌≡◌ {A = ℕ} 0 1 = cc in omega arith

  none_below : (n : ℕ) → n ≤ 32 → parted_below n r q ≡ true → ⊥
  none_below zero h k = let n : ◌≡◌ {A = ℕ} 0 1 = cc in omega arith
  none_below (suc p) h k = by (parts r q p) refl k (λ o. none_below p (omega arith) o)
    where
      by : (b : Bool) → parts r q p ≡ b → (b || parted_below p r q) ≡ true → (parted_below p r q ≡ true → ⊥) → ⊥
      by true e o below = parts-never p (omega arith) e
      by false e o below = below o

  pub apart-never : apart r q ≡ true → ⊥
  apart-never k = none_below 32 (omega arith) k
