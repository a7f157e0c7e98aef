-- A lane of n worked out in a width w of twice its bits: each step fits, and what is read at the end is the exact number.
-- The laws are over the two widths; `wide8`, `wide16` and `wide32` are the widths that the code has.
-- Assumes nothing.
use mathlib.Core.Path.{◌≡◌, refl, sym, ap, ap₂, ◌∙◌}
use mathlib.Core.Bool.{Bool}
use Prim.Native.Nat.{ℕ, ◌+◌, ◌-◌, ◌*◌, ◌%◌, ◌^◌, ◌≤◌, ◌<◌}
use native.Mathlib.Nat.{lt_of_le_of_lt, mul-le-mul_left}
use lib.Pow.{pow_pos}
use native.Mathlib.Omega.{arith}
use lib.Dec.{lit<}
use lib.IntN.{ℤ, pos, nat_abs, ◌+ℤ◌, ◌*ℤ◌, +ℤ_comm}
use lib.Signed.{shr_z, mag, mag_shr, nat_abs-le}
use mir.Syntax.{Width, w8, w16, w32, w64}
use mir.Val.{SFits, to_z, of_z, bits, hbits}
use mir.Facts.{to_z-of_z}
use Rattle.integer.specs.Number.{rounded, signed_by, signed, pattern, wrap}
use Rattle.integer.specs.Lane.{SumIn, Toward}
use Rattle.integer.proofs.Word.{kept, pattern-narrow}
use Rattle.integer.proofs.Round.{round-upper, round-apart, sum-mag, product-mag, signed-mag, upper-abs}
use Rattle.integer.proofs.Difference.{product-abs}
use Rattle.integer.proofs.Bits.{half}
use Rattle.integer.proofs.Toward.{toward, toward-addend, abs-signed}

-- q is a quarter of 2^N, where n has N bits, and w has room for a product, an addend and q
pub record Wide (n w : Width) (q : ℕ) : Type 0 where
  pub even : 2 ^ hbits n ≡ q * 2
  pub room : 2 ^ hbits n * 2 ^ hbits n + 2 ^ hbits n + q + 8 < 2 ^ hbits w
  pub doubled : bits w ≡ bits n + bits n
  pub one_more : bits n ≡ hbits n + 1

pub wide8 : Wide w8 w16 64
wide8 = record { even = refl; room = lit< tt; doubled = refl; one_more = refl }

pub wide16 : Wide w16 w32 16384
wide16 = record { even = refl; room = lit< tt; doubled = refl; one_more = refl }

pub wide32 : Wide w32 w64 1073741824
wide32 = record { even = refl; room = lit< tt; doubled = refl; one_more = refl }

module _ {n w : Width} {q : ℕ} (r : Wide n w q) where
  -- a lane, widened
  pub widened : {z : ℤ} → SFits n z → SFits w z
  widened f = record { sfits = omega (arith, f.sfits, r.room) }

  pub fits-cast : {z : ℤ} → SFits n z → SFits w (to_z n (of_z n z))
  fits-cast f = simp (to_z-of_z f) (widened f)

  pub read-cast : {z : ℤ} → SFits n z → to_z w (of_z w (to_z n (of_z n z))) ≡ z
  read-cast f = simp (to_z-of_z f, to_z-of_z (widened f))

  abs-lane : {z : ℤ} → SFits n z → nat_abs z ≤ 2 ^ (bits n - 1)
  abs-lane {z} f = rw (half n) (nat_abs-le z f.sfits)

  -- the product
  pub fits-exact : {a b : ℤ} → SFits n a → SFits n b → SFits w (a *ℤ b)
  fits-exact {a} {b} f g = record { sfits = omega (arith, product-mag (hbits n) a b f.sfits g.sfits, r.room) }

  -- the product as it is worked out in a wider width k, and cast to w
  wider : (k : Width) {a b p : ℤ} → SFits n a → SFits n b → mag p < 2 ^ hbits k → p ≡ to_z w (of_z w (to_z n (of_z n a))) *ℤ to_z w (of_z w (to_z n (of_z n b))) → to_z k (of_z k p) ≡ a *ℤ b
  wider k f g h e = kept k _ h ∙ e ∙ simp (read-cast f, read-cast g)

  pub fits_wider : (k : Width) {a b p : ℤ} → SFits n a → SFits n b → mag p < 2 ^ hbits k → p ≡ to_z w (of_z w (to_z n (of_z n a))) *ℤ to_z w (of_z w (to_z n (of_z n b))) → SFits w (to_z k (of_z k p))
  fits_wider k f g h e = rw (wider k f g h e) (fits-exact f g)

  pub read-wider : (k : Width) {a b p : ℤ} → SFits n a → SFits n b → mag p < 2 ^ hbits k → p ≡ to_z w (of_z w (to_z n (of_z n a))) *ℤ to_z w (of_z w (to_z n (of_z n b))) → to_z w (of_z w (to_z k (of_z k p))) ≡ a *ℤ b
  read-wider k f g h e = rw (wider k f g h e) (to_z-of_z (fits-exact f g))

  -- what the product's local reads
  exact : {a b p : ℤ} → SFits n a → SFits n b → mag p < 2 ^ hbits w → p ≡ to_z n (of_z n a) *ℤ to_z n (of_z n b) → to_z w (of_z w p) ≡ a *ℤ b
  exact f g h e = kept w _ h ∙ e ∙ simp (to_z-of_z f, to_z-of_z g)

  -- a sum of a lane and of a number as large as a product
  product-in : {x a b : ℤ} → mag x < 2 ^ hbits n → SFits n a → SFits n b → SumIn (hbits n) x (a *ℤ b)
  product-in {x} {a} {b} h f g = record { lane_size = h; small = product-mag (hbits n) a b f.sfits g.sfits }

  lane_in : {x b : ℤ} → SFits n x → SFits n b → SumIn (hbits n) x b
  lane_in f g = record { lane_size = f.sfits; small = omega (arith, g.sfits, mul-le-mul_left (2 ^ hbits n) (pow_pos (hbits n))) }

  pub lanes-in : {x b : ℤ} → SFits n x → SFits n b → SumIn (hbits n) (to_z w (of_z w (to_z n (of_z n x)))) (to_z w (of_z w (to_z n (of_z n b))))
  lanes-in f g = simp (read-cast f, read-cast g) (lane_in f g)

  fits_sum : (minus : Bool) {x y : ℤ} → SumIn (hbits n) x y → SFits w (x +ℤ signed_by minus y)
  fits_sum minus {x} {y} i =
      record { sfits = omega (arith, sum-mag x (signed_by minus y) (2 ^ hbits n) (2 ^ hbits n * 2 ^ hbits n + 1 + 1) i.lane_size (signed-mag minus y i.small), r.room) }

  pub fits-plus-minus : (minus : Bool) {x y : ℤ} → SFits w x → SFits w y → SumIn (hbits n) x y → SFits w (to_z w (of_z w x) +ℤ signed_by minus (to_z w (of_z w y)))
  fits-plus-minus minus f g i = simp (to_z-of_z f, to_z-of_z g) (fits_sum minus i)

  pub read-plus-minus : {minus : Bool} (t : Bool) {x y : ℤ} → minus ≡ t → SFits w x → SFits w y → SumIn (hbits n) x y → to_z w (of_z w (to_z w (of_z w x) +ℤ signed_by t (to_z w (of_z w y)))) ≡ x +ℤ signed_by minus y
  read-plus-minus t e f g i = simp (to_z-of_z f, to_z-of_z g, to_z-of_z (fits_sum t i), e)

  -- what is added to a lane: a product of two lanes, or its negative, doubled and rounded to its upper half
  module _ (minus : Bool) {a b : ℤ} (f : SFits n a) (g : SFits n b) where
    upper-shifted : rounded (bits n) (pos 0) (signed_by minus (a *ℤ b)) ≡ shr_z (pos q +ℤ signed_by minus (a *ℤ b)) (2 ^ hbits n)
    upper-shifted = rw r.one_more (round-upper (hbits n) q r.even (signed_by minus (a *ℤ b)))

    upper-mag : mag (rounded (bits n) (pos 0) (signed_by minus (a *ℤ b))) < q + (2 ^ hbits n * 2 ^ hbits n) + 4
    upper-mag =
        rw upper-shifted
        (lt_of_le_of_lt (mag_shr (pos q +ℤ signed_by minus (a *ℤ b)) (2 ^ hbits n))
        (omega (arith, sum-mag (pos q) (signed_by minus (a *ℤ b)) (q + 1) (2 ^ hbits n * 2 ^ hbits n + 1 + 1) (omega arith) (signed-mag minus (a *ℤ b) (product-mag (hbits n) a b f.sfits g.sfits)))))

    fits-upper : SFits w (rounded (bits n) (pos 0) (signed_by minus (a *ℤ b)))
    fits-upper = record { sfits = omega (arith, upper-mag, r.room) }

    upper-small : nat_abs (rounded (bits n) (pos 0) (signed_by minus (a *ℤ b))) ≤ 2 ^ (bits n - 1)
    upper-small =
        let q-below : q < 2 ^ hbits n = omega (arith, r.even, pow_pos (hbits n)) in
        rw (upper-shifted, half n)
        (upper-abs (2 ^ hbits n) q q-below (signed_by minus (a *ℤ b)) (rw (abs-signed minus (a *ℤ b)) (product-abs a b (nat_abs-le a f.sfits) (nat_abs-le b g.sfits))))

    -- the lane picks the end of the clamp
    pub toward-old-lane : {c s : ℤ} → s ≡ rounded (bits n) c (signed_by minus (a *ℤ b)) → Toward (bits n) s c
    toward-old-lane {c} e =
        rw (e, round-apart (bits n) c (signed_by minus (a *ℤ b)), +ℤ_comm c (rounded (bits n) (pos 0) (signed_by minus (a *ℤ b))))
        (toward (bits n) (rounded (bits n) (pos 0) (signed_by minus (a *ℤ b))) c upper-small)

    -- p is the product, and v what is read of a quarter and p
    pub read_upper : {p v : ℤ} → mag p < 2 ^ hbits w → p ≡ to_z n (of_z n a) *ℤ to_z n (of_z n b) → mag v < 2 ^ hbits w → v ≡ pos q +ℤ signed_by minus (to_z w (of_z w p)) → to_z w (of_z w (shr_z (to_z w (of_z w v)) (2 ^ hbits n))) ≡ rounded (bits n) (pos 0) (signed_by minus (a *ℤ b))
    read_upper h e k s = rw (kept w _ k ∙ s, exact f g h e, sym upper-shifted) (to_z-of_z fits-upper)

    -- u is that upper half, and c the lane
    module _ {c u : ℤ} (i : SFits n c) (h : mag u < 2 ^ hbits w) (e : u ≡ rounded (bits n) (pos 0) (signed_by minus (to_z n (of_z n a) *ℤ to_z n (of_z n b)))) where
      upper-read : to_z w (of_z w u) ≡ rounded (bits n) (pos 0) (signed_by minus (a *ℤ b))
      upper-read = kept w _ h ∙ e ∙ simp (to_z-of_z f, to_z-of_z g)

      fits-total : SFits w (c +ℤ rounded (bits n) (pos 0) (signed_by minus (a *ℤ b)))
      fits-total = record { sfits = omega (arith, sum-mag c (rounded (bits n) (pos 0) (signed_by minus (a *ℤ b))) (2 ^ hbits n) (q + (2 ^ hbits n * 2 ^ hbits n) + 4) i.sfits upper-mag, r.room) }

      pub fits-rounded : SFits w (to_z w (of_z w (to_z n (of_z n c))) +ℤ to_z w (of_z w u))
      fits-rounded = rw (read-cast i, upper-read) fits-total

      pub read-rounded : to_z w (of_z w (to_z w (of_z w (to_z n (of_z n c))) +ℤ to_z w (of_z w u))) ≡ rounded (bits n) c (signed_by minus (a *ℤ b))
      read-rounded = rw (read-cast i, upper-read) (to_z-of_z fits-total ∙ sym (round-apart (bits n) c (signed_by minus (a *ℤ b))))

      -- what is added picks the end of the clamp
      pub toward-rounded : Toward (bits n) (to_z w (of_z w (to_z w (of_z w (to_z n (of_z n c))) +ℤ to_z w (of_z w u)))) (to_z w (of_z w u))
      toward-rounded = rw (read-cast i, upper-read, to_z-of_z fits-total) (toward (bits n) c (rounded (bits n) (pos 0) (signed_by minus (a *ℤ b))) (abs-lane i))

  -- the product p of a and b, and the sum of a lane, or of a smaller number, and it
  module _ {a b p : ℤ} (f : SFits n a) (g : SFits n b) (h : mag p < 2 ^ hbits w) (e : p ≡ to_z n (of_z n a) *ℤ to_z n (of_z n b)) where
    pub small-in : {x : ℤ} → mag x < 2 ^ hbits n → SumIn (hbits n) x (to_z w (of_z w p))
    small-in k = rw (exact f g h e) (product-in k f g)

    pub sum-in : {c : ℤ} → SFits n c → SumIn (hbits n) (to_z w (of_z w (to_z n (of_z n c)))) (to_z w (of_z w p))
    sum-in i = rw (read-cast i) (small-in i.sfits)

    pub product-sum : (minus : Bool) {c s : ℤ} → SFits n c → s ≡ to_z w (of_z w (to_z n (of_z n c))) +ℤ signed_by minus (to_z w (of_z w p)) → s ≡ c +ℤ signed_by minus (a *ℤ b)
    product-sum minus i s = s ∙ ap₂ (λ x z. x +ℤ signed_by minus z) (read-cast i) (exact f g h e)

  -- what is read of a lane that f makes of a wider number
  pub read_through : (f : ℤ → ℤ) {v s y : ℤ} → mag v < 2 ^ hbits n → mag s < 2 ^ hbits w → v ≡ f (to_z w (of_z w s)) → s ≡ y → to_z n (of_z n v) ≡ f y
  read_through f h k e p = kept n _ h ∙ e ∙ ap f (kept w _ k ∙ p)

  -- the sum of two lanes that were widened, and of a lane and a product
  pub lanes-sum : {c b s : ℤ} (minus : Bool) → SFits n c → SFits n b → s ≡ to_z w (of_z w (to_z n (of_z n c))) +ℤ signed_by minus (to_z w (of_z w (to_z n (of_z n b)))) → s ≡ c +ℤ signed_by minus b
  lanes-sum minus f g e = e ∙ simp (read-cast f, read-cast g)

  -- the addend picks the end of the clamp
  pub toward-lanes : {c b s : ℤ} (minus : Bool) → SFits n c → SFits n b → mag s < 2 ^ hbits w → s ≡ c +ℤ signed_by minus b → Toward (bits n) (to_z w (of_z w s)) (to_z w (of_z w (to_z n (of_z n c))))
  toward-lanes {c} {b} minus f g h e = rw (kept w _ h ∙ e, read-cast f) (toward-addend (bits n) minus c b (abs-lane g))

  -- what the code reads of a number and of a lane that was widened
  pub widened-toward : {s x : ℤ} → mag s < 2 ^ hbits w → mag x < 2 ^ hbits n → Toward (bits n) s x → Toward (bits n) (to_z w (of_z w s)) (to_z w (of_z w (to_z n (of_z n x))))
  widened-toward h l t = rw (kept w _ h, read-cast (record { sfits = l })) t

  -- the rounded sum of lanes that fit
  pub rounded-sum : {c a b s : ℤ} (minus : Bool) → SFits n c → SFits n a → SFits n b → s ≡ rounded (bits n) (to_z n (of_z n c)) (signed_by minus (to_z n (of_z n a) *ℤ to_z n (of_z n b))) → s ≡ rounded (bits n) c (signed_by minus (a *ℤ b))
  rounded-sum minus i f g e = e ∙ simp (to_z-of_z i, to_z-of_z f, to_z-of_z g)

  -- the low bits of x
  pub read-cut : {x v : ℤ} {u : ℕ} → SFits w x → mag v < 2 ^ hbits n → u ≡ pattern (bits w) (to_z w (of_z w x)) → v ≡ signed (bits n) (u % 2 ^ bits n) → to_z n (of_z n v) ≡ wrap (bits n) x
  unfolding wrap
  read-cut {x} f h e p =
      kept n _ h ∙ p
      ∙ ap (λ (u : ℕ). signed (bits n) (u % 2 ^ bits n)) (e ∙ ap (pattern (bits w)) (to_z-of_z f) ∙ ap (λ (N : ℕ). pattern N x) r.doubled)
      ∙ ap (signed (bits n)) (pattern-narrow (bits n) (bits n) x)
