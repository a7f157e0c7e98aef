-- The laws of rounding and clamping, over the width.
-- Assumes nothing.
use mathlib.Core.Path.{◌≡◌, refl, sym, ap, ◌∙◌}
use mathlib.Core.Bool.{Bool, true, false, cond}
use Prim.Native.Nat.{ℕ, zero, suc, ◌+◌, ◌-◌, ◌*◌, ◌/◌, ◌^◌, ◌≤◌, ◌<◌}
use native.Mathlib.Nat.{mul-add-div_right, le_refl, add-mul, mul_assoc, add-sub_cancel, div-mul-le_self, lt_of_le_of_lt, lt_of_mul-lt-mul_right}
use native.Mathlib.Omega.{arith}
use lib.IntN.{ℤ, pos, negsuc, neg_ℤ, nat_abs, ◌+ℤ◌, ◌*ℤ◌, *ℤ_comm, +ℤ_assoc, +ℤ_idl}
use borrow.Author.Tests.{ltb-false, le-ltb}
use lib.Pow.{pow-add, pow_pos}
use lib.Signed.{lt_z, shr_z, mag, nat_abs-le}
use Rattle.integer.specs.Number.{rounded, clamp_to, clamp, end_to, end_of, neither, signed_by}
use Rattle.integer.proofs.Difference.{diff, diffs, diff-eq, diff-scale, diff-add, all, sub-ind, pos-diff, shr-double, diff-mag, diff-shr, all-multiple, diff-range, diff-abs, mag-abs, product-abs}

-- ---- the sum, halved, with the addend taken out

doubled : (h q : ℕ) → h ≡ q * 2 → (c t : ℤ) → c *ℤ pos (h * 2) +ℤ pos 2 *ℤ t +ℤ pos h ≡ (c *ℤ pos h +ℤ pos q +ℤ t) *ℤ pos 2
doubled h q e c t =
    all (λ z. z *ℤ pos (h * 2) +ℤ pos 2 *ℤ t +ℤ pos h ≡ (z *ℤ pos h +ℤ pos q +ℤ t) *ℤ pos 2)
    (λ a b. all (λ w. diff a b *ℤ pos (h * 2) +ℤ pos 2 *ℤ w +ℤ pos h ≡ (diff a b *ℤ pos h +ℤ pos q +ℤ w) *ℤ pos 2)
    (λ x y. rw (*ℤ_comm (pos 2) (diff x y)) (simp diffs (diff-eq _ _ _ _ (omega (arith, mul_assoc a h 2, mul_assoc b h 2))))) t) c

-- a whole multiple of the divisor comes out of a division
pub shr-whole : (m : ℕ) → 0 < m → (c y : ℤ) → shr_z (c *ℤ pos m +ℤ y) m ≡ c +ℤ shr_z y m
shr-whole m h c y =
    all (λ c. shr_z (c *ℤ pos m +ℤ y) m ≡ c +ℤ shr_z y m)
    (λ a b. all-multiple m h (λ y. shr_z (diff a b *ℤ pos m +ℤ y) m ≡ diff a b +ℤ shr_z y m)
    (λ u k. ap (λ (z : ℤ). shr_z z m) (ap (λ (z : ℤ). z +ℤ diff u (k * m)) (diff-scale a b m) ∙ diff-add (a * m) (b * m) u (k * m) ∙ ap (diff (a * m + u)) (sym (add-mul b k m)))
    ∙ diff-shr m h (a * m + u) (b + k) ∙ ap (λ (n : ℕ). diff n (b + k)) (mul-add-div_right h a u)
    ∙ sym (ap (λ (z : ℤ). diff a b +ℤ z) (diff-shr m h u k) ∙ diff-add a b (u / m) k)) y) c

-- for elements of s + 1 bits
pub round-halved : (s q : ℕ) → 2 ^ s ≡ q * 2 → (c t : ℤ) → rounded (s + 1) c t ≡ shr_z (c *ℤ pos (2 ^ s) +ℤ pos q +ℤ t) (2 ^ s)
unfolding rounded
round-halved s q e c t =
    rw (add-sub_cancel s 1, pow-add 2 s 1)
    (ap (λ (z : ℤ). shr_z z (2 ^ s * 2)) (doubled (2 ^ s) q e c t) ∙ shr-double (c *ℤ pos (2 ^ s) +ℤ pos q +ℤ t) (2 ^ s))

-- what the code works out: what is added to c
pub round-upper : (s q : ℕ) → 2 ^ s ≡ q * 2 → (t : ℤ) → rounded (s + 1) (pos 0) t ≡ shr_z (pos q +ℤ t) (2 ^ s)
round-upper s q e t =
    let none : 0 * 2 ^ s + q ≡ q = omega arith in
    round-halved s q e (pos 0) t ∙ ap (λ (k : ℕ). shr_z (pos k +ℤ t) (2 ^ s)) none

-- for elements of N bits
round-out : (N : ℕ) (c t : ℤ) → rounded N c t ≡ c +ℤ shr_z (pos 2 *ℤ t +ℤ pos (2 ^ (N - 1))) (2 ^ N)
unfolding rounded
round-out N c t =
    ap (λ (z : ℤ). shr_z z (2 ^ N)) (+ℤ_assoc (c *ℤ pos (2 ^ N)) (pos 2 *ℤ t) (pos (2 ^ (N - 1)))) ∙ shr-whole (2 ^ N) (pow_pos N) c (pos 2 *ℤ t +ℤ pos (2 ^ (N - 1)))

pub round-apart : (N : ℕ) (c t : ℤ) → rounded N c t ≡ c +ℤ rounded N (pos 0) t
round-apart N c t = round-out N c t ∙ ap (λ (z : ℤ). c +ℤ z) (sym (round-out N (pos 0) t ∙ +ℤ_idl _))

-- ---- ranges

cond-mag : (t : Bool) (x y : ℤ) {H : ℕ} → (t ≡ true → mag x < H) → (t ≡ false → mag y < H) → mag (cond t x y) < H
cond-mag true x y f g = f refl
cond-mag false x y f g = g refl

pub neg-mag : (n : ℕ) {H : ℕ} → 0 < H → n ≤ H → mag (neg_ℤ (pos n)) < H
neg-mag zero p h = p
neg-mag (suc n) p h = h

pub within : (z : ℤ) (H : ℕ) → 0 < H → lt_z z (neg_ℤ (pos H)) ≡ false → lt_z (pos (H - 1)) z ≡ false → mag z < H
within (pos n) H p e f = omega (arith, ltb-false (H - 1) n f)
within (negsuc n) zero p e f = absurd (omega arith)
within (negsuc n) (suc H) p e f = omega (arith, ltb-false H n e)

-- what neither test of a clamp stops is in range
pub between : (s : ℕ) (z : ℤ) → lt_z z (neg_ℤ (pos (2 ^ s))) ≡ false → lt_z (pos (2 ^ s - 1)) z ≡ false → mag z < 2 ^ s
between s z e f = within z (2 ^ s) (pow_pos s) e f

-- a number in range stays, and no end is met
inside-kept : (z : ℤ) (P : ℕ) → mag z < P → clamp_to (neg_ℤ (pos P)) (pos (P - 1)) z ≡ z
unfolding clamp_to
inside-kept z zero h = absurd (omega arith)
inside-kept (pos n) (suc P) h = let l : n ≤ suc P - 1 = omega arith in rw (le-ltb (suc P - 1) n l)
inside-kept (negsuc n) (suc P) h = let l : n ≤ P = omega arith in rw (le-ltb P n l)

inside-neither : (z : ℤ) (P : ℕ) → mag z < P → end_to (neg_ℤ (pos P)) (pos (P - 1)) z ≡ neither
unfolding end_to
inside-neither z zero h = absurd (omega arith)
inside-neither (pos n) (suc P) h = let l : n ≤ suc P - 1 = omega arith in rw (le-ltb (suc P - 1) n l)
inside-neither (negsuc n) (suc P) h = let l : n ≤ P = omega arith in rw (le-ltb P n l)

pub clamp-inside : (N : ℕ) (z : ℤ) → mag z < 2 ^ (N - 1) → clamp N z ≡ z
clamp-inside N z h = inside-kept z (2 ^ (N - 1)) h

pub end-inside : (N : ℕ) (z : ℤ) → mag z < 2 ^ (N - 1) → end_of N z ≡ neither
end-inside N z h = inside-neither z (2 ^ (N - 1)) h

pub clamp-mag : (N : ℕ) (z : ℤ) → mag (clamp N z) < 2 ^ (N - 1)
unfolding clamp_to
clamp-mag N z =
    cond-mag (lt_z z (neg_ℤ (pos (2 ^ (N - 1))))) (neg_ℤ (pos (2 ^ (N - 1)))) (cond (lt_z (pos (2 ^ (N - 1) - 1)) z) (pos (2 ^ (N - 1) - 1)) z)
    (λ e. neg-mag (2 ^ (N - 1)) (pow_pos (N - 1)) (le_refl (2 ^ (N - 1))))
    (λ e. cond-mag (lt_z (pos (2 ^ (N - 1) - 1)) z) (pos (2 ^ (N - 1) - 1)) z
    (λ f. omega (arith, pow_pos (N - 1)))
    (λ f. within z (2 ^ (N - 1)) (pow_pos (N - 1)) e f))

pub sum-mag : (x y : ℤ) (A B : ℕ) → mag x < A → mag y < B → mag (x +ℤ y) < A + B + 1
sum-mag x y A B h k =
    all (λ x. mag x < A → mag (x +ℤ y) < A + B + 1)
    (λ a b h. all (λ y. mag y < B → mag (diff a b +ℤ y) < A + B + 1)
    (λ c d k. given a b c d (diff-range a b A h) (diff-range c d B k)) y k) x h
  where
    given : (a b c d : ℕ) → (a < b + A) × (b ≤ a + A) → (c < d + B) × (d ≤ c + B) → mag (diff a b +ℤ diff c d) < A + B + 1
    given a b c d r t = simp diffs (diff-mag (a + c) (b + d) (A + B + 1) (omega arith) (omega arith))

pub product-mag : (s : ℕ) (a b : ℤ) → mag a < 2 ^ s → mag b < 2 ^ s → mag (a *ℤ b) < 2 ^ s * 2 ^ s + 1
product-mag s a b h k = omega (arith, mag-abs (a *ℤ b), product-abs a b (nat_abs-le a h) (nat_abs-le b k))

pub signed-mag : (minus : Bool) (p : ℤ) {A : ℕ} → mag p < A → mag (signed_by minus p) < A + 1
signed-mag false p h = omega arith
signed-mag true (pos zero) h = omega arith
signed-mag true (pos (suc n)) h = omega arith
signed-mag true (negsuc n) h = omega arith

-- ---- what a product of two numbers of P has left after a division by P, rounded by less than P

pub below-divided : (n k P : ℕ) → n < k * P → n / P < k
below-divided n k P h = lt_of_mul-lt-mul_right P (lt_of_le_of_lt (div-mul-le_self n P) h)

shr-abs : (P a b : ℕ) → a < b + (P * P + P) → b ≤ a + P * P → nat_abs (shr_z (diff a b) P) ≤ P
shr-abs P a b up down =
    sub-ind (λ z. nat_abs (shr_z z P) ≤ P) a b
    (λ x e. omega (arith, below-divided x (P + 1) P (omega (arith, add-mul P 1 P))))
    (λ x e. omega (arith, below-divided x P P (omega arith)))

pub upper-abs : (P q : ℕ) → q < P → (t : ℤ) → nat_abs t ≤ P * P → nat_abs (shr_z (pos q +ℤ t) P) ≤ P
upper-abs P q l =
    all (λ t. nat_abs t ≤ P * P → nat_abs (shr_z (pos q +ℤ t) P) ≤ P)
    (λ a b h.
    let r = diff-abs a b (P * P) h in
    rw (pos-diff q, diff-add q 0 a b) (shr-abs P (q + a) (0 + b) (omega arith) (omega arith)))
