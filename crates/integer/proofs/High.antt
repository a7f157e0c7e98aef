-- The upper half of a doubled product. `upper_is`: the product divided by 2^(N-1) rounding down. `high-in`: of two lanes it is above the lowest and at most
-- one past the highest. `topped-past`, `topped-kept`: so its clamp is told by its bits. `read-high`, `cut_high` and what follows: what the code reads.
-- `biased-high`: the same from factors without a sign. Assumes nothing.
use mathlib.Core.Path.{◌≡◌, refl, sym, ap, ap₂, subst, ◌∙◌}
use mathlib.Core.Bool.{Bool, true, false, cond}
use Prim.Native.Nat.{ℕ, zero, suc, ◌+◌, ◌-◌, ◌*◌, ◌/◌, ◌%◌, ◌^◌, ◌≤◌, ◌<◌}
use native.Mathlib.Nat.{mul-le-mul, mul_comm, add-mul, lt_of_le_of_lt, mod-eq_of_lt, zero-div, add-mul-div_right, add-mul-mod_self_right, mul-add-div_right, mod-add-mod}
use native.Mathlib.Omega.{arith}
use borrow.Author.Tests.{lt-ltb, le-ltb, ltb-true, ltb-false}
use lib.Dec.{ltb}
use lib.IntN.{ℤ, pos, negsuc, neg_ℤ, ◌+ℤ◌, ◌-ℤ◌, ◌*ℤ◌, *ℤ_comm, +ℤ-neg_ℤ_cancel}
use lib.Pow.{pow-add, pow_pos}
use lib.Signed.{lt_z, shr_z, mag, mag_shr}
use mir.Syntax.{Width}
use mir.Val.{bits, hbits, SFits, to_z, of_z}
use mir.Facts.{to_z-of_z}
use Rattle.integer.specs.Number.{upper_half, signed, pattern, wrap, clamp_to, clamp, lowest, highest}
use Rattle.integer.specs.Lane.{doubled_high}
use Rattle.integer.proofs.Bits.{half}
use Rattle.integer.proofs.Difference.{diff, diff-mul, diff-shr, diff-eq, minus_pos, add-pos, pos-diff, is_pos, is-neg, neg-diff, shr-double, ring}
use Rattle.integer.proofs.Round.{clamp-inside, below-divided}
use Rattle.integer.proofs.Widen.{Wide, fits-exact}
use Rattle.integer.proofs.Word.{kept}
use Rattle.integer.proofs.Wrap.{in-range, double, pattern-sum, pattern-difference}

-- ---- over N

pub upper_is : (s : ℕ) (t : ℤ) → upper_half (s + 1) t ≡ shr_z t (2 ^ s)
unfolding upper_half
upper_is s t = rw (pow-add 2 s 1) (ap (λ (z : ℤ). shr_z z (2 ^ s * 2)) (*ℤ_comm (pos 2) t) ∙ shr-double t (2 ^ s))

-- above -P and at most P
abbrev pub HighIn : ℕ → ℤ → Type 0
HighIn P (pos k) = k ≤ P
HighIn P (negsuc k) = suc k < P

-- a product that is not negative, and one that is not positive
high-positive : (P x y : ℕ) → 0 < P → x ≤ P → y ≤ P → x * y / P ≤ P
high-positive P x y some h k = omega (arith, below-divided (x * y) (P + 1) P (omega (arith, mul-le-mul h k, add-mul P 1 P)))

high-negative : (P x y : ℕ) → 0 < P → x < P → y ≤ P → HighIn P (shr_z (neg_ℤ (pos (x * y))) P)
high-negative P x y some h k =
    let below : x ≤ P - 1 = omega arith in
    by_size (x * y) (mul-le-mul below k)
  where
    by_size : (n : ℕ) → n ≤ (P - 1) * P → HighIn P (shr_z (neg_ℤ (pos n)) P)
    by_size zero h = rw (zero-div P) (omega arith)
    by_size (suc n) h = omega (arith, below-divided n (P - 1) P (omega arith))

pub high-in : (P : ℕ) → 0 < P → (a b : ℤ) → mag a < P → mag b < P → HighIn P (shr_z (a *ℤ b) P)
high-in P some (pos a) (pos b) h k = high-positive P a b some (omega arith) (omega arith)
high-in P some (pos a) (negsuc b) h k = high-negative P a (suc b) some h k
high-in P some (negsuc a) (pos b) h k = subst (λ (n : ℕ). HighIn P (shr_z (neg_ℤ (pos n)) P)) (mul_comm b (suc a)) (high-negative P b (suc a) some k h)
high-in P some (negsuc a) (negsuc b) h k = high-positive P (suc a) (suc b) some h k

-- ---- its clamp, told by its bits: only what is one past the highest has the bits of the lowest

-- below every number but the lowest
abbrev pub is_lowest : ℕ → ℤ → Bool
is_lowest N x = lt_z x (neg_ℤ (pos (2 ^ (N - 1) - 1)))

-- Q is P - 1
not-lowest : (P Q : ℕ) → P ≡ Q + 1 → (h : ℤ) → HighIn P h → mag h < P → lt_z h (neg_ℤ (pos Q)) ≡ false
not-lowest P zero e (pos k) i l = le-ltb k 0 (omega arith)
not-lowest P (suc Q) e (pos k) i l = refl
not-lowest P zero e (negsuc k) i l = absurd (omega arith)
not-lowest P (suc Q) e (negsuc k) i l = le-ltb Q k (omega arith)

is-lowest : (P Q : ℕ) → P ≡ Q + 1 → lt_z (neg_ℤ (pos P)) (neg_ℤ (pos Q)) ≡ true
is-lowest zero Q e = absurd (omega arith)
is-lowest (suc P) zero e = refl
is-lowest (suc P) (suc Q) e = lt-ltb Q P (omega arith)

module _ (N : ℕ) (some : 0 < N) where
  whole : 2 ^ N ≡ 2 ^ (N - 1) * 2
  whole = double N some

  next : 2 ^ (N - 1) ≡ 2 ^ (N - 1) - 1 + 1
  next = omega (arith, pow_pos (N - 1))

  wrap-past : wrap N (pos (2 ^ (N - 1))) ≡ lowest N
  unfolding wrap signed pattern
  wrap-past =
      let p = pow_pos (N - 1) in
      rw (mod-eq_of_lt {n = 2 ^ (N - 1)} {m = 2 ^ N} (omega (arith, whole)), le-ltb (2 ^ (N - 1)) (2 ^ (N - 1)) (omega arith))
      (ap (λ (z : ℤ). z -ℤ pos (2 ^ N)) (pos-diff (2 ^ (N - 1))) ∙ minus_pos (2 ^ (N - 1)) 0 (2 ^ N)
      ∙ diff-eq (2 ^ (N - 1)) (0 + 2 ^ N) 0 (2 ^ (N - 1)) (omega (arith, whole)) ∙ sym (neg-diff (2 ^ (N - 1))))

  clamp-past : clamp N (pos (2 ^ (N - 1))) ≡ highest N
  unfolding clamp_to
  clamp-past = rw (past-low (2 ^ (N - 1)), lt-ltb (2 ^ (N - 1) - 1) (2 ^ (N - 1)) (omega (arith, pow_pos (N - 1))))
    where
      past-low : (P : ℕ) → lt_z (pos P) (neg_ℤ (pos P)) ≡ false
      past-low zero = refl
      past-low (suc P) = refl

  -- one past the highest, or inside
  split : (R : ℤ → Type 0) (h : ℤ) → HighIn (2 ^ (N - 1)) h → (mag h < 2 ^ (N - 1) → R h) → R (pos (2 ^ (N - 1))) → R h
  split R (pos k) i f g = by-test (ltb k (2 ^ (N - 1))) refl
    where
      by-test : (t : Bool) → ltb k (2 ^ (N - 1)) ≡ t → R (pos k)
      by-test true e = f (ltb-true k (2 ^ (N - 1)) e)
      by-test false e = subst (λ (n : ℕ). R (pos n)) (omega (arith, ltb-false k (2 ^ (N - 1)) e)) g
  split R (negsuc k) i f g = f (omega arith)

  pub topped : (h : ℤ) → HighIn (2 ^ (N - 1)) h → cond (is_lowest N (wrap N h)) (highest N) (wrap N h) ≡ clamp N h
  topped h i =
      split (λ h. cond (is_lowest N (wrap N h)) (highest N) (wrap N h) ≡ clamp N h) h i
      (λ l. rw (in-range N some h l, not-lowest (2 ^ (N - 1)) (2 ^ (N - 1) - 1) next h i l) (sym (clamp-inside N h l)))
      (rw (wrap-past, is-lowest (2 ^ (N - 1)) (2 ^ (N - 1) - 1) next) (sym clamp-past))

-- ---- what the code reads, of lanes a and b that fit

module _ (n : Width) (one_more : bits n ≡ hbits n + 1) {a b : ℤ} (f : SFits n a) (g : SFits n b) where
  high-shifted : upper_half (bits n) (a *ℤ b) ≡ shr_z (a *ℤ b) (2 ^ hbits n)
  high-shifted = rw one_more (upper_is (hbits n) (a *ℤ b))

  high-range : HighIn (2 ^ (bits n - 1)) (upper_half (bits n) (a *ℤ b))
  high-range = rw (high-shifted, half n) (high-in (2 ^ hbits n) (pow_pos (hbits n)) a b f.sfits g.sfits)

  pub high-of : {h : ℤ} → h ≡ upper_half (bits n) (to_z n (of_z n a) *ℤ to_z n (of_z n b)) → h ≡ upper_half (bits n) (a *ℤ b)
  high-of e = e ∙ simp (to_z-of_z f, to_z-of_z g)

  -- x has the bits of the upper half
  module _ {x : ℤ} (k : mag x < 2 ^ hbits n) (e : x ≡ wrap (bits n) (upper_half (bits n) (a *ℤ b))) where
    clamped : {t : Bool} → is_lowest (bits n) (to_z n (of_z n x)) ≡ t → cond t (highest (bits n)) x ≡ doubled_high (bits n) a b
    unfolding doubled_high
    clamped p =
        ap (λ (t : Bool). cond t (highest (bits n)) x) (sym p ∙ ap (is_lowest (bits n)) (kept n x k))
        ∙ ap (λ (z : ℤ). cond (is_lowest (bits n) z) (highest (bits n)) z) e
        ∙ topped (bits n) (omega (arith, one_more)) (upper_half (bits n) (a *ℤ b)) high-range

    pub topped-past : {v : ℤ} → is_lowest (bits n) (to_z n (of_z n x)) ≡ true → v ≡ highest (bits n) → v ≡ doubled_high (bits n) a b
    topped-past p q = q ∙ clamped p

    pub topped-kept : is_lowest (bits n) (to_z n (of_z n x)) ≡ false → to_z n (of_z n x) ≡ doubled_high (bits n) a b
    topped-kept p = kept n x k ∙ clamped p

-- in a width w of twice the bits
module _ {n w : Width} {q : ℕ} (r : Wide n w q) {a b : ℤ} (f : SFits n a) (g : SFits n b) where
  fits-high : SFits w (upper_half (bits n) (a *ℤ b))
  fits-high = rw (high-shifted n r.one_more f g) (record { sfits = lt_of_le_of_lt (mag_shr (a *ℤ b) (2 ^ hbits n)) (fits-exact r f g).sfits })

  pub read-high : {p : ℤ} → mag p < 2 ^ hbits w → p ≡ to_z n (of_z n a) *ℤ to_z n (of_z n b) → to_z w (of_z w (shr_z (to_z w (of_z w p)) (2 ^ hbits n))) ≡ upper_half (bits n) (a *ℤ b)
  read-high h e = rw (kept w _ h ∙ e, to_z-of_z f, to_z-of_z g, sym (high-shifted n r.one_more f g)) (to_z-of_z fits-high)

  -- the low bits of h, which is the upper half
  pub cut_high : {h x : ℤ} → mag h < 2 ^ hbits w → h ≡ upper_half (bits n) (to_z n (of_z n a) *ℤ to_z n (of_z n b)) → x ≡ wrap (bits n) (to_z w (of_z w h)) → x ≡ wrap (bits n) (upper_half (bits n) (a *ℤ b))
  cut_high k e p = p ∙ ap (wrap (bits n)) (kept w _ k ∙ high-of n r.one_more f g e)

-- ---- from factors without a sign: u and v are a and b with the bias 2^(N-1)

unbias : (K : ℕ) (a : ℤ) {u : ℕ} → pos u ≡ a +ℤ pos K → a ≡ diff u K
unbias K a {u} e = sym (ap (λ (z : ℤ). z -ℤ pos K) (sym (pos-diff u) ∙ e) ∙ +ℤ-neg_ℤ_cancel a (pos K)) ∙ minus_pos u 0 K ∙ diff-eq u (0 + K) u K (omega arith)

exact-high : (K : ℕ) → 0 < K → (a b : ℤ) {u v : ℕ} → pos u ≡ a +ℤ pos K → pos v ≡ b +ℤ pos K →
    shr_z (a *ℤ b) K ≡ pos (u * v / K) -ℤ pos u -ℤ pos v +ℤ pos K
exact-high K some a b {u} {v} eu ev =
    ap (λ (z : ℤ). shr_z z K)
    (ap₂ ◌*ℤ◌ (unbias K a eu) (unbias K b ev) ∙ diff-mul u K v K ∙ diff-eq (u * v + K * K) (u * K + K * v) (u * v + K * K) ((u + v) * K) (simp ring))
    ∙ diff-shr K some (u * v + K * K) (u + v) ∙ ap (λ (n : ℕ). diff n (u + v)) (add-mul-div_right (u * v) K some)
    ∙ sym (ap (λ (z : ℤ). z -ℤ pos u -ℤ pos v +ℤ pos K) (pos-diff (u * v / K))
    ∙ ap (λ (z : ℤ). z -ℤ pos v +ℤ pos K) (minus_pos (u * v / K) 0 u) ∙ ap (λ (z : ℤ). z +ℤ pos K) (minus_pos (u * v / K) (0 + u) v)
    ∙ add-pos (u * v / K) (0 + u + v) K ∙ diff-eq (u * v / K + K) (0 + u + v) (u * v / K + K) (u + v) (omega arith))

-- the steps of the code: d is the biased product divided by 2^(N-1), t and x what is left of it, r the bits of the upper half
pub biased-high : (s : ℕ) (a b : ℤ) {u v d t x r : ℕ} → pos u ≡ a +ℤ pos (2 ^ s) → pos v ≡ b +ℤ pos (2 ^ s) → u < 2 ^ (s + 1) → v < 2 ^ (s + 1) →
    d ≡ u * v / 2 ^ s % 2 ^ (s + 1) → t < 2 ^ (s + 1) → (t + u) % 2 ^ (s + 1) ≡ d → x < 2 ^ (s + 1) → (x + v) % 2 ^ (s + 1) ≡ t →
    r ≡ (x + 2 ^ s) % 2 ^ (s + 1) → r ≡ pattern (s + 1) (upper_half (s + 1) (a *ℤ b))
unfolding pattern
biased-high s a b {u} {v} {d} {t} {x} {r} eu ev hu hv ed ht et hx ex er =
    er ∙ ap₂ (λ (m n : ℕ). (m + n) % 2 ^ (s + 1)) third (sym (mod-eq_of_lt less)) ∙ pattern-sum (s + 1) (pos (u * v / 2 ^ s) -ℤ pos u -ℤ pos v) (pos (2 ^ s))
    ∙ ap (pattern (s + 1)) (sym (upper_is s (a *ℤ b) ∙ exact-high (2 ^ s) (pow_pos s) a b eu ev))
  where
    less : 2 ^ s < 2 ^ (s + 1)
    less = rw (pow-add 2 s 1) (omega (arith, pow_pos s))

    second : t ≡ pattern (s + 1) (pos (u * v / 2 ^ s) -ℤ pos u)
    second = pattern-difference (s + 1) (pos (u * v / 2 ^ s)) (pos u) t ht (ap (λ (n : ℕ). (t + n) % 2 ^ (s + 1)) (mod-eq_of_lt hu) ∙ et ∙ ed)

    third : x ≡ pattern (s + 1) (pos (u * v / 2 ^ s) -ℤ pos u -ℤ pos v)
    third = pattern-difference (s + 1) (pos (u * v / 2 ^ s) -ℤ pos u) (pos v) x hx (ap (λ (n : ℕ). (x + n) % 2 ^ (s + 1)) (mod-eq_of_lt hv) ∙ ex ∙ second)

-- a word with the bias
pub biased-word : (s : ℕ) (a : ℤ) → mag a < 2 ^ s → pos ((pattern (s + 1) a + 2 ^ s) % 2 ^ (s + 1)) ≡ a +ℤ pos (2 ^ s)
unfolding pattern
biased-word s (pos m) h = ap pos (ap (λ (n : ℕ). (n + 2 ^ s) % 2 ^ (s + 1)) (mod-eq_of_lt small) ∙ mod-eq_of_lt sum)
  where
    small : m < 2 ^ (s + 1)
    small = rw (pow-add 2 s 1) (omega arith)

    sum : m + 2 ^ s < 2 ^ (s + 1)
    sum = rw (pow-add 2 s 1) (omega arith)
biased-word s (negsuc m) h =
    ap pos (ap (λ (n : ℕ). (2 ^ (s + 1) - suc n + 2 ^ s) % 2 ^ (s + 1)) (mod-eq_of_lt small) ∙ ap (λ (n : ℕ). n % 2 ^ (s + 1)) apart ∙ add-mul-mod_self_right (2 ^ s - suc m) 1 (2 ^ (s + 1)) ∙ mod-eq_of_lt left)
    ∙ sym (ap (λ (z : ℤ). z +ℤ pos (2 ^ s)) (sym (is-neg 0 (suc m) m (omega arith))) ∙ add-pos 0 (suc m) (2 ^ s) ∙ is_pos (0 + 2 ^ s) (suc m) (2 ^ s - suc m) (omega arith))
  where
    twice : 2 ^ (s + 1) ≡ 2 ^ s * 2
    twice = pow-add 2 s 1

    small : m < 2 ^ (s + 1)
    small = omega (arith, twice)

    apart : 2 ^ (s + 1) - suc m + 2 ^ s ≡ 2 ^ s - suc m + 1 * 2 ^ (s + 1)
    apart = omega (arith, twice)

    left : 2 ^ s - suc m < 2 ^ (s + 1)
    left = omega (arith, twice)

-- the product of two words in its two words, divided by half a word
pub word-divided : (s hi lo : ℕ) → (hi * 2 ^ (s + 1) + lo) / 2 ^ s % 2 ^ (s + 1) ≡ (hi * 2 % 2 ^ (s + 1) + lo / 2 ^ s) % 2 ^ (s + 1)
word-divided s hi lo =
    ap (λ (n : ℕ). n % 2 ^ (s + 1)) (ap (λ (n : ℕ). (n + lo) / 2 ^ s) regroup ∙ mul-add-div_right (pow_pos s) (hi * 2) lo)
    ∙ sym (mod-add-mod (hi * 2) (2 ^ (s + 1)) (lo / 2 ^ s))
  where
    twice : (P : ℕ) → hi * (P * 2) ≡ hi * 2 * P
    twice P = simp ring

    regroup : hi * 2 ^ (s + 1) ≡ hi * 2 * 2 ^ s
    regroup = rw (pow-add 2 s 1) (twice (2 ^ s))
