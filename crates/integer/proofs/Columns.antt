-- Products by the digits of their factors, in any base P: what 32 bits from 16 and 64 bits from 32 both cite.
-- Assumes nothing.
use mathlib.Core.Path.{◌≡◌, refl, sym, ap, ap₂, ◌∙◌}
use Prim.Native.Nat.{ℕ, ◌+◌, ◌*◌, ◌/◌, ◌%◌, ◌≤◌, ◌<◌}
use native.Mathlib.Nat.{div-add-mod', add-mul, mul_assoc, mul_comm, mul-le-mul, mod-lt}
use native.Mathlib.Omega.{arith}
use lib.Arith.{digits_lt, digits_div, digits_mod}
use Rattle.integer.proofs.Difference.{ring}

-- by the second factor's digits, and by the first's
pub by_right : (P a b : ℕ) → a * (b % P) + a * (b / P) * P ≡ a * b
by_right P a b =
    expanded (b / P) (b % P) ∙ ap (λ (n : ℕ). a * n) (div-add-mod' b P)
  where
    expanded : (q r : ℕ) → a * r + a * q * P ≡ a * (q * P + r)
    expanded q r = simp ring

pub by_left : (P a b : ℕ) → a % P * b + a / P * b * P ≡ a * b
by_left P a b =
    ap₂ (λ (m n : ℕ). m + n * P) (mul_comm (a % P) b) (mul_comm (a / P) b) ∙ by_right P b a ∙ mul_comm b a

-- how large it is
pub within : {r a b : ℕ} (m n : ℕ) → a ≤ m → b ≤ n → r ≡ a * b → (r ≡ a * b) × (r ≤ m * n)
within m n h k e = (e, rw e (mul-le-mul h k))

-- by both factors' digits
by-halves : (P u v : ℕ) → u * v ≡ u / P * (v / P) * (P * P) + u / P * (v % P) * P + u % P * (v / P) * P + u % P * (v % P)
by-halves P u v =
    sym (ap₂ (λ (m n : ℕ). m + n * P) (by_right P (u % P) v) (by_right P (u / P) v) ∙ by_left P u v)
    ∙ sorted (u % P * (v % P)) (u % P * (v / P)) (u / P * (v % P)) (u / P * (v / P))
  where
    sorted : (w y x z : ℕ) → w + y * P + (x + z * P) * P ≡ z * (P * P) + x * P + y * P + w
    sorted w y x z = simp ring

-- the columns with their carries
carried : (P w x y z q₀ r₀ q r q₁ r₁ : ℕ) → w ≡ q₀ * P + r₀ → x + q₀ ≡ q * P + r → y + r ≡ q₁ * P + r₁ → (z + q + q₁) * (P * P) + (r₁ * P + r₀) ≡ z * (P * P) + x * P + y * P + w
carried P w x y z q₀ r₀ q r q₁ r₁ e₀ e e₁ =
    let f : x * P + q₀ * P ≡ q * (P * P) + r * P = simp (add-mul, mul_assoc) at (ap (λ (n : ℕ). n * P) e) in
    let g : y * P + r * P ≡ q₁ * (P * P) + r₁ * P = simp (add-mul, mul_assoc) at (ap (λ (n : ℕ). n * P) e₁) in
    simp add-mul (omega arith)

-- the two words that the products of the halves make
abbrev pub upper : ℕ → ℕ → ℕ → ℕ → ℕ → ℕ
upper P w x y z = z + (x + w / P) / P + (y + (x + w / P) % P) / P

abbrev pub lower : ℕ → ℕ → ℕ → ℕ → ℕ
lower P w x y = (y + (x + w / P) % P) % P * P + w % P

assembled : (P w x y z : ℕ) → upper P w x y z * (P * P) + lower P w x y ≡ z * (P * P) + x * P + y * P + w
assembled P w x y z =
    carried P w x y z (w / P) (w % P) ((x + w / P) / P) ((x + w / P) % P) ((y + (x + w / P) % P) / P) ((y + (x + w / P) % P) % P)
    (sym (div-add-mod' w P)) (sym (div-add-mod' (x + w / P) P)) (sym (div-add-mod' (y + (x + w / P) % P) P))

module _ (P : ℕ) (some : 0 < P) (u v : ℕ) {w x y : ℕ} (ew : w ≡ u % P * (v % P)) (ex : x ≡ u / P * (v % P)) (ey : y ≡ u % P * (v / P)) where
  below : lower P w x y < P * P
  below = digits_lt (mod-lt (y + (x + w / P) % P) some) (mod-lt w some)

  whole : {z : ℕ} → z ≡ u / P * (v / P) → upper P w x y z * (P * P) + lower P w x y ≡ u * v
  whole {z} ez = assembled P w x y z ∙ cc (by-halves P u v)

  pub upper_is : {z : ℕ} → z ≡ u / P * (v / P) → upper P w x y z ≡ u * v / (P * P)
  upper_is {z} ez = sym (digits_div (upper P w x y z) below) ∙ ap (λ (n : ℕ). n / (P * P)) (whole ez)

  pub lower-is : lower P w x y ≡ u * v % (P * P)
  lower-is = sym (digits_mod (upper P w x y (u / P * (v / P))) below) ∙ ap (λ (n : ℕ). n % (P * P)) (whole refl)
