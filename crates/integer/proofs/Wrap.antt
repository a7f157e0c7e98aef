-- The laws of wrapping, over the width.
-- Assumes nothing.
use mathlib.Core.Path.{◌≡◌, sym, ap, ◌∙◌}
use mathlib.Core.Bool.{Bool, true, false, cond}
use Prim.Native.Nat.{ℕ, zero, suc, ◌+◌, ◌-◌, ◌*◌, ◌/◌, ◌%◌, ◌^◌, ◌≤◌, ◌<◌}
use native.Mathlib.Nat.{add-mul, one-mul, mod-lt, div-add-mod', add-mod, mod-add-mod, mod-eq_of_lt, add-mul-mod_self_right, pow-suc, zero-div}
use native.Mathlib.Omega.{arith}
use borrow.Author.Tests.{lt-ltb, le-ltb}
use lib.Arith.{digits_mod}
use lib.Dec.{ltb}
use lib.IntN.{ℤ, pos, negsuc, ◌+ℤ◌, ◌-ℤ◌, ◌*ℤ◌, -ℤ-+ℤ_cancel}
use lib.Pow.{pow_pos}
use lib.Signed.{mag}
use Rattle.integer.specs.Number.{signed, pattern, wrap, mod_z, signed_by, clamp, byte_of, digit}
use Rattle.integer.specs.Lane.{wrapped}
use Rattle.integer.proofs.Difference.{diff, diff-eq, diff-mod, diff-add, diff-mul, all-multiple, is-neg, pos-diff, minus_pos, ring}
use Rattle.integer.proofs.Round.{clamp-mag}

-- ---- remainders of sums, differences and products
pub mul-mod : (m u v : ℕ) → u * v % m ≡ u % m * (v % m) % m
mul-mod m u v =
    ap (λ (n : ℕ). n % m)
    (ap (λ (n : ℕ). n * v) (sym (div-add-mod' u m)) ∙ ap (λ (n : ℕ). (u / m * m + u % m) * n) (sym (div-add-mod' v m))
    ∙ regroup (u / m) (u % m) (v / m) (v % m))
    ∙ add-mul-mod_self_right (u % m * (v % m)) (u / m * (v / m) * m + u / m * (v % m) + u % m * (v / m)) m
  where
    regroup : (a₁ a₀ b₁ b₀ : ℕ) → (a₁ * m + a₀) * (b₁ * m + b₀) ≡ a₀ * b₀ + (a₁ * b₁ * m + a₁ * b₀ + a₀ * b₁) * m
    regroup a₁ a₀ b₁ b₀ = simp ring

module _ (m : ℕ) (h : 0 < m) where
  pub mod_below : (z : ℤ) → mod_z z m < m
  mod_below = all-multiple m h (λ z. mod_z z m < m) (λ u k. rw (diff-mod m h u k) (mod-lt u h))

  pub mod-sum : (x y : ℤ) → mod_z (x +ℤ y) m ≡ (mod_z x m + mod_z y m) % m
  mod-sum x y =
      all-multiple m h (λ x. mod_z (x +ℤ y) m ≡ (mod_z x m + mod_z y m) % m)
      (λ u k. all-multiple m h (λ y. mod_z (diff u (k * m) +ℤ y) m ≡ (mod_z (diff u (k * m)) m + mod_z y m) % m)
      (λ v l. rw (diff-mod m h u k, diff-mod m h v l, diff-add u (k * m) v (l * m), sym (add-mul k l m), diff-mod m h (u + v) (k + l)) (add-mod u v m)) y) x

  pub mod-product : (x y : ℤ) → mod_z (x *ℤ y) m ≡ mod_z x m * mod_z y m % m
  mod-product x y =
      all-multiple m h (λ x. mod_z (x *ℤ y) m ≡ mod_z x m * mod_z y m % m)
      (λ u k. all-multiple m h (λ y. mod_z (diff u (k * m) *ℤ y) m ≡ mod_z (diff u (k * m)) m * mod_z y m % m)
      (λ v l. rw (diff-mod m h u k, diff-mod m h v l, diff-mul u (k * m) v (l * m), grouped u v k l, diff-mod m h (u * v + k * l * m * m) (u * l + v * k)) (off u v k l)) y) x
    where
      grouped : (u v k l : ℕ) → diff (u * v + k * m * (l * m)) (u * (l * m) + k * m * v) ≡ diff (u * v + k * l * m * m) ((u * l + v * k) * m)
      grouped u v k l = diff-eq (u * v + k * m * (l * m)) (u * (l * m) + k * m * v) (u * v + k * l * m * m) ((u * l + v * k) * m) (simp ring)

      off : (u v k l : ℕ) → (u * v + k * l * m * m) % m ≡ u % m * (v % m) % m
      off u v k l = add-mul-mod_self_right (u * v) (k * l * m) m ∙ mul-mod m u v

  -- the difference: what y added to wraps back to x
  pub mod-difference : (x y : ℤ) → (mod_z (x -ℤ y) m + mod_z y m) % m ≡ mod_z x m
  mod-difference x y = sym (mod-sum (x -ℤ y) y) ∙ ap (λ (z : ℤ). mod_z z m) (-ℤ-+ℤ_cancel x y)

  -- a remainder is settled by what it is with another number added
  pub settled : (r t y : ℕ) → r < m → t < m → (r + y) % m ≡ (t + y) % m → r ≡ t
  settled r t y p q e =
      sym (back r p) ∙ ap (λ (n : ℕ). (n + (m - y % m)) % m) e ∙ back t q
    where
      whole : (r : ℕ) → r + y + (m - y % m) ≡ r + (y / m + 1) * m
      whole r = simp (add-mul, one-mul) (omega (arith, div-add-mod' y m, mod-lt y h))

      back : (r : ℕ) → r < m → ((r + y) % m + (m - y % m)) % m ≡ r
      back r p = mod-add-mod (r + y) m (m - y % m) ∙ ap (λ (n : ℕ). n % m) (whole r) ∙ add-mul-mod_self_right r (y / m + 1) m ∙ mod-eq_of_lt p

-- what is added matters only by its bits
pub wrapped_same : (N : ℕ) (minus : Bool) (c x y : ℤ) → pattern N x ≡ pattern N y → wrapped N c (signed_by minus x) ≡ wrapped N c (signed_by minus y)
unfolding wrap pattern wrapped
wrapped_same N true c x y e =
    ap (signed N)
    (settled (2 ^ N) (pow_pos N) (mod_z (c -ℤ x) (2 ^ N)) (mod_z (c -ℤ y) (2 ^ N)) (mod_z x (2 ^ N)) (mod_below (2 ^ N) (pow_pos N) (c -ℤ x)) (mod_below (2 ^ N) (pow_pos N) (c -ℤ y))
    (mod-difference (2 ^ N) (pow_pos N) c x ∙ sym (ap (λ (n : ℕ). (mod_z (c -ℤ y) (2 ^ N) + n) % 2 ^ N) e ∙ mod-difference (2 ^ N) (pow_pos N) c y)))
wrapped_same N false c x y e =
    ap (signed N) (mod-sum (2 ^ N) (pow_pos N) c x ∙ ap (λ (n : ℕ). (mod_z c (2 ^ N) + n) % 2 ^ N) e ∙ sym (mod-sum (2 ^ N) (pow_pos N) c y))

-- the bits of a sum, of a difference and of a product
pub pattern-sum : (N : ℕ) (x y : ℤ) → (pattern N x + pattern N y) % 2 ^ N ≡ pattern N (x +ℤ y)
unfolding pattern
pattern-sum N x y = sym (mod-sum (2 ^ N) (pow_pos N) x y)

pub pattern-difference : (N : ℕ) (x y : ℤ) (r : ℕ) → r < 2 ^ N → (r + pattern N y) % 2 ^ N ≡ pattern N x → r ≡ pattern N (x -ℤ y)
unfolding pattern
pattern-difference N x y r h e =
    settled (2 ^ N) (pow_pos N) r (mod_z (x -ℤ y) (2 ^ N)) (mod_z y (2 ^ N)) h (mod_below (2 ^ N) (pow_pos N) (x -ℤ y))
    (e ∙ sym (mod-difference (2 ^ N) (pow_pos N) x y))

pub pattern-product : (N : ℕ) (x y : ℤ) (hi lo : ℕ) → lo < 2 ^ N → hi * 2 ^ N + lo ≡ pattern N x * pattern N y → pattern N (x *ℤ y) ≡ lo
unfolding pattern
pattern-product N x y hi lo h e = mod-product (2 ^ N) (pow_pos N) x y ∙ ap (λ (n : ℕ). n % 2 ^ N) (sym e) ∙ digits_mod hi h

-- ---- a number in the range of N bits is kept

-- half the range, and the whole
keep-pos : (half whole a : ℕ) → whole ≡ half * 2 → a < half → cond (ltb (a % whole) half) (pos (a % whole)) (pos (a % whole) -ℤ pos whole) ≡ pos a
keep-pos half whole a w h =
    let small : a < whole = omega arith in
    rw (mod-eq_of_lt {n = a} {m = whole} small, lt-ltb a half h)

keep-neg : (half whole a : ℕ) → whole ≡ half * 2 → a < half → cond (ltb (whole - suc (a % whole)) half) (pos (whole - suc (a % whole))) (pos (whole - suc (a % whole)) -ℤ pos whole) ≡ negsuc a
keep-neg half whole a w h =
    let small : a < whole = omega arith in
    let large : half ≤ whole - suc a = omega arith in
    let down : pos (whole - suc a) ≡ diff (whole - suc a) 0 = pos-diff (whole - suc a) in
    rw (mod-eq_of_lt {n = a} {m = whole} small, le-ltb (whole - suc a) half large)
    (ap (λ (z : ℤ). z -ℤ pos whole) down ∙ minus_pos (whole - suc a) 0 whole ∙ is-neg (whole - suc a) (0 + whole) a (omega arith))

pub double : (N : ℕ) → 0 < N → 2 ^ N ≡ 2 ^ (N - 1) * 2
double zero h = absurd (omega arith)
double (suc N) h = pow-suc 2 N ∙ ap (λ n. 2 ^ n * 2) (omega arith)

pub in-range : (N : ℕ) → 0 < N → (v : ℤ) → mag v < 2 ^ (N - 1) → wrap N v ≡ v
unfolding wrap signed pattern
in-range N some (pos a) h = keep-pos (2 ^ (N - 1)) (2 ^ N) a (double N some) h
in-range N some (negsuc a) h = keep-neg (2 ^ (N - 1)) (2 ^ N) a (double N some) h

-- a clamped number is read back as it was written
pub wrap-clamp : (N : ℕ) → 0 < N → (v : ℤ) → wrap N (clamp N v) ≡ clamp N v
wrap-clamp N some v = in-range N some (clamp N v) (clamp-mag N v)

-- the bytes of zero
pub byte-zero : (N j : ℕ) → byte_of N (pos 0) j ≡ 0
unfolding byte_of pattern digit
byte-zero N j = rw (mod-eq_of_lt (pow_pos N)) (ap (λ (n : ℕ). n % 256) (zero-div (256 ^ j)))
