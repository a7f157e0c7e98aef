-- An integer as the difference of two naturals, `diff a b`. Sums, products, orders, ranges, division rounding down and remainders of differences
-- are differences again, with the natural numbers' operations. So a fact about integers becomes one about naturals, which `omega` proves.
-- Assumes nothing.
use mathlib.Core.Path.{◌≡◌, refl, sym, ap, ◌∙◌, subst}
use mathlib.Core.Bool.{Bool, true, false, not, cond}
use Prim.Native.Nat.{ℕ, zero, suc, ◌+◌, ◌-◌, ◌*◌, ◌/◌, ◌%◌, ◌≤◌, ◌<◌}
use native.Mathlib.Nat.{add_comm, add_assoc, add_left_comm, mul_comm, mul_assoc, mul_left_comm, mul-add, add-mul, add-mul-div_right, mod-lt, div-add-mod', one-mul, mul-one, div-mul-le_self, lt-div-mul-add, div-eq_of_lt-le, lt_of_mul-lt-mul_right, mul-add-mod_self_right, mul-le-mul, mul-le-mul_left, mul-div-mul_right, div-div-eq-div-mul}
use native.Mathlib.Numerals.{add-one}
use Rattle.integer.specs.Number.{mod_z}
use native.Mathlib.Omega.{arith}
use lib.Dec.{lit<, T, ltb, ltb→lt, nltb→le}
use lib.IntN.{ℤ, pos, negsuc, neg_ℤ, nat_abs, sub_ℕ, ◌+ℤ◌, ◌-ℤ◌, ◌*ℤ◌}
use lib.Signed.{lt_z, shr_z, mag}
use borrow.Author.Tests.{lt-ltb, le-ltb}

-- a - b. Shut, so that `simp` sees it
unfoldable pub diff : ℕ → ℕ → ℤ
diff a b = sub_ℕ a b

cond_ind : (c : Bool) (x y : ℤ) (P : ℤ → Type 0) → (T c → P x) → (T (not c) → P y) → P (cond c x y)
cond_ind true x y P f g = f tt
cond_ind false x y P f g = g tt

-- a property of every difference, by its sign
pub sub-ind : (P : ℤ → Type 0) (a b : ℕ) → ((x : ℕ) → a ≡ b + x → P (pos x)) → ((x : ℕ) → b ≡ a + (x + 1) → P (negsuc x)) → P (diff a b)
unfolding diff
sub-ind P a b f g =
    cond_ind (ltb a b) (negsuc (b - suc a)) (pos (a - b)) P
    (λ t. g (b - suc a) (below a b (ltb→lt a b t)))
    (λ t. f (a - b) (above a b (nltb→le a b t)))
  where
    below : (a b : ℕ) → a < b → b ≡ a + (b - suc a + 1)
    below a b h = omega arith

    above : (a b : ℕ) → b ≤ a → a ≡ b + (a - b)
    above a b h = omega arith

sub-neg : (a b : ℕ) → a < b → diff a b ≡ negsuc (b - suc a)
unfolding diff
sub-neg a b h = rw (lt-ltb a b h)

sub-pos : (a b : ℕ) → b ≤ a → diff a b ≡ pos (a - b)
unfolding diff
sub-pos a b h = rw (le-ltb a b h)

-- a difference that is x, or -(x + 1)
pub is_pos : (a b x : ℕ) → a ≡ b + x → diff a b ≡ pos x
is_pos a b x e = sub-pos a b (omega arith) ∙ ap pos (omega arith)

pub is-neg : (a b x : ℕ) → b ≡ a + (x + 1) → diff a b ≡ negsuc x
is-neg a b x e = sub-neg a b (omega arith) ∙ ap negsuc (omega arith)

-- every integer is one
abbrev pub plus : ℤ → ℕ
plus (pos n) = n
plus (negsuc n) = 0

abbrev pub minus : ℤ → ℕ
minus (pos n) = 0
minus (negsuc n) = suc n

pub as-diff : (z : ℤ) → z ≡ diff (plus z) (minus z)
as-diff (pos n) = sym (is_pos n 0 n (omega arith))
as-diff (negsuc n) = sym (is-neg 0 (suc n) n (omega arith))

-- the two parts' ranges
pub range-plus : (z : ℤ) {H : ℕ} → mag z < H → plus z < H
range-plus (pos n) h = h
range-plus (negsuc n) h = omega arith

pub range-minus : (z : ℤ) {H : ℕ} → mag z < H → minus z ≤ H
range-minus (pos n) h = omega arith
range-minus (negsuc n) h = h

pub abs-plus : (z : ℤ) → plus z ≤ nat_abs z
abs-plus (pos n) = omega arith
abs-plus (negsuc n) = omega arith

pub abs-minus : (z : ℤ) → minus z ≤ nat_abs z
abs-minus (pos n) = omega arith
abs-minus (negsuc n) = omega arith

-- two differences are equal
pub diff-eq : (a b c d : ℕ) → a + d ≡ c + b → diff a b ≡ diff c d
diff-eq a b c d e =
    sub-ind (λ z. z ≡ diff c d) a b
    (λ x p. sym (is_pos c d x (omega arith)))
    (λ x p. sym (is-neg c d x (omega arith)))

pub diff-add : (a b c d : ℕ) → diff a b +ℤ diff c d ≡ diff (a + c) (b + d)
unfolding diff
diff-add a b c d =
    sub-ind (λ z. z +ℤ diff c d ≡ diff (a + c) (b + d)) a b
    (λ x p. sub-ind (λ z. pos x +ℤ z ≡ diff (a + c) (b + d)) c d
    (λ y q. sym (is_pos (a + c) (b + d) (x + y) (omega arith)))
    (λ y q. diff-eq x (suc y) (a + c) (b + d) (omega arith)))
    (λ x p. sub-ind (λ z. negsuc x +ℤ z ≡ diff (a + c) (b + d)) c d
    (λ y q. diff-eq y (suc x) (a + c) (b + d) (omega arith))
    (λ y q. sym (is-neg (a + c) (b + d) (suc (x + y)) (omega arith))))

pub diff-neg : (a b : ℕ) → neg_ℤ (diff a b) ≡ diff b a
diff-neg a b =
    sub-ind (λ z. neg_ℤ z ≡ diff b a) a b
    (λ x p. neg-pos x p)
    (λ x p. sym (is_pos b a (suc x) (omega arith)))
  where
    neg-pos : (x : ℕ) → a ≡ b + x → neg_ℤ (pos x) ≡ diff b a
    neg-pos zero p = sym (is_pos b a 0 (omega arith))
    neg-pos (suc x) p = sym (is-neg b a x (omega arith))

pub diff-sub : (a b c d : ℕ) → diff a b -ℤ diff c d ≡ diff (a + d) (b + c)
diff-sub a b c d = ap (λ (z : ℤ). diff a b +ℤ z) (diff-neg c d) ∙ diff-add a b d c

-- two tests that agree
pub same_test : (x y v w : ℕ) → (x < y → v < w) → (y ≤ x → w ≤ v) → ltb x y ≡ ltb v w
same_test x y v w f g = by-test (ltb x y) refl
  where
    by-test : (t : Bool) → ltb x y ≡ t → ltb x y ≡ ltb v w
    by-test true e = e ∙ sym (lt-ltb v w (f (ltb→lt x y (subst T (sym e) tt))))
    by-test false e = e ∙ sym (le-ltb v w (g (nltb→le x y (subst (λ (t : Bool). T (not t)) (sym e) tt))))

-- a comparison
pub diff-lt : (a b c d : ℕ) → lt_z (diff a b) (diff c d) ≡ ltb (a + d) (c + b)
diff-lt a b c d =
    sub-ind (λ z. lt_z z (diff c d) ≡ ltb (a + d) (c + b)) a b
    (λ x p. sub-ind (λ z. lt_z (pos x) z ≡ ltb (a + d) (c + b)) c d
    (λ y q. same_test x y (a + d) (c + b) (omega arith) (omega arith))
    (λ y q. sym (le-ltb (a + d) (c + b) (omega arith))))
    (λ x p. sub-ind (λ z. lt_z (negsuc x) z ≡ ltb (a + d) (c + b)) c d
    (λ y q. sym (lt-ltb (a + d) (c + b) (omega arith)))
    (λ y q. same_test y x (a + d) (c + b) (omega arith) (omega arith)))

-- a range: from -H to H - 1
pub diff-mag : (a b H : ℕ) → a < b + H → b ≤ a + H → mag (diff a b) < H
diff-mag a b H h k =
    sub-ind (λ z. mag z < H) a b (λ x p. omega arith) (λ x p. omega arith)

pub neg-diff : (y : ℕ) → neg_ℤ (pos y) ≡ diff 0 y
neg-diff y = ap neg_ℤ (as-diff (pos y)) ∙ diff-neg y 0

pub neg_is : (y a b : ℕ) → b ≡ a + y → neg_ℤ (pos y) ≡ diff a b
neg_is y a b e = neg-diff y ∙ diff-eq 0 y a b (omega arith)

pub ruleset ring = (mul-add, add-mul, mul_assoc, mul_comm, mul_left_comm, add_assoc, add_comm, add_left_comm, one-mul, mul-one)

-- a multiple
pub diff-scale : (a b m : ℕ) → diff a b *ℤ pos m ≡ diff (a * m) (b * m)
diff-scale a b m =
    sub-ind (λ z. z *ℤ pos m ≡ diff (a * m) (b * m)) a b
    (λ x p. sym (is_pos (a * m) (b * m) (x * m) (ap (λ (n : ℕ). n * m) p ∙ add-mul b x m)))
    (λ x p. neg_is (suc x * m) (a * m) (b * m) (ap (λ (n : ℕ). n * m) p ∙ add-mul a (x + 1) m ∙ ap (λ (n : ℕ). a * m + n * m) (omega arith)))

-- division rounding down and the remainder, where a multiple of the divisor is taken off
module _ (m : ℕ) (h : zero < m) where
  -- what is missing to a multiple: a + (x + 1) = k * m
  quotients : (a x k : ℕ) → k * m ≡ a + (x + 1) → k ≡ a / m + (x / m + 1)
  quotients a x k p = with-quotient (x / m) (div-mul-le_self x m) (lt-div-mul-add h)
    where
      with-quotient : (q : ℕ) → q * m ≤ x → x < q * m + m → k ≡ a / m + (q + 1)
      with-quotient q lo hi = finish (k - (q + 1)) (omega (arith, lt_of_mul-lt-mul_right m {m = q} {n = k} (omega arith)))
        where
          finish : (j : ℕ) → k ≡ j + (q + 1) → k ≡ a / m + (q + 1)
          finish j e =
              let km : k * m ≡ j * m + (q * m + m) = ap (λ (n : ℕ). n * m) e ∙ simp (add-mul, one-mul) in
              e ∙ ap (λ (n : ℕ). n + (q + 1)) (sym (div-eq_of_lt-le m {m = a} (omega arith) (simp (add-mul, one-mul) (omega arith))))

  pub diff-shr : (a k : ℕ) → shr_z (diff a (k * m)) m ≡ diff (a / m) k
  diff-shr a k =
      sub-ind (λ z. shr_z z m ≡ diff (a / m) k) a (k * m)
      (λ x p. sym (is_pos (a / m) k (x / m) (ap (λ (n : ℕ). n / m) (p ∙ add_comm (k * m) x) ∙ add-mul-div_right x k h ∙ add_comm (x / m) k)))
      (λ x p. sym (is-neg (a / m) k (x / m) (quotients a x k p)))

  pub diff-mod : (a k : ℕ) → mod_z (diff a (k * m)) m ≡ a % m
  diff-mod a k =
      sub-ind (λ z. mod_z z m ≡ a % m) a (k * m)
      (λ x p. sym (ap (λ (n : ℕ). n % m) p ∙ mul-add-mod_self_right k m x))
      (λ x p. rest x p)
    where
      rest : (x : ℕ) → k * m ≡ a + (x + 1) → m - suc (x % m) ≡ a % m
      rest x p =
          let e : k * m ≡ a / m * m + (x / m * m + m) = ap (λ (n : ℕ). n * m) (quotients a x k p) ∙ simp (add-mul, one-mul) in
          omega (arith, div-add-mod' a m, div-add-mod' x m, mod-lt x h)

-- a plain number beside a difference
pub add-pos : (a b n : ℕ) → diff a b +ℤ pos n ≡ diff (a + n) b
add-pos a b n = ap (λ (z : ℤ). diff a b +ℤ z) (as-diff (pos n)) ∙ diff-add a b n 0 ∙ diff-eq (a + n) (b + 0) (a + n) b (omega arith)

pub minus_pos : (a b n : ℕ) → diff a b -ℤ pos n ≡ diff a (b + n)
minus_pos a b n = ap (λ (z : ℤ). diff a b -ℤ z) (as-diff (pos n)) ∙ diff-sub a b n 0 ∙ diff-eq (a + 0) (b + n) a (b + n) (omega arith)

pub zero_minus : (n : ℕ) → pos 0 -ℤ pos n ≡ diff 0 n
zero_minus n = ap (λ (z : ℤ). z -ℤ pos n) (as-diff (pos 0)) ∙ minus_pos 0 0 n ∙ diff-eq 0 (0 + n) 0 n (omega arith)

pub pos-diff : (n : ℕ) → pos n ≡ diff n 0
pos-diff n = as-diff (pos n)

-- every integer, as a difference
pub all : (P : ℤ → Type 0) → ((a b : ℕ) → P (diff a b)) → (z : ℤ) → P z
all P f z = subst P (sym (as-diff z)) (f (plus z) (minus z))

-- the product
pub diff-mul : (a b c d : ℕ) → diff a b *ℤ diff c d ≡ diff (a * c + b * d) (a * d + b * c)
diff-mul a b c d =
    sub-ind (λ z. z *ℤ diff c d ≡ diff (a * c + b * d) (a * d + b * c)) a b
    (λ x p. sub-ind (λ z. pos x *ℤ z ≡ diff (a * c + b * d) (a * d + b * c)) c d
    (λ y q. sym (is_pos (a * c + b * d) (a * d + b * c) (x * y) (rw (p, q) (simp ring))))
    (λ y q. neg_is (x * suc y) (a * c + b * d) (a * d + b * c) (rw (p, q, ← add-one y) (simp ring))))
    (λ x p. sub-ind (λ z. negsuc x *ℤ z ≡ diff (a * c + b * d) (a * d + b * c)) c d
    (λ y q. neg_is (suc x * y) (a * c + b * d) (a * d + b * c) (rw (p, q, ← add-one x) (simp ring)))
    (λ y q. sym (is_pos (a * c + b * d) (a * d + b * c) (suc x * suc y) (rw (p, q, ← add-one x, ← add-one y) (simp ring)))))

-- twice a number by twice the divisor
pub shr-double : (z : ℤ) (m : ℕ) → shr_z (z *ℤ pos 2) (m * 2) ≡ shr_z z m
shr-double (pos x) m = ap pos (mul-div-mul_right x m (lit< tt))
shr-double (negsuc x) m = ap (λ (z : ℤ). shr_z z (m * 2)) (neg_is (suc x * 2) 0 (x * 2 + 1 + 1) (omega arith) ∙ is-neg 0 (x * 2 + 1 + 1) (x * 2 + 1) (omega arith)) ∙ ap negsuc (ap (λ (n : ℕ). (x * 2 + 1) / n) (mul_comm m 2) ∙ sym (div-div-eq-div-mul (x * 2 + 1) 2 m) ∙ ap (λ (n : ℕ). n / m) (omega arith))

pub ruleset diffs = (diff-scale, diff-mul, diff-add, diff-sub, add-pos)

-- sizes
abs_neg : (n : ℕ) → nat_abs (neg_ℤ (pos n)) ≡ n
abs_neg zero = refl
abs_neg (suc n) = refl

pub abs-mul : (a b : ℤ) → nat_abs (a *ℤ b) ≡ nat_abs a * nat_abs b
abs-mul (pos a) (pos b) = refl
abs-mul (pos a) (negsuc b) = abs_neg (a * suc b)
abs-mul (negsuc a) (pos b) = abs_neg (suc a * b)
abs-mul (negsuc a) (negsuc b) = refl

pub mag-abs : (z : ℤ) → mag z ≤ nat_abs z
mag-abs (pos n) = omega arith
mag-abs (negsuc n) = omega arith

pub product-abs : (a b : ℤ) {A B : ℕ} → nat_abs a ≤ A → nat_abs b ≤ B → nat_abs (a *ℤ b) ≤ A * B
product-abs a b h k = rw (abs-mul a b) (mul-le-mul h k)

-- every integer, as a difference in which a multiple of m is taken off
pub all-multiple : (m : ℕ) → zero < m → (P : ℤ → Type 0) → ((u k : ℕ) → P (diff u (k * m))) → (z : ℤ) → P z
all-multiple m h P f =
    all P (λ a b. subst P (sym (diff-eq a b (a + (b * m - b)) (b * m) (omega (arith, more b)))) (f (a + (b * m - b)) b))
  where
    more : (b : ℕ) → b ≤ b * m
    more b = subst (λ (n : ℕ). n ≤ b * m) (mul-one b) (mul-le-mul_left b h)

pub diff-abs : (a b B : ℕ) → nat_abs (diff a b) ≤ B → (a ≤ b + B) × (b ≤ a + B)
diff-abs a b B =
    sub-ind (λ z. nat_abs z ≤ B → (a ≤ b + B) × (b ≤ a + B)) a b (λ x p q. omega arith) (λ x p q. omega arith)

pub diff-range : (a b H : ℕ) → mag (diff a b) < H → (a < b + H) × (b ≤ a + H)
diff-range a b H =
    sub-ind (λ z. mag z < H → (a < b + H) × (b ≤ a + H)) a b (λ x p q. omega arith) (λ x p q. omega arith)

pub neg-scale : (x y h : ℕ) → diff x y *ℤ neg_ℤ (pos h) ≡ diff (y * h) (x * h)
neg-scale x y h =
    ap (λ (z : ℤ). diff x y *ℤ z) (neg-diff h) ∙ diff-mul x y 0 h
    ∙ diff-eq (x * 0 + y * h) (x * h + y * 0) (y * h) (x * h) (omega arith)
