-- The sum of a number of 64 bits and the high half of a product of two words, in halves that fit a word.
-- Assumes nothing.
use Rattle.std.proofs.Common.{◌≡◌, ℕ, zero, suc, ◌+◌, ◌*◌, ◌/◌, ◌%◌, ◌^◌, ◌<◌, ◌≤◌, true, false, ltb, ℤ, pos, negsuc, ◌+ℤ◌, ◌-ℤ◌, ◌*ℤ◌, nat_abs, sym, refl, ap, ◌∙◌, add-mul, lt_of_mul-lt-mul_right, one-mul, le_of_mul-le-mul_right, arith, lit<, ltb-false, ltb-true, le-ltb}
use lib.Signed.{shr_z, lt_z, mag}
use Rattle.integer.specs.Number.{mod_z, rounded, lowest, highest}
use Rattle.kernel.specs.Wide.{wide_of, sum_high}
use Rattle.integer.proofs.Difference.{diff, diffs, diff-eq, diff-shr, diff-mod, diff-mag, diff-abs, diff-range, diff-scale, diff-sub, diff-add, add-pos, all, all-multiple, is_pos, is-neg, diff-lt, same_test, pos-diff}
use Rattle.kernel.proofs.TwoWords.{wide-diff}
use Rattle.integer.proofs.Round.{round-halved}

-- ---- the low bit of c
pub bit-first : (c : ℤ) → mag c < 2 ^ 63 → mag (c -ℤ shr_z c 2) < 2 ^ 63
bit-first = all-multiple 2 (lit< tt) (λ c. mag c < 2 ^ 63 → mag (c -ℤ shr_z c 2) < 2 ^ 63)
    (λ x k h. simp (diff-shr 2 (lit< tt), diff-sub) (diff-mag (x + k) (k * 2 + x / 2) (2 ^ 63) (omega (arith, diff-range x (k * 2) (2 ^ 63) h)) (omega (arith, diff-range x (k * 2) (2 ^ 63) h))))

pub bit_is : (c : ℤ) → c -ℤ shr_z c 2 -ℤ shr_z c 2 ≡ pos (mod_z c 2)
bit_is = all-multiple 2 (lit< tt) (λ c. c -ℤ shr_z c 2 -ℤ shr_z c 2 ≡ pos (mod_z c 2))
    (λ x k. rw (diff-mod 2 (lit< tt) x k) (simp (diff-shr 2 (lit< tt), diff-sub) (is_pos (x + k + k) (k * 2 + x / 2 + x / 2) (x % 2) (omega arith))))

pub bit-lt : (c : ℤ) → mod_z c 2 < 2
bit-lt = all-multiple 2 (lit< tt) (λ c. mod_z c 2 < 2) (λ x k. rw (diff-mod 2 (lit< tt) x k) (omega arith))

-- ---- the sum
-- what the low word and the low bit carry
abbrev pub carry : ℤ → ℕ → ℕ
carry c lo = mod_z c 2 + (lo / 4611686018427387904 + 1) / 2

divided : (x p lo : ℕ) → (x * 2 ^ 63 + 2 ^ 62 + (p * 2 ^ 64 + lo)) / 2 ^ 63 ≡ x + p * 2 + (lo / 4611686018427387904 + 1) / 2
divided x p lo = omega arith

sum-diff : (x k p q lo : ℕ) → sum_high (diff x (k * 2)) (wide_of (diff p q) lo) ≡ diff (x + p * 2 + (lo / 4611686018427387904 + 1) / 2) (k * 2 + q * 2)
unfolding sum_high
sum-diff x k p q lo =
    ap (λ (z : ℤ). shr_z z (2 ^ 63))
    (ap (λ (z : ℤ). z +ℤ pos (2 ^ 62) +ℤ wide_of (diff p q) lo) (diff-scale x (k * 2) (2 ^ 63))
    ∙ ap (λ (z : ℤ). z +ℤ wide_of (diff p q) lo) (add-pos (x * 2 ^ 63) (k * 2 * 2 ^ 63) (2 ^ 62))
    ∙ ap (λ (z : ℤ). diff (x * 2 ^ 63 + 2 ^ 62) (k * 2 * 2 ^ 63) +ℤ z) (wide-diff p q lo)
    ∙ diff-add (x * 2 ^ 63 + 2 ^ 62) (k * 2 * 2 ^ 63) (p * 2 ^ 64 + lo) (q * 2 ^ 64)
    ∙ ap (λ (n : ℕ). diff (x * 2 ^ 63 + 2 ^ 62 + (p * 2 ^ 64 + lo)) n) (multiple k q))
    ∙ diff-shr (2 ^ 63) (lit< tt) (x * 2 ^ 63 + 2 ^ 62 + (p * 2 ^ 64 + lo)) (k * 2 + q * 2)
    ∙ ap (λ (n : ℕ). diff n (k * 2 + q * 2)) (divided x p lo)
  where
    multiple : (k q : ℕ) → k * 2 * 2 ^ 63 + q * 2 ^ 64 ≡ (k * 2 + q * 2) * 2 ^ 63
    multiple k q = omega arith

pub sum-halves : (c hi : ℤ) (lo : ℕ) → (shr_z c 2 +ℤ hi +ℤ pos (carry c lo / 2)) *ℤ pos 2 +ℤ pos (carry c lo % 2) ≡ sum_high c (wide_of hi lo)
sum-halves c hi lo =
    all-multiple 2 (lit< tt) (λ c. (shr_z c 2 +ℤ hi +ℤ pos (carry c lo / 2)) *ℤ pos 2 +ℤ pos (carry c lo % 2) ≡ sum_high c (wide_of hi lo))
    (λ x k. all (λ hi. (shr_z (diff x (k * 2)) 2 +ℤ hi +ℤ pos (carry (diff x (k * 2)) lo / 2)) *ℤ pos 2 +ℤ pos (carry (diff x (k * 2)) lo % 2) ≡ sum_high (diff x (k * 2)) (wide_of hi lo))
    (λ p q. rw (diff-mod 2 (lit< tt) x k, diff-shr 2 (lit< tt) x k, sum-diff x k p q lo)
    (simp diffs (diff-eq _ _ _ _ (omega arith)))) hi) c

-- ---- it fits
-- the high word of a number of at most K * M
high_word : (M K p q lo : ℕ) → 0 < M → lo < M → p * M + lo ≤ q * M + K * M → q * M ≤ p * M + lo + K * M → (p ≤ q + K) × (q ≤ p + K) × (0 < lo → p < q + K)
high_word M K p q lo h l f g = (
  le_of_mul-le-mul_right {m = p} {n = q + K} {k = M} (simp add-mul (omega arith)) h,
  le-of-lt-succ (lt_of_mul-lt-mul_right M {m = q} {n = p + K + 1} (simp (add-mul, one-mul) (omega arith))),
  λ z. lt_of_mul-lt-mul_right M {m = p} {n = q + K} (simp add-mul (omega arith)),
)
  where
    le-of-lt-succ : {a b : ℕ} → a < b + 1 → a ≤ b
    le-of-lt-succ h = omega arith

low_part : (p q lo : ℕ) → lo < 2 ^ 64 → nat_abs (wide_of (diff p q) lo) ≤ 2 ^ 126 → (p ≤ q + 2 ^ 62) × (q ≤ p + 2 ^ 62) × (0 < lo → p < q + 2 ^ 62)
low_part p q lo h f =
    let g = diff-abs (p * 2 ^ 64 + lo) (q * 2 ^ 64) (2 ^ 126) (rw (wide-diff p q lo) at f) in
    high_word (2 ^ 64) (2 ^ 62) p q lo (lit< tt) h g.0 g.1

room : (x k p q lo : ℕ) → lo < 2 ^ 64 → x < k * 2 + 2 ^ 63 → p ≤ q + 2 ^ 62 → (0 < lo → p < q + 2 ^ 62) → x / 2 + p + (x % 2 + (lo / 4611686018427387904 + 1) / 2) / 2 < k + q + 2 ^ 63
room x k p q zero l h f g = omega arith
room x k p q (suc lo) l h f g = let e : p < q + 2 ^ 62 = g (omega arith) in omega arith

pub half-sum-fits : (c hi : ℤ) (lo : ℕ) → mag c < 2 ^ 63 → lo < 2 ^ 64 → nat_abs (wide_of hi lo) ≤ 2 ^ 126 → mag (shr_z c 2 +ℤ hi) < 2 ^ 63
half-sum-fits c hi lo h l f =
    all-multiple 2 (lit< tt) (λ c. mag c < 2 ^ 63 → mag (shr_z c 2 +ℤ hi) < 2 ^ 63)
    (λ x k h. all (λ hi. nat_abs (wide_of hi lo) ≤ 2 ^ 126 → mag (shr_z (diff x (k * 2)) 2 +ℤ hi) < 2 ^ 63)
    (λ p q f. let r = diff-range x (k * 2) (2 ^ 63) h in let b = low_part p q lo l f in
    simp (diff-shr 2 (lit< tt), diff-add) (diff-mag (x / 2 + p) (k + q) (2 ^ 63) (omega arith) (omega arith))) hi f) c h

pub sum_fits : (c hi : ℤ) (lo : ℕ) → mag c < 2 ^ 63 → lo < 2 ^ 64 → nat_abs (wide_of hi lo) ≤ 2 ^ 126 → mag (shr_z c 2 +ℤ hi +ℤ pos (carry c lo / 2)) < 2 ^ 63
sum_fits c hi lo h l f =
    all-multiple 2 (lit< tt) (λ c. mag c < 2 ^ 63 → mag (shr_z c 2 +ℤ hi +ℤ pos (carry c lo / 2)) < 2 ^ 63)
    (λ x k h. all (λ hi. nat_abs (wide_of hi lo) ≤ 2 ^ 126 → mag (shr_z (diff x (k * 2)) 2 +ℤ hi +ℤ pos (carry (diff x (k * 2)) lo / 2)) < 2 ^ 63)
    (λ p q f. let r = diff-range x (k * 2) (2 ^ 63) h in let b = low_part p q lo l f in
    rw (diff-mod 2 (lit< tt) x k, diff-shr 2 (lit< tt) x k)
    (simp diffs (diff-mag (x / 2 + p + (x % 2 + (lo / 4611686018427387904 + 1) / 2) / 2) (k + q) (2 ^ 63) (room x k p q lo l r.0 b.0 b.2) (omega arith)))) hi f) c h

-- ---- the definition's number
pub sum_is : (c t : ℤ) → sum_high c t ≡ rounded 64 c t
unfolding sum_high
sum_is c t = sym (round-halved 63 (2 ^ 62) refl c t)

-- ---- the end that it can pass is that of the high word's sign
sign-diff : (p q : ℕ) → lt_z (diff p q) (pos 0) ≡ ltb p q
sign-diff p q = ap (lt_z (diff p q)) (pos-diff 0) ∙ diff-lt p q 0 0 ∙ same_test (p + 0) (0 + q) p q (omega arith) (omega arith)

pub sum-positive : (c hi : ℤ) (lo : ℕ) → mag c < 2 ^ 63 → lt_z hi (pos 0) ≡ false → lt_z (sum_high c (wide_of hi lo)) (lowest 64) ≡ false
sum-positive c hi lo h f =
    all-multiple 2 (lit< tt) (λ c. mag c < 2 ^ 63 → lt_z (sum_high c (wide_of hi lo)) (lowest 64) ≡ false)
    (λ x k h. all (λ hi. lt_z hi (pos 0) ≡ false → lt_z (sum_high (diff x (k * 2)) (wide_of hi lo)) (lowest 64) ≡ false)
    (λ p q f. let r = diff-range x (k * 2) (2 ^ 63) h in let l = ltb-false p q (sym (sign-diff p q) ∙ f) in
    rw (sum-diff x k p q lo, sym (is-neg 0 9223372036854775808 9223372036854775807 refl), diff-lt)
    (le-ltb (x + p * 2 + (lo / 4611686018427387904 + 1) / 2 + 9223372036854775808) (0 + (k * 2 + q * 2)) (omega arith))) hi f) c h

pub sum-negative : (c hi : ℤ) (lo : ℕ) → mag c < 2 ^ 63 → lo < 2 ^ 64 → lt_z hi (pos 0) ≡ true → lt_z (highest 64) (sum_high c (wide_of hi lo)) ≡ false
sum-negative c hi lo h s f =
    all-multiple 2 (lit< tt) (λ c. mag c < 2 ^ 63 → lt_z (highest 64) (sum_high c (wide_of hi lo)) ≡ false)
    (λ x k h. all (λ hi. lt_z hi (pos 0) ≡ true → lt_z (highest 64) (sum_high (diff x (k * 2)) (wide_of hi lo)) ≡ false)
    (λ p q f. let r = diff-range x (k * 2) (2 ^ 63) h in let l = ltb-true p q (sym (sign-diff p q) ∙ f) in
    rw (sum-diff x k p q lo, sym (is_pos 9223372036854775807 0 9223372036854775807 refl), diff-lt)
    (le-ltb (9223372036854775807 + (k * 2 + q * 2)) (x + p * 2 + (lo / 4611686018427387904 + 1) / 2 + 0) (omega arith))) hi f) c h

-- ---- the two ends
pub bottom : (high : ℤ) (low : ℕ) → low < 2 → lt_z high (negsuc 4611686018427387903) ≡ lt_z (high *ℤ pos 2 +ℤ pos low) (negsuc 9223372036854775807)
bottom high low h =
    all (λ z. lt_z z (negsuc 4611686018427387903) ≡ lt_z (z *ℤ pos 2 +ℤ pos low) (negsuc 9223372036854775807))
    (λ p q. rw (sym (is-neg 0 4611686018427387904 4611686018427387903 refl), sym (is-neg 0 9223372036854775808 9223372036854775807 refl))
    (simp (diff-scale, add-pos, diff-lt) (same_test (p + 4611686018427387904) (0 + q) (p * 2 + low + 9223372036854775808) (0 + q * 2) (omega arith) (omega arith)))) high

pub top : (high : ℤ) (low : ℕ) → low < 2 → lt_z (pos 4611686018427387903) high ≡ lt_z (pos 9223372036854775807) (high *ℤ pos 2 +ℤ pos low)
top high low h =
    all (λ z. lt_z (pos 4611686018427387903) z ≡ lt_z (pos 9223372036854775807) (z *ℤ pos 2 +ℤ pos low))
    (λ p q. rw (sym (is_pos 4611686018427387903 0 4611686018427387903 refl), sym (is_pos 9223372036854775807 0 9223372036854775807 refl))
    (simp (diff-scale, add-pos, diff-lt) (same_test (4611686018427387903 + q) (p + 0) (9223372036854775807 + q * 2) (p * 2 + low + 0) (omega arith) (omega arith)))) high

pub doubled-is : (high : ℤ) (low : ℕ) → high +ℤ high +ℤ pos low ≡ high *ℤ pos 2 +ℤ pos low
doubled-is high low =
    all (λ z. z +ℤ z +ℤ pos low ≡ z *ℤ pos 2 +ℤ pos low) (λ p q. simp diffs (diff-eq _ _ _ _ (omega arith))) high

pub twice-fits : (high : ℤ) → mag high < 2 ^ 62 → mag (high +ℤ high) < 2 ^ 63
twice-fits = all (λ z. mag z < 2 ^ 62 → mag (z +ℤ z) < 2 ^ 63)
    (λ p q h. let r = diff-range p q (2 ^ 62) h in simp diffs (diff-mag (p + p) (q + q) (2 ^ 63) (omega arith) (omega arith)))

pub whole-fits : (high : ℤ) (low : ℕ) → low < 2 → mag high < 2 ^ 62 → mag (high +ℤ high +ℤ pos low) < 2 ^ 63
whole-fits high low l = all (λ z. mag z < 2 ^ 62 → mag (z +ℤ z +ℤ pos low) < 2 ^ 63)
    (λ p q h. let r = diff-range p q (2 ^ 62) h in simp diffs (diff-mag (p + p + low) (q + q) (2 ^ 63) (omega arith) (omega arith))) high
