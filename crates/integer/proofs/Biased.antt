-- A product of signed numbers by biased ones, which have no sign: with the bias K added to both, less K times b biased, less K times a.
-- `fits-biased`, `cast-biased`, `biased-is`: a lane with half its range as the bias. `biased-product`: the product that the code makes of two such.
-- Assumes nothing.
use mathlib.Core.Path.{◌≡◌, sym, ap, ap₂, ◌∙◌, subst}
use Prim.Native.Nat.{ℕ, suc, ◌+◌, ◌-◌, ◌*◌, ◌%◌, ◌^◌, ◌≤◌, ◌<◌}
use native.Mathlib.Nat.{mod-lt, mod-eq_of_lt, mul-le-mul_left}
use native.Mathlib.Omega.{arith}
use lib.Dec.{T}
use lib.IntN.{ℤ, pos, negsuc, nat_abs, ◌+ℤ◌, ◌-ℤ◌, ◌*ℤ◌, pos-+ℤ-pos, pos-*ℤ-pos, *ℤ_comm}
use lib.Pow.{pow_pos}
use lib.Signed.{non_neg, mag}
use mir.Syntax.{Width}
use mir.Val.{Fits, SFits, to_z, of_z, bits, hbits}
use mir.Facts.{to_z-of_z}
use Rattle.integer.specs.Number.{signed, pattern, wrap}
use Rattle.integer.proofs.Bits.{half, whole}
use Rattle.integer.proofs.Difference.{diff, all, ring, diff-eq, diff-sub, diff-scale, diff-mul, add-pos, is_pos, is-neg}
use Rattle.integer.proofs.Round.{sum-mag}
use Rattle.integer.proofs.Widen.{Wide, read-cast, fits-exact}
use Rattle.integer.proofs.Word.{kept}
use Rattle.integer.proofs.Wrap.{mod-product, pattern-difference, in-range}

-- the bias of a factor taken off again
unbiased : (K : ℕ) (a b : ℤ) → a *ℤ (b +ℤ pos K) -ℤ a *ℤ pos K ≡ a *ℤ b
unbiased K a b =
    all (λ a. a *ℤ (b +ℤ pos K) -ℤ a *ℤ pos K ≡ a *ℤ b)
    (λ c d. all (λ b. diff c d *ℤ (b +ℤ pos K) -ℤ diff c d *ℤ pos K ≡ diff c d *ℤ b)
    (λ e f. rw (add-pos e f K, diff-mul c d (e + K) f, diff-scale c d K, diff-sub (c * (e + K) + d * f) (c * f + d * (e + K)) (c * K) (d * K), diff-mul c d e f)
    (diff-eq (c * (e + K) + d * f + d * K) (c * f + d * (e + K) + c * K) (c * e + d * f) (c * f + d * e) (simp ring))) b) a

module _ (N K : ℕ) (some : 0 < N) (small : K < 2 ^ N) (a b : ℤ) {u v : ℕ} (eu : pos u ≡ a +ℤ pos K) (ev : pos v ≡ b +ℤ pos K) where
  -- a by b biased
  exact : pos (u * v) -ℤ pos (v * K) ≡ a *ℤ pos v
  exact =
      ap₂ ◌-ℤ◌ (sym (pos-*ℤ-pos u v) ∙ *ℤ_comm (pos u) (pos v) ∙ ap (λ (z : ℤ). pos v *ℤ z) eu) (sym (pos-*ℤ-pos v K))
      ∙ unbiased K (pos v) a ∙ *ℤ_comm (pos v) a

  first : {p : ℕ} → p < 2 ^ N → (p + v * K % 2 ^ N) % 2 ^ N ≡ u * v → p ≡ pattern N (a *ℤ pos v)
  unfolding pattern
  first {p} h e =
      let below : u * v < 2 ^ N = subst (λ (n : ℕ). n < 2 ^ N) e (mod-lt (p + v * K % 2 ^ N) (pow_pos N)) in
      pattern-difference N (pos (u * v)) (pos (v * K)) p h (e ∙ sym (mod-eq_of_lt below)) ∙ ap (pattern N) exact

  moved : pattern N a * K % 2 ^ N ≡ pattern N (a *ℤ pos K)
  unfolding pattern
  moved = sym (mod-product (2 ^ N) (pow_pos N) a (pos K) ∙ ap (λ (n : ℕ). pattern N a * n % 2 ^ N) (mod-eq_of_lt small))

  -- the bits of the product
  product-bits : {p r : ℕ} → p < 2 ^ N → r < 2 ^ N → (p + v * K % 2 ^ N) % 2 ^ N ≡ u * v → (r + pattern N a * K % 2 ^ N) % 2 ^ N ≡ p → r ≡ pattern N (a *ℤ b)
  product-bits {p} {r} hp hr ep er =
      pattern-difference N (a *ℤ pos v) (a *ℤ pos K) r hr (ap (λ (n : ℕ). (r + n) % 2 ^ N) (sym moved) ∙ er ∙ first hp ep)
      ∙ ap (pattern N) (ap (λ (z : ℤ). a *ℤ z -ℤ a *ℤ pos K) ev ∙ unbiased K a b)

  product-biased : {p r : ℕ} → mag (a *ℤ b) < 2 ^ (N - 1) → p < 2 ^ N → r < 2 ^ N → (p + v * K % 2 ^ N) % 2 ^ N ≡ u * v → (r + pattern N a * K % 2 ^ N) % 2 ^ N ≡ p → signed N r ≡ a *ℤ b
  unfolding wrap
  product-biased h hp hr ep er = ap (signed N) (product-bits hp hr ep er) ∙ in-range N some (a *ℤ b) h

-- ---- the code, over the widths

-- z with the bias K
bias : ℤ → ℕ → ℕ
bias (pos m) K = m + K
bias (negsuc m) K = K - suc m

bias-is : (K : ℕ) (z : ℤ) → mag z < K → z +ℤ pos K ≡ pos (bias z K)
unfolding bias
bias-is K (pos m) h = pos-+ℤ-pos m K
bias-is K (negsuc m) h = ap (λ (y : ℤ). y +ℤ pos K) (sym (is-neg 0 (suc m) m (omega arith))) ∙ add-pos 0 (suc m) K ∙ is_pos (0 + K) (suc m) (K - suc m) (omega arith)

bias-below : (K : ℕ) (z : ℤ) → mag z < K → bias z K < K * 2
unfolding bias
bias-below K (pos m) h = omega arith
bias-below K (negsuc m) h = omega arith

module _ {n w : Width} {q : ℕ} (r : Wide n w q) where
  module _ {z : ℤ} (f : SFits n z) where
    fits_sum : SFits w (z +ℤ pos (2 ^ hbits n))
    fits_sum =
        record { sfits = omega (arith, sum-mag z (pos (2 ^ hbits n)) (2 ^ hbits n) (2 ^ hbits n + 1) f.sfits (omega arith), r.room, mul-le-mul_left (2 ^ hbits n) (pow_pos (hbits n))) }

    pub fits-biased : SFits w (to_z w (of_z w (to_z n (of_z n z))) +ℤ pos (2 ^ hbits n))
    fits-biased = simp (read-cast r f) fits_sum

    -- what the sum's local reads
    abbrev sum : ℤ
    sum = to_z w (of_z w (to_z w (of_z w (to_z n (of_z n z))) +ℤ pos (2 ^ hbits n)))

    read : sum ≡ pos (bias z (2 ^ hbits n))
    read = simp (read-cast r f, to_z-of_z fits_sum) (bias-is (2 ^ hbits n) z f.sfits)

    below : bias z (2 ^ hbits n) < 2 ^ bits n
    below = rw (whole n) (bias-below (2 ^ hbits n) z f.sfits)

    pub cast-biased : (k : Width) → 2 ^ bits n ≤ 2 ^ bits k → T (non_neg sum) × Fits k (nat_abs sum)
    cast-biased k h = rw read (tt, record { fits = omega (arith, below, h) })

    pub biased-is : (pos (nat_abs sum) ≡ z +ℤ pos (2 ^ hbits n)) × (nat_abs sum < 2 ^ bits n)
    biased-is = rw read (sym (bias-is (2 ^ hbits n) z f.sfits), below)

  -- the steps of the code: u and v are a and b biased, t their product, p and x what is left of it, y the number that x stands for
  pub biased-product : {a b y : ℤ} {u v t p c x : ℕ} → SFits n a → SFits n b → pos u ≡ to_z n (of_z n a) +ℤ pos (2 ^ hbits n) → pos v ≡ to_z n (of_z n b) +ℤ pos (2 ^ hbits n) → t ≡ u * v → p < 2 ^ bits w → x < 2 ^ bits w → (p + v * 2 ^ hbits n % 2 ^ bits w) % 2 ^ bits w ≡ t → c ≡ pattern (bits w) (to_z w (of_z w (to_z n (of_z n a)))) → (x + c * 2 ^ hbits n % 2 ^ bits w) % 2 ^ bits w ≡ p → mag y < 2 ^ hbits w → y ≡ signed (bits w) x → to_z w (of_z w y) ≡ a *ℤ b
  biased-product {a} {b} {y} {u} {v} {t} {p} {c} {x} f g eu ev et hp hx ep ec ex hy ey =
      kept w y hy ∙ ey
      ∙ product-biased (bits w) (2 ^ hbits n) (omega (arith, r.doubled, r.one_more)) (omega (arith, r.room, whole w)) a b (eu ∙ ap (λ (z : ℤ). z +ℤ pos (2 ^ hbits n)) (to_z-of_z f)) (ev ∙ ap (λ (z : ℤ). z +ℤ pos (2 ^ hbits n)) (to_z-of_z g))
      (rw (half w) (fits-exact r f g).sfits) hp hx (ep ∙ et)
      (ap (λ (k : ℕ). (x + k * 2 ^ hbits n % 2 ^ bits w) % 2 ^ bits w) (sym (ec ∙ ap (pattern (bits w)) (read-cast r f))) ∙ ex)
