-- An operation worked in the file, one 128-bit segment after the other. `progress_start`: with no segment worked the file is as it was. `progress-on`: a
-- store of what an SVE2 operation writes into segment k goes one segment on. `progress-end`: with every segment worked the file is as the operation
-- leaves it. `registers-stored`: so is a file in which the whole registers that an operation writes have been stored; `register-stored`: one. Assumes nothing.
use mathlib.Core.Path.{◌≡◌, refl, sym, ap, subst, ◌∙◌}
use mathlib.Core.Logic.{◌≢◌}
use Prim.Native.Nat.{ℕ, suc, ◌+◌, ◌-◌, ◌*◌, ◌/◌, ◌%◌, ◌<◌, ◌≤◌}
use native.Mathlib.Omega.{arith}
use native.Mathlib.Nat.{mul-le-mul_right, add-mul}
use mathlib.Core.Bool.{true, false, cond}
use mathlib.Core.List.{List}
use lib.ListN.{length, get_or}
use lib.Dec.{leb, ltb, eqb}
use borrow.Author.Tests.{ltb-true, ltb-false, lt-ltb, le-ltb, le-leb, lt-leb, leb-true, eqb-true, eqb-false, eq-eqb, ne_eqb}
use Rattle.isa.specs.Register.{Regs, window, segment}
use Rattle.isa.specs.Meaning.{Op, in_group, writes, written, step, advanced_simd}
use Rattle.isa.specs.File.{legal, byte_at, file_of}
use Rattle.isa.proofs.Local.{Fits, Near, Alike, written-shift, written-local}
use Rattle.isa.proofs.File.{cases, legal-exact, file_of-length, file_of-at, file_of-cong, file_of-bytes, byte_at-past}

-- ---- one operation's registers

pub step-writes : (op : Op) (regs : Regs) (r j : ℕ) → writes op r ≡ true → step op regs r j ≡ written op regs r j
unfolding step
step-writes op regs r j e = rw e

pub step_keeps : (op : Op) (regs : Regs) (r j : ℕ) → writes op r ≡ false → step op regs r j ≡ regs r j
unfolding step
step_keeps op regs r j e = rw e

-- the registers where the first k segments have been worked
unfoldable pub worked : ℕ → Op → Regs → Regs
worked k op regs r j = cond (ltb j (16 * k)) (step op regs r j) (regs r j)

module _ (k : ℕ) (op : Op) (regs : Regs) (r j : ℕ) where
  worked-below : j < 16 * k → worked k op regs r j ≡ step op regs r j
  unfolding worked
  worked-below h = rw (lt-ltb j (16 * k) h)

  worked-above : 16 * k ≤ j → worked k op regs r j ≡ regs r j
  unfolding worked
  worked-above h = rw (le-ltb j (16 * k) h)

  worked-keeps : writes op r ≡ false → worked k op regs r j ≡ regs r j
  worked-keeps e = cases (ltb j (16 * k))
      (λ b. worked-below (ltb-true j (16 * k) b) ∙ step_keeps op regs r j e)
      (λ b. worked-above (ltb-false j (16 * k) b))

-- one segment more changes no other segment
worked_beside : (k : ℕ) (op : Op) (regs : Regs) (r j : ℕ) → j / 16 ≢ k → worked k op regs r j ≡ worked (k + 1) op regs r j
worked_beside k op regs r j ne = cases (ltb j (16 * k))
    (λ b. worked-below k op regs r j (ltb-true j (16 * k) b) ∙ sym (worked-below (k + 1) op regs r j (omega (arith, ltb-true j (16 * k) b))))
    (λ b. worked-above k op regs r j (ltb-false j (16 * k) b) ∙ sym (worked-above (k + 1) op regs r j (omega (arith, ltb-false j (16 * k) b))))

-- the file where the first k segments have been worked
unfoldable pub progress : ℕ → ℕ → Op → List ℕ → List ℕ
progress L k op file = file_of L (worked k op (byte_at L file))

-- ---- a store into register d

-- no other register has changed
beside : (L d : ℕ) (g after : List ℕ) → ((x : ℕ) → x < d * (L / 8) → get_or after x 0 ≡ get_or g x 0) →
    ((x : ℕ) → d * (L / 8) + L / 8 ≤ x → get_or after x 0 ≡ get_or g x 0) →
    (r j : ℕ) → j < L / 8 → r ≢ d → byte_at L after r j ≡ byte_at L g r j
unfolding byte_at
beside L d g after low high r j l ne = cases (ltb r d)
    (λ e. low (r * (L / 8) + j) (omega (arith, mul-le-mul_right (L / 8) (ltb-true r d e))))
    (λ e.
    let more : suc d ≤ r = omega (arith, ltb-false r d e) in
    high (r * (L / 8) + j) (omega (arith, mul-le-mul_right (L / 8) more)))

-- ---- a store of 16 bytes where its segment k stands

-- segment k of register r lies in the file
pub segment-fits : (L : ℕ) → legal L ≡ true → (r k : ℕ) → r < 32 → k < L / 128 → r * (L / 8) + 16 * k + 16 ≤ 4 * L
segment-fits L ok r k h l =
    let whole = ((legal-exact L).0 ok).whole in
    omega (arith, mul-le-mul_right (L / 8) h)

module _ (L : ℕ) (ok : legal L ≡ true) (d k : ℕ) (within : k < L / 128) (g after : List ℕ)
    (low : (x : ℕ) → x < d * (L / 8) + 16 * k → get_or after x 0 ≡ get_or g x 0)
    (high : (x : ℕ) → d * (L / 8) + 16 * k + 16 ≤ x → get_or after x 0 ≡ get_or g x 0) where
  other-register : (r j : ℕ) → j < L / 8 → r ≢ d → byte_at L after r j ≡ byte_at L g r j
  other-register =
      let whole = ((legal-exact L).0 ok).whole in
      beside L d g after (λ x h. low x (omega arith)) (λ x h. high x (omega (arith, within, whole)))

  other-segment : (j : ℕ) → j / 16 ≢ k → byte_at L after d j ≡ byte_at L g d j
  unfolding byte_at
  other-segment j ne = cases (ltb j (16 * k))
      (λ b. low (d * (L / 8) + j) (omega (arith, ltb-true j (16 * k) b)))
      (λ b. high (d * (L / 8) + j) (omega (arith, ltb-false j (16 * k) b)))

-- the byte that is stored stands in segment k
stored_at : (L d k : ℕ) (after : List ℕ) (j : ℕ) → j / 16 ≡ k → byte_at L after d j ≡ get_or after (d * (L / 8) + 16 * k + j % 16) 0
unfolding byte_at
stored_at L d k after j e = ap (λ x. get_or after x 0) (omega arith)

-- ---- one segment more of an SVE2 operation

module _ (L : ℕ) (ok : legal L ≡ true) (op : Op) (f : List ℕ) (size : length f ≡ 4 * L) where
  pub progress-length : (k : ℕ) → length (progress L k op f) ≡ 4 * L
  unfolding progress
  progress-length k = file_of-length L _

  pub progress_start : f ≡ progress L 0 op f
  unfolding progress
  progress_start =
      sym (file_of-cong L ok _ _ (λ r j h l. worked-above 0 op (byte_at L f) r j (omega arith)) ∙ file_of-bytes L ok f size)

  pub progress-end : progress L (L / 128) op f ≡ file_of L (step op (byte_at L f))
  unfolding progress
  progress-end =
      let whole = ((legal-exact L).0 ok).whole in
      file_of-cong L ok _ _ (λ r j h l. worked-below (L / 128) op (byte_at L f) r j (omega arith))

  module _ (k : ℕ) (within : k < L / 128) (fits : Fits op) (sve : advanced_simd op ≡ false)
      (d : ℕ) (only : (r : ℕ) → writes op r ≡ eqb r d) (g after : List ℕ) (so_far : g ≡ progress L k op f) where
    before : (r j : ℕ) → r < 32 → j < L / 8 → byte_at L g r j ≡ worked k op (byte_at L f) r j
    unfolding progress
    before r j h l = ap (λ x. byte_at L x r j) so_far ∙ file_of-at L ok _ r j h l

    -- segment k of every register is still as it was
    still : Alike (segment k (byte_at L g)) (segment k (byte_at L f))
    unfolding Alike Near segment window
    still r i h =
        let whole = ((legal-exact L).0 ok).whole in
        cases (ltb r 32)
        (λ e. before r (16 * k + i) (ltb-true r 32 e) (omega arith) ∙ worked-above k op (byte_at L f) r (16 * k + i) (omega arith))
        (λ e.
        let past = ltb-false r 32 e in
        byte_at-past L ok g (ap length so_far ∙ progress-length k) r (16 * k + i) past ∙ sym (byte_at-past L ok f size r (16 * k + i) past))

    -- what it writes from segment k as it is now is what it writes there
    segment-written : (j : ℕ) → j / 16 ≡ k → written op (segment k (byte_at L g)) d (j % 16) ≡ worked (k + 1) op (byte_at L f) d j
    segment-written j here =
        let at : 16 * k + j % 16 ≡ j = omega arith in
        written-local _ _ still op fits d (j % 16) (omega arith)
        ∙ sym (written-shift op sve (byte_at L f) k d (j % 16))
        ∙ ap (written op (byte_at L f) d) at
        ∙ sym (step-writes op (byte_at L f) d j (only d ∙ eq-eqb d d refl))
        ∙ sym (worked-below (k + 1) op (byte_at L f) d j (omega arith))

    module _ (below : d < 32) (same : length after ≡ 4 * L)
        (inside : (i : ℕ) → i < 16 → get_or after (d * (L / 8) + 16 * k + i) 0 ≡ written op (segment k (byte_at L g)) d i)
        (low : (x : ℕ) → x < d * (L / 8) + 16 * k → get_or after x 0 ≡ get_or g x 0)
        (high : (x : ℕ) → d * (L / 8) + 16 * k + 16 ≤ x → get_or after x 0 ≡ get_or g x 0) where
      at-d : (j : ℕ) → j < L / 8 → byte_at L after d j ≡ worked (k + 1) op (byte_at L f) d j
      at-d j l = cases (eqb (j / 16) k)
          (λ e.
          let here = eqb-true (j / 16) k e in
          stored_at L d k after j here ∙ inside (j % 16) (omega arith) ∙ segment-written j here)
          (λ e.
          let ne : j / 16 ≢ k = eqb-false (j / 16) k e in
          other-segment L ok d k within g after low high j ne ∙ before d j below l ∙ worked_beside k op (byte_at L f) d j ne)

      off-d : (r j : ℕ) → r < 32 → j < L / 8 → r ≢ d → byte_at L after r j ≡ worked (k + 1) op (byte_at L f) r j
      off-d r j h l ne =
          let kept : writes op r ≡ false = only r ∙ ne_eqb r d ne in
          other-register L ok d k within g after low high r j l ne
          ∙ before r j h l
          ∙ worked-keeps k op (byte_at L f) r j kept
          ∙ sym (worked-keeps (k + 1) op (byte_at L f) r j kept)

      pub progress-on : after ≡ progress L (k + 1) op f
      unfolding progress
      progress-on =
          sym (file_of-bytes L ok after same)
          ∙ file_of-cong L ok _ _ (λ r j h l. cases (eqb r d)
          (λ e. subst (λ n. byte_at L after n j ≡ worked (k + 1) op (byte_at L f) n j) (sym (eqb-true r d e)) (at-d j l))
          (λ e. off-d r j h l (eqb-false r d e)))

-- ---- a store of whole registers

module _ (L : ℕ) (ok : legal L ≡ true) (op : Op) (first count : ℕ) (only : (r : ℕ) → writes op r ≡ in_group first count r) (g after : List ℕ) (same : length after ≡ 4 * L)
    (inside : (r j : ℕ) → r < count → j < L / 8 → get_or after ((first + r) * (L / 8) + j) 0 ≡ written op (byte_at L g) (first + r) j)
    (low : (x : ℕ) → x < first * (L / 8) → get_or after x 0 ≡ get_or g x 0)
    (high : (x : ℕ) → (first + count) * (L / 8) ≤ x → get_or after x 0 ≡ get_or g x 0) where
  kept : (r j : ℕ) → writes op r ≡ false → byte_at L after r j ≡ byte_at L g r j → byte_at L after r j ≡ step op (byte_at L g) r j
  kept r j e same_byte = same_byte ∙ sym (step_keeps op (byte_at L g) r j e)

  below-group : (r j : ℕ) → j < L / 8 → r < first → byte_at L after r j ≡ step op (byte_at L g) r j
  unfolding in_group byte_at
  below-group r j l h = kept r j (only r ∙ (rw (lt-leb first r h))) (low (r * (L / 8) + j) (omega (arith, mul-le-mul_right (L / 8) h)))

  above-group : (r j : ℕ) → first ≤ r → first + count ≤ r → byte_at L after r j ≡ step op (byte_at L g) r j
  unfolding in_group byte_at
  above-group r j f h =
      kept r j (only r ∙ (rw (le-leb first r f, le-ltb r (first + count) h))) (high (r * (L / 8) + j) (omega (arith, mul-le-mul_right (L / 8) h)))

  in_group-step : (r j : ℕ) → j < L / 8 → first ≤ r → r < first + count → byte_at L after r j ≡ step op (byte_at L g) r j
  unfolding in_group byte_at
  in_group-step r j l f h =
      let at : first + (r - first) ≡ r = omega arith in
      subst (λ k. get_or after (k * (L / 8) + j) 0 ≡ written op (byte_at L g) k j) at (inside (r - first) j (omega arith) l)
      ∙ sym (step-writes op (byte_at L g) r j (only r ∙ (rw (le-leb first r f, lt-ltb r (first + count) h))))

  pub registers-stored : after ≡ file_of L (step op (byte_at L g))
  registers-stored =
      sym (file_of-bytes L ok after same)
      ∙ file_of-cong L ok _ _ (λ r j h l. cases (ltb r first)
      (λ b. below-group r j l (ltb-true r first b))
      (λ b. cases (ltb r (first + count))
      (λ e. in_group-step r j l (ltb-false r first b) (ltb-true r (first + count) e))
      (λ e. above-group r j (ltb-false r first b) (ltb-false r (first + count) e))))

-- one register
one-register : (d r : ℕ) → eqb r d ≡ in_group d 1 r
unfolding in_group
one-register d r = cases (eqb r d)
    (λ e. let h = eqb-true r d e in rw (e, le-leb d r (omega arith), lt-ltb r (d + 1) (omega arith)))
    (λ e. let ne : r ≢ d = eqb-false r d e in cases (leb d r)
    (λ b. let l = leb-true d r b in rw (e, b, le-ltb r (d + 1) (omega arith)))
    (λ b. rw (e, b)))

pub register-stored : (L : ℕ) → legal L ≡ true → (op : Op) (d : ℕ) → ((r : ℕ) → writes op r ≡ eqb r d) → (g after : List ℕ) → length after ≡ 4 * L →
    ((j : ℕ) → j < L / 8 → get_or after (d * (L / 8) + j) 0 ≡ written op (byte_at L g) d j) →
    ((x : ℕ) → x < d * (L / 8) → get_or after x 0 ≡ get_or g x 0) →
    ((x : ℕ) → d * (L / 8) + L / 8 ≤ x → get_or after x 0 ≡ get_or g x 0) → after ≡ file_of L (step op (byte_at L g))
register-stored L ok op d only g after same inside low high =
    registers-stored L ok op d 1 (λ r. only r ∙ one-register d r) g after same
    (λ r j h l.
    let at : d ≡ d + r = omega arith in
    subst (λ k. get_or after (k * (L / 8) + j) 0 ≡ written op (byte_at L g) k j) at (inside j l))
    low
    (λ x h. high x (omega (arith, add-mul d 1 (L / 8))))
