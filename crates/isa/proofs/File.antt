-- The register file of a legal vector length, byte by byte. `legal-exact`, `refused-exact`, `other-exact`: the lengths that pass, number 11's
-- and number 1's. `file_of-length`: the file of registers has 4 x L bytes.
-- `file_of-at`: its bytes are theirs. `file_of-bytes`: a file of 4 x L bytes is the file of its bytes. `file_of-cong` and `byte_at-ext`: a file is known by
-- its bytes in registers 0 to 31. `bytes_same`: past register 31 any two files are the same. Assumes nothing.
use mathlib.Core.Path.{◌≡◌, refl, sym, ap, ap₂, ◌∙◌}
use mathlib.Core.Logic.{◌↔◌}
use Prim.Native.Nat.{ℕ, zero, suc, ◌+◌, ◌*◌, ◌/◌, ◌%◌, ◌^◌, ◌<◌, ◌≤◌}
use native.Mathlib.Omega.{arith}
use native.Mathlib.Nat.{mul-le-mul_right, div-lt_iff_lt-mul, mod-lt, div-add-mod', pow-le-pow_right}
use mathlib.Core.List.{List, ◌∷◌}
use mathlib.Core.Bool.{Bool, true, false, ◌&&◌, ◌||◌, true≢false}
use lib.ListN.{length, get_or, get_or-eq_default}
use lib.Seq.{ext_get_or}
use lib.Arith.{digits_lt, digits_div, digits_mod}
use lib.Dec.{ltb, leb, eqb}
use borrow.Author.Tests.{ltb-true, ltb-false, leb-true, leb-false, eqb-true, eqb-false}
use Rattle.isa.specs.Register.{Regs}
use Rattle.isa.specs.File.{legal, multiple, PowerOfTwo, NotPowerOfTwo, Legal, tabulate, byte_at, file_of}
use Rattle.isa.proofs.Fields.{and_left, and_right}

-- both outcomes of a test
pub cases : {A : Type 0} (t : Bool) → (t ≡ true → A) → (t ≡ false → A) → A
cases true if-true if-false = if-true refl
cases false if-true if-false = if-false refl

either : {A : Type 0} (a b : Bool) → (a || b) ≡ true → (a ≡ true → A) → (b ≡ true → A) → A
either true b e left right = left refl
either false b e left right = right e

pub and-other : (a b : Bool) → (a && b) ≡ false → a ≡ true → b ≡ false
and-other true b e h = e
and-other false b e h = absurd (true≢false (sym h))

-- ---- legal lengths, and those that number 11 refuses

-- a length that is 2^k
known : (L n k : ℕ) → n ≡ 2 ^ k → multiple n ≡ true → eqb L n ≡ true → (multiple L ≡ true) × PowerOfTwo L
known L n k power m e =
    let same = eqb-true L n e in
    (ap multiple same ∙ m, (k, same ∙ power))

legal-known : (L : ℕ) → legal L ≡ true → (multiple L ≡ true) × PowerOfTwo L
unfolding legal multiple
legal-known L e =
    either _ _ e (known L _ 7 refl refl)
    (λ e. either _ _ e (known L _ 8 refl refl)
    (λ e. either _ _ e (known L _ 9 refl refl)
    (λ e. either _ _ e (known L _ 10 refl refl) (known L _ 11 refl refl))))

-- the other way, one by one
within : (k : ℕ) → 7 ≤ k → k < 12 → legal (2 ^ k) ≡ true
unfolding legal
within k low high =
    cases (eqb k 7) (λ e. rw (eqb-true k 7 e))
    (λ e₇. cases (eqb k 8) (λ e. rw (eqb-true k 8 e))
    (λ e₈. cases (eqb k 9) (λ e. rw (eqb-true k 9 e))
    (λ e₉. cases (eqb k 10) (λ e. rw (eqb-true k 10 e))
    (λ e₁₀. let last : k ≡ 11 = omega (arith, eqb-false k 7 e₇, eqb-false k 8 e₈, eqb-false k 9 e₉, eqb-false k 10 e₁₀) in rw last))))

-- 2^7 to 2^11, for 2^6 is too short and 2^12 too long
power-legal : (k : ℕ) → 128 ≤ 2 ^ k → 2 ^ k ≤ 2048 → legal (2 ^ k) ≡ true
power-legal k least most =
    let grows : (i j : ℕ) → i ≤ j → 2 ^ i ≤ 2 ^ j = λ i j h. pow-le-pow_right {n = 2} (omega arith) {i = i} {j = j} h in
    cases (ltb k 7) (λ e. absurd (omega (arith, grows k 6 (omega (arith, ltb-true k 7 e)))))
    (λ e. cases (leb 12 k) (λ f. absurd (omega (arith, grows 12 k (leb-true 12 k f))))
    (λ f. within k (ltb-false k 7 e) (leb-false 12 k f)))

multiple-power : (L : ℕ) → multiple L ≡ true → PowerOfTwo L → Legal L
unfolding multiple
multiple-power L e p = record {
  whole = eqb-true (L % 128) 0 (and_left (eqb (L % 128) 0) _ e);
  least = leb-true 128 L (and_left (leb 128 L) _ (and_right (eqb (L % 128) 0) _ e));
  most = leb-true L 2048 (and_right (leb 128 L) _ (and_right (eqb (L % 128) 0) _ e));
  power = p;
}

pub legal-exact : (L : ℕ) → (legal L ≡ true → Legal L) × (Legal L → legal L ≡ true)
legal-exact L = (
  (λ e. let k = legal-known L e in multiple-power L k.0 k.1),
  (λ l. let e = l.power.1 in ap legal e ∙ power-legal l.power.0 (omega (arith, l.least)) (omega (arith, l.most))),
)

module _ (L : ℕ) where
  pub legal-multiple : legal L ≡ true → multiple L ≡ true
  legal-multiple e = (legal-known L e).0

  -- number 11's lengths are the multiples that do not pass
  pub refused-exact : NotPowerOfTwo L ↔ ((multiple L ≡ true) × (legal L ≡ false))
  refused-exact = (
    (λ h. (h.0, cases (legal L) (λ e. absurd (h.1 ((legal-exact L).0 e).power)) (λ e. e))),
    (λ h. (h.0, (λ p. true≢false (sym ((legal-exact L).1 (multiple-power L h.0 p)) ∙ h.1)))),
  )

  -- and number 1's are the others
  pub other-exact : ((legal L ≡ false) × (NotPowerOfTwo L → ⊥)) ↔ (multiple L ≡ false)
  other-exact = (
    (λ h. cases (multiple L) (λ m. absurd (h.1 (refused-exact.1 (m, h.0)))) (λ m. m)),
    (λ m. (cases (legal L) (λ e. absurd (true≢false (sym (legal-multiple e) ∙ m))) (λ e. e), (λ h. true≢false (sym h.0 ∙ m)))),
  )

-- ---- lists by their places

tabulate-length : (n : ℕ) (f : ℕ → ℕ) → length (tabulate n f) ≡ n
unfolding tabulate
tabulate-length zero f = refl
tabulate-length (suc n) f = ap suc (tabulate-length n (λ i. f (suc i)))

tabulate-at : (n : ℕ) (f : ℕ → ℕ) (i : ℕ) → i < n → get_or (tabulate n f) i 0 ≡ f i
unfolding tabulate
tabulate-at zero f i h = absurd (omega arith)
tabulate-at (suc n) f zero h = refl
tabulate-at (suc n) f (suc i) h = tabulate-at n (λ i. f (suc i)) i (omega arith)

tabulate-cong : (n : ℕ) (f g : ℕ → ℕ) → ((i : ℕ) → i < n → f i ≡ g i) → tabulate n f ≡ tabulate n g
unfolding tabulate
tabulate-cong zero f g h = refl
tabulate-cong (suc n) f g h = ap₂ ◌∷◌ (h 0 (omega arith)) (tabulate-cong n (λ i. f (suc i)) (λ i. g (suc i)) (λ i l. h (suc i) (omega arith)))

-- ---- files

pub file_of-length : (L : ℕ) (regs : Regs) → length (file_of L regs) ≡ 4 * L
unfolding file_of
file_of-length L regs = tabulate-length (4 * L) _

module _ (L : ℕ) (ok : legal L ≡ true) where
  pub file_of-at : (regs : Regs) (r j : ℕ) → r < 32 → j < L / 8 → byte_at L (file_of L regs) r j ≡ regs r j
  unfolding file_of byte_at
  file_of-at regs r j h l =
      let whole = ((legal-exact L).0 ok).whole in
      tabulate-at (4 * L) _ (r * (L / 8) + j) (omega (arith, digits_lt h l)) ∙ ap₂ regs (digits_div r l) (digits_mod r l)

  pub file_of-cong : (r₁ r₂ : Regs) → ((r j : ℕ) → r < 32 → j < L / 8 → r₁ r j ≡ r₂ r j) → file_of L r₁ ≡ file_of L r₂
  unfolding file_of
  file_of-cong r₁ r₂ same =
      let length = (legal-exact L).0 ok in
      let some : 0 < L / 8 = omega arith in
      tabulate-cong (4 * L) _ _ (λ i h. same (i / (L / 8)) (i % (L / 8)) ((div-lt_iff_lt-mul some).1 (omega arith)) (mod-lt i some))

  pub file_of-bytes : (file : List ℕ) → length file ≡ 4 * L → file_of L (byte_at L file) ≡ file
  unfolding file_of byte_at
  file_of-bytes file size =
      ext_get_or 0 _ file (file_of-length L (byte_at L file) ∙ sym size)
      (λ i h. tabulate-at (4 * L) _ i (omega (arith, file_of-length L (byte_at L file))) ∙ ap (λ m. get_or file m 0) (div-add-mod' i (L / 8)))

  pub byte_at-ext : (f₁ f₂ : List ℕ) → length f₁ ≡ 4 * L → length f₂ ≡ 4 * L →
      ((r j : ℕ) → r < 32 → j < L / 8 → byte_at L f₁ r j ≡ byte_at L f₂ r j) → f₁ ≡ f₂
  byte_at-ext f₁ f₂ size₁ size₂ same = sym (file_of-bytes f₁ size₁) ∙ file_of-cong (byte_at L f₁) (byte_at L f₂) same ∙ file_of-bytes f₂ size₂

  -- past register 31 there is nothing
  pub byte_at-past : (file : List ℕ) → length file ≡ 4 * L → (r j : ℕ) → 32 ≤ r → byte_at L file r j ≡ 0
  unfolding byte_at
  byte_at-past file size r j h =
      let whole = ((legal-exact L).0 ok).whole in
      get_or-eq_default file 0 (omega (arith, mul-le-mul_right (L / 8) h))

-- so two bytes of one register in two files are the same where they are for registers 0 to 31
pub bytes_same : (L₁ L₂ : ℕ) → legal L₁ ≡ true → legal L₂ ≡ true → (f₁ f₂ : List ℕ) → length f₁ ≡ 4 * L₁ → length f₂ ≡ 4 * L₂ →
    (r j₁ j₂ : ℕ) → (r < 32 → byte_at L₁ f₁ r j₁ ≡ byte_at L₂ f₂ r j₂) → byte_at L₁ f₁ r j₁ ≡ byte_at L₂ f₂ r j₂
bytes_same L₁ L₂ ok₁ ok₂ f₁ f₂ size₁ size₂ r j₁ j₂ same =
    cases (ltb r 32) (λ e. same (ltb-true r 32 e))
    (λ e.
    let past = ltb-false r 32 e in
    byte_at-past L₁ ok₁ f₁ size₁ r j₁ past ∙ sym (byte_at-past L₂ ok₂ f₂ size₂ r j₂ past))
