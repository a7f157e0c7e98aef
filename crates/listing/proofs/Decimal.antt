-- Numbers in decimal: the one digit, the digits before the last, and how many there are.
use mathlib.Core.Path.{◌≡◌, refl, sym, ap, ◌∙◌, subst}
use mathlib.Core.List.{List, [], ◌∷◌, ◌++◌}
use Prim.Native.Nat.{ℕ, zero, suc, ◌+◌, ◌/◌, ◌%◌, ◌^◌, ◌≤◌, ◌<◌}
use native.Mathlib.Decide.{dec_lt}
use native.Mathlib.Nat.{pow-suc}
use native.Mathlib.Omega.{arith}
use borrow.Author.Tests.{lt-ltb, le-ltb}
use lib.Dec.{lit≤}
use lib.ListN.{length, length-append}
use Rattle.listing.specs.Listing.{ascii, hex_digit, digits_of, decimal_of, count_line, tail_line, limit}
use Rattle.listing.specs.Call.{Wrote}
use Rattle.listing.proofs.WithText.{wrote_then}

digits-one : (most n : ℕ) → n < 10 → digits_of (suc most) n ≡ hex_digit n ∷ []
unfolding digits_of
digits-one most n h = rw (lt-ltb n 10 h)

digits_more : (most n : ℕ) → 10 ≤ n → digits_of (suc most) n ≡ digits_of most (n / 10) ++ (hex_digit (n % 10) ∷ [])
unfolding digits_of
digits_more most n h = rw (le-ltb n 10 h)

-- once they are enough, how many digits are allowed does not matter
digits-enough : (a b n : ℕ) → n < a → n < b → digits_of a n ≡ digits_of b n
digits-enough zero b n h k = absurd (omega arith)
digits-enough (suc a) zero n h k = absurd (omega arith)
digits-enough (suc a) (suc b) n h k =
    elim (dec_lt n 10) [
      | yes l ↦ digits-one a n l ∙ sym (digits-one b n l)
      | no l ↦
          digits_more a n (omega arith)
          ∙ ap (λ (s : List ℕ). s ++ (hex_digit (n % 10) ∷ [])) (digits-enough a b (n / 10) (omega arith) (omega arith))
          ∙ sym (digits_more b n (omega arith))
    ]

pub decimal-one : (n : ℕ) → n < 10 → decimal_of n ≡ hex_digit n ∷ []
unfolding decimal_of
decimal-one n h = digits-one n n h

pub decimal-more : (n : ℕ) → 10 ≤ n → decimal_of n ≡ decimal_of (n / 10) ++ (hex_digit (n % 10) ∷ [])
unfolding decimal_of
decimal-more n h =
    digits_more n n h
    ∙ ap (λ (s : List ℕ). s ++ (hex_digit (n % 10) ∷ [])) (digits-enough n (suc (n / 10)) (n / 10) (omega arith) (omega arith))

digits-short : (k most n : ℕ) → n < 10 ^ suc k → length (digits_of most n) ≤ suc k
unfolding digits_of
digits-short k zero n h = omega arith
digits-short zero (suc most) n h = rw (digits-one most n h) (omega arith)
digits-short (suc k) (suc most) n h =
    elim (dec_lt n 10) [
      | yes l ↦ rw (digits-one most n l) (omega arith)
      | no l ↦
          rw (digits_more most n (omega arith))
          (omega (arith, length-append (digits_of most (n / 10)) (hex_digit (n % 10) ∷ []), digits-short k most (n / 10) (omega (arith, pow-suc 10 (suc k)))))
    ]

pub decimal-short : (n : ℕ) → n ≤ limit → length (decimal_of n) ≤ 7
unfolding decimal_of
decimal-short n h = digits-short 6 (suc n) n (omega arith)

pub decimal-longer : (n : ℕ) → 10 ≤ n → length (decimal_of n) ≡ length (decimal_of (n / 10)) + 1
decimal-longer n h = ap length (decimal-more n h) ∙ length-append (decimal_of (n / 10)) (hex_digit (n % 10) ∷ [])

-- the digit, and the digits before the last with the last behind them
pub decimal-wrote-one : {out : List ℕ} {at x r : ℕ} {out₁ : List ℕ} (n : ℕ) → n < 10 → x ≡ hex_digit n → Wrote out at (x ∷ []) r out₁ → Wrote out at (decimal_of n) r out₁
decimal-wrote-one {out} {at} {x} {r} {out₁} n h e w =
    subst (λ (s : List ℕ). Wrote out at s r out₁) (ap (λ (d : ℕ). d ∷ []) e ∙ sym (decimal-one n h)) w

pub decimal-wrote-more : {out : List ℕ} {at m x r : ℕ} {out₁ out₂ : List ℕ} (n : ℕ) → 10 ≤ n → at + length (decimal_of n) ≤ length out → x ≡ hex_digit (n % 10)
    → Wrote out at (decimal_of (n / 10)) m out₁ → Wrote out₁ m (x ∷ []) r out₂ → Wrote out at (decimal_of n) r out₂
decimal-wrote-more {out} {at} {m} {x} {r} {out₁} {out₂} n h room e v w =
    let longer = decimal-longer n h in
    subst (λ (s : List ℕ). Wrote out at s r out₂) (ap (λ (d : ℕ). decimal_of (n / 10) ++ (d ∷ [])) e ∙ sym (decimal-more n h))
    (wrote_then v w (omega arith))

-- a label, a number and the line's end
pub count-wrote : {out : List ℕ} {at : ℕ} {label : List ℕ} {a : ℕ} {out₁ : List ℕ} {b : ℕ} {out₂ : List ℕ} {r : ℕ} {out₃ : List ℕ} (n : ℕ) → n ≤ limit → at + length label + 8 ≤ length out
    → Wrote out at label a out₁ → Wrote out₁ a (decimal_of n) b out₂ → Wrote out₂ b (ascii "\n") r out₃ → Wrote out at (count_line label n) r out₃
unfolding count_line
count-wrote {out} {at} {label} n h room x y z =
    let short = decimal-short n h in
    wrote_then (wrote_then x y (omega arith)) z (omega (arith, length-append label (decimal_of n)))

pub count-short : (label : List ℕ) (n : ℕ) → n ≤ limit → length (count_line label n) ≤ length label + 8
unfolding count_line
count-short label n h = omega (arith, decimal-short n h, length-append label (decimal_of n), length-append (label ++ decimal_of n) (ascii "\n"))

-- a tail has a line
pub tail-line : (n : ℕ) → (n ≡ 0 → ⊥) → tail_line n ≡ count_line (ascii "TAIL ") n
tail-line zero f = absurd (f refl)
tail-line (suc n) f = refl

pub tail-short : (n : ℕ) → n ≤ limit → length (tail_line n) ≤ 13
tail-short zero h = lit≤ tt
tail-short (suc n) h = count-short (ascii "TAIL ") (suc n) h
