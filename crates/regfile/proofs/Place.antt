-- n * w by the bits of n. `appended-even`, `appended-odd`: one bit more. `half_of`: the bits so far. `next_start`: where the next register starts. Assumes nothing.
use mathlib.Core.Path.{◌≡◌, sym, ap, ◌∙◌}
use Prim.Native.Nat.{ℕ, ◌+◌, ◌*◌, ◌/◌, ◌%◌, ◌≤◌}
use native.Mathlib.Omega.{arith}
use native.Mathlib.Nat.{mul-le-mul_right, add-mul}
use Rattle.regfile.specs.Place.{Half, Short}

module _ (half w n : ℕ) (h : Half half w n) where
  split : (n / 2 + n / 2 + n % 2) * w ≡ half + half + n % 2 * w
  split = rw (add-mul, add-mul, h.made)

  whole : n / 2 + n / 2 + n % 2 ≡ n
  whole = omega arith

  pub appended-even : n % 2 ≡ 0 → half + half ≡ n * w
  appended-even e = omega (arith, sym split ∙ ap (λ x. x * w) whole, ap (λ x. x * w) e)

  pub appended-odd : n % 2 ≡ 1 → half + half + w ≡ n * w
  appended-odd e = omega (arith, sym split ∙ ap (λ x. x * w) whole, ap (λ x. x * w) e)

  pub half-short : half ≤ 4096
  half-short =
      let low : n / 2 ≤ 15 = omega (arith, h.number) in
      omega (arith, mul-le-mul_right w low, h.made, h.width)

-- what is made of the leading bits of n, without the last of them
pub half_of : (w n : ℕ) → Short w n → (bits high r : ℕ) → bits ≤ n → high ≡ bits / 2 → r ≡ high * w → Half r w bits
half_of w n s bits high r l e m = record { width = s.width; number = omega (arith, s.number); made = m ∙ ap (λ x. x * w) e }

pub next_start : (w i at : ℕ) → at ≡ i * w → at + w ≡ (i + 1) * w
next_start w i at e = omega (arith, e, split_off)
  where
    split_off : (i + 1) * w ≡ i * w + 1 * w
    split_off = rw add-mul
