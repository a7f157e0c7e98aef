-- The whole words of a list of bytes. `words-length`: how many there are. `words-at`: the one at a place. `words_append`: those of two parts. Assumes nothing.
use mathlib.Core.Path.{◌≡◌, refl, ap}
use mathlib.Core.List.{List, [], ◌∷◌, ◌++◌}
use Prim.Native.Nat.{ℕ, zero, suc, ◌+◌, ◌*◌, ◌/◌, ◌%◌, ◌<◌}
use native.Mathlib.Omega.{arith}
use lib.ListN.{length, get_or}
use Rattle.isa.specs.Bytes.{word_at, words_of}

pub words-length : (s : List ℕ) → length (words_of s) ≡ length s / 4
unfolding words_of
words-length [] = refl
words-length (a ∷ []) = refl
words-length (a ∷ b ∷ []) = refl
words-length (a ∷ b ∷ c ∷ []) = refl
words-length (a ∷ b ∷ c ∷ d ∷ s) = omega (arith, words-length s)

-- a byte past the first four
past-four : (a b c d : ℕ) (s : List ℕ) (i j : ℕ) → j ≡ i + 4 → get_or (a ∷ b ∷ c ∷ d ∷ s) j 0 ≡ get_or s i 0
past-four a b c d s i j e =
    let f : j ≡ suc (suc (suc (suc i))) = omega arith in
    ap (λ (k : ℕ). get_or (a ∷ b ∷ c ∷ d ∷ s) k 0) f

pub words-at : (s : List ℕ) (k : ℕ) → k < length s / 4 → word_at s (k * 4) ≡ get_or (words_of s) k 0
unfolding words_of word_at
words-at [] k h = absurd (omega arith)
words-at (a ∷ []) k h = absurd (omega arith)
words-at (a ∷ b ∷ []) k h = absurd (omega arith)
words-at (a ∷ b ∷ c ∷ []) k h = absurd (omega arith)
words-at (a ∷ b ∷ c ∷ d ∷ s) zero h = refl
words-at (a ∷ b ∷ c ∷ d ∷ s) (suc k) h =
    let e₀ = past-four a b c d s (k * 4) (suc k * 4) (omega arith) in
    let e₁ = past-four a b c d s (k * 4 + 1) (suc k * 4 + 1) (omega arith) in
    let e₂ = past-four a b c d s (k * 4 + 2) (suc k * 4 + 2) (omega arith) in
    let e₃ = past-four a b c d s (k * 4 + 3) (suc k * 4 + 3) (omega arith) in
    omega (arith, words-at s k (omega arith))

-- the words of a multiple of 4 bytes, and of what follows them
pub words_append : (s t : List ℕ) → length s % 4 ≡ 0 → words_of (s ++ t) ≡ words_of s ++ words_of t
unfolding words_of
words_append [] t h = refl
words_append (a ∷ []) t h = absurd (omega arith)
words_append (a ∷ b ∷ []) t h = absurd (omega arith)
words_append (a ∷ b ∷ c ∷ []) t h = absurd (omega arith)
words_append (a ∷ b ∷ c ∷ d ∷ s) t h = rw (words_append s t (omega arith))
