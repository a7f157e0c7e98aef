-- Sixteen bytes as four words, and two words as an element of 64 bits.
-- Assumes nothing.
use mathlib.Core.Path.{◌≡◌, ap, ◌∙◌}
use mathlib.Core.List.{List}
use Prim.Native.Nat.{ℕ, zero, suc, ◌+◌, ◌*◌, ◌<◌}
use native.Mathlib.Omega.{arith}
use lib.IntN.{ℤ}
use lib.ListN.{get_or}
use Rattle.integer.specs.Number.{signed}
use Rattle.isa.specs.Register.{Bytes, D, bytes, bits, pairs, little, element}
use Rattle.isa.specs.Stage.{lane, LanesOf, WordsOf}

-- the number in four bytes
abbrev four : Bytes → ℕ → ℕ
four b i = b i + 256 * (b (i + 1) + 256 * (b (i + 2) + 256 * b (i + 3)))

pub words_of : (s : List ℕ) (b : Bytes) → get_or s 0 0 ≡ four b 0 → get_or s 1 0 ≡ four b 4 → get_or s 2 0 ≡ four b 8 → get_or s 3 0 ≡ four b 12 → WordsOf s b
unfolding little
words_of s b p q r t = record { at = by_place }
  where
    by_place : (k : ℕ) → k < 4 → get_or s k 0 ≡ little b (4 * k) 4
    by_place zero h = omega arith
    by_place (suc zero) h = omega arith
    by_place (suc (suc zero)) h = omega arith
    by_place (suc (suc (suc zero))) h = omega arith
    by_place (suc (suc (suc (suc k)))) h = absurd (omega arith)

-- an element of 64 bits by its words
pub lanes-of : (s : List ℤ) {w : List ℕ} {b : Bytes} → WordsOf w b →
    lane s 0 ≡ signed 64 (get_or w 0 0 + 4294967296 * get_or w 1 0) → lane s 1 ≡ signed 64 (get_or w 2 0 + 4294967296 * get_or w 3 0) → LanesOf D s b
unfolding little element bits bytes pairs
lanes-of s {w} {b} h p q = record { at = by_place }
  where
    by_place : (e : ℕ) → e < 2 → lane s e ≡ signed 64 (little b (8 * e) 8)
    by_place zero l = p ∙ ap (signed 64) (omega (arith, h.at 0 (omega arith), h.at 1 (omega arith)))
    by_place (suc zero) l = q ∙ ap (signed 64) (omega (arith, h.at 2 (omega arith), h.at 3 (omega arith)))
    by_place (suc (suc e)) l = absurd (omega arith)
