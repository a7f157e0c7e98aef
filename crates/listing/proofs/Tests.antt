-- Two comparisons that hold together answer alike. `ltb a b` is `leb (suc a) b`, so this serves both.
use mathlib.Core.Path.{◌≡◌, sym, ◌∙◌}
use Prim.Native.Nat.{ℕ, suc, ◌+◌, ◌-◌, ◌*◌, ◌/◌, ◌≤◌, ◌<◌}
use mathlib.Core.Bool.{true, false}
use native.Mathlib.Omega.{arith}
use native.Mathlib.Decide.{dec_le}
use borrow.Author.Tests.{le-leb, lt-leb, lt-ltb}
use lib.Dec.{leb, ltb}
use Rattle.listing.specs.Listing.{limit}

pub leb-alike : (a b c d : ℕ) → (a ≤ b → c ≤ d) → (c ≤ d → a ≤ b) → leb a b ≡ leb c d
leb-alike a b c d f g =
    elim (dec_le a b) [
      | yes h ↦ le-leb a b h ∙ sym (le-leb c d (f h))
      | no h ↦
          elim (dec_le c d) [
            | yes k ↦ absurd (h (g k))
            | no k ↦ lt-leb a b (omega arith) ∙ sym (lt-leb c d (omega arith))
          ]
    ]

-- room for the lines: the division that the code makes, and the product that the definition has
pub room_small : (room words : ℕ) → room < 32 → false ≡ leb (21 * words + 32) room
room_small room words h = sym (lt-leb (21 * words + 32) room (omega arith))

pub room-alike : (room words : ℕ) → 32 ≤ room → leb words ((room - 32) / 21) ≡ leb (21 * words + 32) room
room-alike room words h = leb-alike words ((room - 32) / 21) (21 * words + 32) room (λ k. omega arith) (λ k. omega arith)

-- more words than may be listed: the difference that the code makes, and the sum that the definition has
pub over-already : (done words : ℕ) → limit < done → true ≡ ltb limit (done + words)
over-already done words h = sym (lt-ltb limit (done + words) (omega arith))

pub over-alike : (done words : ℕ) → done ≤ limit → ltb (limit - done) words ≡ ltb limit (done + words)
over-alike done words h = leb-alike (suc (limit - done)) words (suc limit) (done + words) (λ k. omega arith) (λ k. omega arith)
