-- The alphabet can be read, and no two templates have a line in common.
use Prim.Native.Nat.{ℕ, zero, suc, ◌<◌}
use mathlib.Core.Path.{◌≡◌, refl}
use mathlib.Core.Bool.{Bool, true, ◌&&◌}
use mathlib.Core.List.{List, [], ◌∷◌}
use native.Mathlib.Decide.{ℕ_discrete}
use borrow.Author.Tests.{ne_eqb}
use lib.ListN.{get_or}
use Rattle.grammar.specs.Template.{Choices, decimal, count}
use Rattle.grammar.specs.Grammar.{alphabet, unused, letter_b, letter_f, slot_of, variables, templates}
use Rattle.grammar.proofs.Guess.{and-true, sound_choices, choices-parts}
use Rattle.grammar.proofs.Follow.{Readable}
use Rattle.grammar.proofs.Search.{clear_all, apart_all}

abbrev sound_all : List Choices → Bool
sound_all [] = true
sound_all (k ∷ ks) = sound_choices k && sound_all ks

sound-at : (ks : List Choices) (x : ℕ) → sound_all ks ≡ true → sound_choices (get_or ks x unused) ≡ true
sound-at [] x h = refl
sound-at (k ∷ ks) zero h = (and-true (sound_choices k) (sound_all ks) h).0
sound-at (k ∷ ks) (suc x) h = sound-at ks x (and-true (sound_choices k) (sound_all ks) h).1

pub sound-letter : (x : ℕ) → sound_choices (get_or alphabet x unused) ≡ true
sound-letter x = sound-at alphabet x refl

-- how many values each slot has
abbrev pub most : ℕ → ℕ
most x = count (get_or alphabet x unused)

-- letters of one slot have as many
same_count : (x : ℕ) → count (get_or alphabet x unused) ≡ most (slot_of x)
same_count x =
    elim (ℕ_discrete x letter_b) [
      | yes e ↦ rw e
      | no n ↦
          elim (ℕ_discrete x letter_f) [
            | yes e ↦ rw e
            | no m ↦ rw (ne_eqb x letter_b n, ne_eqb x letter_f m)
          ]
    ]

pub readable : Readable variables most
unfolding variables
readable = record {
  sound = sound-letter;
  counts = same_count;
  some = λ x. (choices-parts (get_or alphabet x unused) (sound-letter x)).0;
  few = λ x. (choices-parts (get_or alphabet x unused) (sound-letter x)).1;
}

-- a value that a letter's slot may have, the letter may have
pub letter-fits : (x v : ℕ) → v < most (slot_of x) → v < count (get_or alphabet x unused)
letter-fits x v h = rw (same_count x) h

pub templates-clear : clear_all variables templates ≡ true
unfolding variables
templates-clear = refl

-- groups of two and of four are told apart by the last register, since the first says which group it is
pub templates-apart : apart_all variables templates ≡ true
unfolding variables decimal
templates-apart = refl
