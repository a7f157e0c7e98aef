-- By the digits at the place and behind it; else by the first byte.
use mathlib.Core.Path.{◌≡◌, sym, ap, ◌∙◌}
use mathlib.Core.List.{List, [], ◌∷◌, map}
use Prim.Native.Nat.{ℕ}
use lib.ListN.{get_or, drop}
use lib.Seq.{drop-cons, drop-drop}
use Rattle.grammar.specs.Template.{decimal}
use Rattle.grammar.specs.Grammar.{alphabet, unused}
use Rattle.grammar.specs.Follow.{guess_text}
use Rattle.grammar.specs.Packed.{numbers_of, placed_two}
use Rattle.grammar.proofs.Packed.{number-none, number-two, number-one, number-left, guess-is, numbers-texts}
use Rattle.letters.proofs.texts.number_at.Goals as goal

pub returns-in_default : goal.returns-in_default
returns-in_default c = let u = drop c.args.at c.args.s.now in
    λ x p. number-none (numbers_of (get_or alphabet x unused)) u (sym c.in_default.ensures.0) ∙ guess-is x u p.low (rw p.is at c.requires.1)

pub returns-in-Some-two_digits : goal.returns-in-Some-two_digits
returns-in-Some-two_digits c = let u = drop c.args.at c.args.s.now in
    λ x p.
    let ns = numbers_of (get_or alphabet x unused) in
    let two = ap (placed_two ns c.in-Some.f) (drop-drop 1 c.args.at c.args.s.now) ∙ sym (c.in-Some-two_digits.ensures x p) in
    number-two ns u c.in-Some.f (sym c.in-Some.ensures.0) c.in-Some-two_digits.two two ∙ guess-is x u p.low (rw p.is at c.requires.1)

pub returns-in-Some-place_of : goal.returns-in-Some-place_of
returns-in-Some-place_of c = let u = drop c.args.at c.args.s.now in
    λ x p.
    let ns = numbers_of (get_or alphabet x unused) in
    let none = ap (placed_two ns c.in-Some.f) (drop-drop 1 c.args.at c.args.s.now) ∙ sym (c.in_default-two_digits.ensures x p) in
    number-one ns u c.in-Some.f (sym c.in-Some.ensures.0) none c.in-Some-place_of.one (sym (c.in-Some-place_of.ensures x p)) ∙ guess-is x u p.low (rw p.is at c.requires.1)

pub returns : goal.returns
returns c = let at = c.args.at in
    let s = c.args.s.now in
    let u = drop at s in
    let byte : get_or s at 0 ≡ get_or u 0 0 = sym (ap (λ (w : List ℕ). get_or w 0 0) (drop-cons s at 0 c.requires.2)) in
    λ x p.
    let ns = numbers_of (get_or alphabet x unused) in
    let number = rw p.is at c.requires.1 in
    let none = ap (placed_two ns c.in-Some.f) (drop-drop 1 at s) ∙ sym (c.in_default-two_digits.ensures x p) in
    c.starting_with.ensures x p
    ∙ ap (λ (ws : List (List ℕ)). guess_text ws (get_or s at 0 ∷ [])) (numbers-texts x p.low number)
    ∙ ap (λ (b : ℕ). guess_text (map decimal ns) (b ∷ [])) byte
    ∙ number-left ns u c.in-Some.f (sym c.in-Some.ensures.0) none (sym (c.in_default-place_of.ensures x p))
    ∙ guess-is x u p.low number
