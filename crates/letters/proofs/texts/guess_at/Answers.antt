-- A number or a text, by the tables.
use mathlib.Core.Path.{sym, ap, ◌∙◌}
use Prim.Native.Nat.{suc}
use native.Mathlib.Omega.{arith}
use lib.ListN.{get_or, drop, drop_of_length-le}
use lib.Seq.{drop-cons}
use Rattle.grammar.specs.Follow.{guess}
use Rattle.grammar.specs.Grammar.{alphabet, unused}
use Rattle.grammar.proofs.Packed.{letter_at, guess-none, guess-text-first}
use Rattle.letters.proofs.texts.guess_at.Goals as goal

pub returns-then-s-at : goal.returns-then-s-at
returns-then-s-at c = λ x p. guess-none (get_or alphabet x unused) ∙ ap (guess (get_or alphabet x unused)) (sym (drop_of_length-le c.args.s.now c.if-s-at.true))

pub number_at-requires : goal.number_at-requires
number_at-requires c = (c.requires, omega (arith, c.first_in.ensures, c.if-first_in-lt-NUMBERS.true), c.if-s-at.false)

pub returns : goal.returns
returns c = let s = c.args.s.now in
    let at = c.args.at in
    λ x p.
    c.starting_with.ensures x p
    ∙ guess-text-first (get_or alphabet x unused) (get_or s at 0) (drop (suc at) s) ((letter_at x p.low).listed (omega (arith, p.is, c.first_in.ensures, c.if-first_in-lt-NUMBERS.false)))
    ∙ ap (guess (get_or alphabet x unused)) (sym (drop-cons s at 0 c.if-s-at.false))
