-- By the two digits.
use mathlib.Core.Path.{sym, ap, ◌∙◌}
use Prim.Native.Nat.{ℕ, ◌+◌}
use lib.ListN.{get_or}
use Rattle.grammar.specs.Grammar.{alphabet, unused}
use Rattle.grammar.specs.Packed.{numbers_of, placed}
use Rattle.grammar.proofs.Packed.{two-zero, two_none, two-placed}
use Rattle.letters.proofs.texts.two_digits.Goals as goal

pub returns-then-f-eq0 : goal.returns-then-f-eq0
returns-then-f-eq0 c = λ x p. two-zero _ _ _ c.if-f-eq0.true

pub returns-in_err-e : goal.returns-in_err-e
returns-in_err-e c = λ x p. c.from_residual.ensures ∙ two_none _ _ _ (sym c.digit_at.ensures.0 ∙ c.in_err-e.was)

pub returns : goal.returns
returns c = λ x p.
    c.place_of.ensures x p ∙ ap (λ (t : ℕ). placed (t + c.in_ok-e.e) (numbers_of (get_or alphabet x unused))) c.ten_times.ensures
    ∙ two-placed _ _ _ c.in_ok-e.e (sym c.digit_at.ensures.0 ∙ c.in_ok-e.was) c.if-f-eq0.false
