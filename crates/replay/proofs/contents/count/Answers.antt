-- The number is cut short, allowed or not.
use mathlib.Core.Path.{sym, ap, ◌∙◌}
use Rattle.std.specs.Prelude.{Some}
use Rattle.replay.proofs.Extent.{count_cut, count_small, count-large}
use Rattle.replay.proofs.contents.count.Goals as goal

pub returns-in_err-number_at : goal.returns-in_err-number_at
returns-in_err-number_at c = c.from_residual.ensures ∙ count_cut _ (sym c.number_at.ensures ∙ c.in_err-number_at.was)

pub returns-then-cases : goal.returns-then-cases
returns-then-cases c = count_small _ _ (sym c.number_at.ensures ∙ c.in_ok-number_at.was ∙ ap Some (sym c.wide-cases.ensures)) c.if-cases.true

pub returns : goal.returns
returns c = count-large _ _ (sym c.number_at.ensures ∙ c.in_ok-number_at.was ∙ ap Some (sym c.wide-cases.ensures)) c.if-cases.false
