-- By whether the slot has a value.
use mathlib.Core.Path.{sym, ◌∙◌}
use borrow.Author.Tests.{eq-eqb, ne_eqb}
use Rattle.letters.proofs.texts.value_at.Goals as goal

pub returns-then-v-eq-UNSET : goal.returns-then-v-eq-UNSET
returns-then-v-eq-UNSET c = λ x p. c.guess_at.ensures x p ∙ sym (rw (eq-eqb c.args.v 255 c.if-v-eq-UNSET.true))

pub returns : goal.returns
returns c = λ x p. sym (rw (ne_eqb c.args.v 255 c.if-v-eq-UNSET.false))
