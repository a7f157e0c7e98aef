-- By the letter.
use mathlib.Core.Path.{sym}
use lib.Dec.{lit<}
use borrow.Author.Tests.{ne_eqb}
use Rattle.letters.proofs.texts.slot_of.Goals as goal

pub returns-in-1 : goal.returns-in-1
returns-in-1 c = (rw c.in-1.is, lit< tt)

pub returns-in-5 : goal.returns-in-5
returns-in-5 c = (rw c.in-5.is, lit< tt)

pub returns-in_default : goal.returns-in_default
returns-in_default c = (sym (rw (ne_eqb c.args.x 1 c.in_default.in_default-own.rest.0.1, ne_eqb c.args.x 5 c.in_default.in_default-own.rest.1)), c.requires)
