use borrow.Author.Tests.{eq-eqb, ne_eqb}
use Rattle.fields.proofs.naming.group_with.Goals as goal

pub returns-then-n-eq2 : goal.returns-then-n-eq2
returns-then-n-eq2 c = rw (eq-eqb c.args.n 2 c.if-n-eq2.true)

pub returns-else-n-eq2 : goal.returns-else-n-eq2
returns-else-n-eq2 c = rw (ne_eqb c.args.n 2 c.if-n-eq2.false)
