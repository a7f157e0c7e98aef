-- A flag is 0 or 1.
use native.Mathlib.Omega.{arith}
use borrow.Author.Tests.{lt-ltb, le-ltb, ne_eqb}
use Rattle.stream.proofs.case.flag_before.Goals as goal

pub returns-then-n-lt2 : goal.returns-then-n-lt2
returns-then-n-lt2 c = rw (lt-ltb c.args.n 2 c.if-n-lt2.true)

pub returns : goal.returns
returns c = let n = c.args.n in rw (le-ltb n 2 c.if-n-lt2.false, ne_eqb n 1 (λ e. omega (arith, c.if-n-lt2.false)))
