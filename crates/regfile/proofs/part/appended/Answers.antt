-- `regfile::part::appended` meets its contract.
use native.Mathlib.Omega.{arith}
use Rattle.regfile.proofs.Place.{appended-even, appended-odd, half-short}
use Rattle.regfile.proofs.part.appended.Goals as goal

pub overflow_add-twice : goal.overflow_add-twice
overflow_add-twice c = omega (arith, half-short c.args.half c.args.w c.args.n c.requires)

pub overflow_add-result : goal.overflow_add-result
overflow_add-result c = omega (arith, half-short c.args.half c.args.w c.args.n c.requires, c.requires.width)

pub returns-then-n-eq0 : goal.returns-then-n-eq0
returns-then-n-eq0 c = appended-even c.args.half c.args.w c.args.n c.requires c.if-n-eq0.true

pub returns-else-n-eq0 : goal.returns-else-n-eq0
returns-else-n-eq0 c = appended-odd c.args.half c.args.w c.args.n c.requires (omega (arith, c.if-n-eq0.false))
