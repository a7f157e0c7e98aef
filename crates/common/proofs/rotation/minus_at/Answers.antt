-- `common::rotation::minus_at` meets its contract.
use Rattle.std.proofs.Common.{eq-eqb, ne_eqb}
use Rattle.isa.specs.Stage.{minus_at}
use Rattle.common.proofs.rotation.minus_at.Goals as goal

pub returns-then-e-eq0 : goal.returns-then-e-eq0
unfolding minus_at
returns-then-e-eq0 c = simp (eq-eqb _ _ c.if-e-eq0.true)

pub returns-else-e-eq0 : goal.returns-else-e-eq0
unfolding minus_at
returns-else-e-eq0 c = simp (ne_eqb _ _ c.if-e-eq0.false)
