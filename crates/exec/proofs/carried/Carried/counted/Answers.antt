-- `exec::carried::Carried::counted` meets its contract.
use mathlib.Core.Path.{refl}
use Rattle.exec.proofs.carried.Carried.counted.Goals as goal
use Rattle.exec.proofs.carried.Carried.counted.Goals.{then-self, else-self}

pub returns : goal.returns
returns c = (elim c.if-self.branch [ then-self w ↦ rw w.if-self.true w.result-is | else-self w ↦ rw w.if-self.false w.result-is ], refl)
