-- `exec::step::mul_indexed` meets its contract.
use Rattle.exec.proofs.Operation.{indexed_executed}
use Rattle.exec.proofs.step.mul_indexed.Goals as goal

pub returns : goal.returns
returns g c =
    let a = c.args in
    let p = c.operands-at.ensures in
    indexed_executed a.layout.now.l a.file.now c.requires.held _ _ _ _ a.a c.requires.valid p.dest p.first p.second _ c.indexed.ensures
