-- `exec::step::mul` meets its contract.
use Rattle.exec.proofs.Operation.{mul_executed}
use Rattle.exec.proofs.step.mul.Goals as goal

pub returns : goal.returns
returns g c =
    let a = c.args in
    let p = c.operands-at.ensures in
    mul_executed a.layout.now.l a.file.now c.requires.held _ _ _ _ a.a c.requires.valid p.dest p.first p.second _ c.products.ensures
