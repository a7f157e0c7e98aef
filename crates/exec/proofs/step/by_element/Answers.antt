-- `exec::step::by_element` meets its contract: the first segment by its function, and the others cleared.
use Rattle.exec.proofs.Operation.{found_within, element_executed}
use Rattle.exec.proofs.step.by_element.Goals as goal

pub elements-clamped-requires-clause-within : goal.elements-clamped-requires-clause-within
elements-clamped-requires-clause-within g c =
    let a = c.args in
    let p = c.operands-at.ensures in
    let v = c.requires.valid in
    found_within a.layout.now.l a.file.now c.requires.held _ _ _ (record { dest = v.rd; first = v.rn; second = v.rm }) _ _ _ p.dest p.first p.second

pub returns : goal.returns
returns g c =
    let a = c.args in
    let p = c.operands-at.ensures in
    element_executed a.layout.now.l a.file.now c.requires.held _ _ _ _ a.a p.dest p.first p.second _ _ _ c.elements-clamped.ensures c.clear_above.ensures
