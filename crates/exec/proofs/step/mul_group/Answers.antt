-- `exec::step::mul_group` meets its contract.
use mathlib.Core.Path.{sym, subst}
use Prim.Native.Nat.{ℕ}
use Rattle.regfile.specs.Group.{GroupLying}
use Rattle.exec.proofs.Operation.{found-group, group-executed, group_lanes, grouped-at}
use Rattle.exec.proofs.step.mul_group.Goals as goal

pub group-requires : goal.group-requires
group-requires g c =
    let a = c.args in
    let p = c.operands-at.ensures in
    let found = found-group a.layout.now.l a.file.now c.requires.held a.a c.requires.valid _ _ p.dest p.second in
    subst (λ (n : ℕ). GroupLying a.layout.now.l a.file.now n c.operands-at.result.dest c.operands-at.result.second) c.requires.count found.lying

pub returns : goal.returns
returns g c =
    let a = c.args in
    let p = c.operands-at.ensures in
    let found = found-group a.layout.now.l a.file.now c.requires.held a.a c.requires.valid _ _ p.dest p.second in
    group-executed a.layout.now.l a.a a.file.now c.requires.held _ _ found _
    (grouped-at a.layout.now.l (λ n. n) (λ n. group_lanes a.a.size) a.file.now _ _ _ c.requires.count c.group.ensures)
