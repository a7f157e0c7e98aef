use native.Mathlib.Omega.{arith}
use mathlib.Core.Path.{sym, subst}
use Prim.Native.Nat.{◌<◌}
use Rattle.regfile.proofs.Sweep.{touched}
use Rattle.vector.proofs.element.touch.Goals as goal

pub returns : goal.returns
returns g c = let a = c.args in
    let small = subst (λ k. a.index < k) g.met.L.Lane.count c.requires.index_bound in
    touched a.form g.L.Lane.size a.index a.minus small a.file.now a.at.dest a.at.first a.at.second c.read16-c.result c.read16-n.result _
    c.by_element-s.result.bytes c.write16.new.s c.by_element-s.result.clamped c.read16-c.ensures c.read16-n.ensures
    c.element-b.ensures c.by_element-s.ensures c.write16.ensures
