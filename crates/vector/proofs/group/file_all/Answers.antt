use native.Mathlib.Omega.{arith}
use Rattle.vector.proofs.Spread.{next, filed-at}
use Rattle.vector.proofs.group.file_all.Goals as goal

pub loop-r-preserved : goal.loop-r-preserved
loop-r-preserved g c =
    let a = c.args in
    let i = c.loop-r in
    record {
      here = next a.at a.w i.r i.place i.invariant.here;
      so_far = filed-at a.at a.w a.file.now a.new c.requires.apart i.r _ _ i.file c.write16.new.s (omega arith) (omega (arith, i.invariant.here)) c.write16.ensures i.invariant.so_far;
    }
