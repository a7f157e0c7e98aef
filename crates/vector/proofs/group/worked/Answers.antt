use native.Mathlib.Omega.{arith}
use Prim.Native.Nat.{◌<◌}
use mathlib.Core.Path.{sym, subst, ◌∙◌}
use lib.ListN.{length-set}
use Rattle.integer.specs.Lane.{doubled_high}
use Rattle.isa.specs.Meaning.{lane_wise}
use Rattle.isa.specs.Register.{bits}
use Rattle.regfile.proofs.Group.{lane-wise}
use Rattle.std.proofs.Common.{rules}
use Rattle.vector.proofs.Spread.{next, worked-by}
use Rattle.vector.proofs.group.worked.Goals as goal

pub loop-r-preserved : goal.loop-r-preserved
loop-r-preserved g c =
    let a = c.args in
    let i = c.loop-r in
    let high = doubled_high (bits g.L.Lane.size) in
    let inside = subst (λ n. i.r < n) (sym i.invariant.sized) c.loop-r-test.true in
    record {
      here = next a.at a.w i.r i.place i.invariant.here;
      sized = length-set i.new i.r c.sqdmulh.result ∙ i.invariant.sized;
      so_far = worked-by a.at a.w (lane_wise g.L.Lane.size high) a.file.now a.z (lane-wise g.L.Lane.size high) i.r _ i.new c.read16.result _ c.sqdmulh.result
          inside (omega (arith, i.invariant.here)) c.read16.ensures (search rules) c.sqdmulh.ensures.at i.invariant.so_far;
    }
