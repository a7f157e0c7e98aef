use native.Mathlib.Omega.{arith}
use Prim.Native.Nat.{◌*◌, ◌%◌}
use mathlib.Core.Path.{◌≡◌}
use Rattle.integer.specs.Lane.{doubled_high}
use Rattle.isa.specs.Meaning.{lane_wise}
use Rattle.isa.specs.Register.{bits}
use Rattle.regfile.proofs.Group.{lane-wise}
use Rattle.vector.proofs.Spread.{groups-end, group_spread, group_next}
use Rattle.vector.proofs.group.group.Goals as goal

pub worked-new-requires : goal.worked-new-requires
worked-new-requires g c =
    let a = c.args in
    let i = c.loop-k in
    let here : i.k * 16 % 18446744073709551616 ≡ 16 * i.k = omega arith in
    group_spread a.l g.row.COUNT _ (lane-wise g.L.Lane.size (doubled_high (bits g.L.Lane.size))) a.d a.m a.file.now c.requires i.file i.k i.invariant _ here c.loop-k-test.true

pub file_all-requires : goal.file_all-requires
file_all-requires g c =
    let a = c.args in
    let i = c.loop-k in
    let here : i.k * 16 % 18446744073709551616 ≡ 16 * i.k = omega arith in
    group_spread a.l g.row.COUNT _ (lane-wise g.L.Lane.size (doubled_high (bits g.L.Lane.size))) a.d a.m a.file.now c.requires i.file i.k i.invariant _ here c.loop-k-test.true

pub loop-k-preserved : goal.loop-k-preserved
loop-k-preserved g c =
    let a = c.args in
    let i = c.loop-k in
    let here : i.k * 16 % 18446744073709551616 ≡ 16 * i.k = omega arith in
    group_next a.l g.row.COUNT _ (lane-wise g.L.Lane.size (doubled_high (bits g.L.Lane.size))) a.d a.m a.file.now c.requires i.file i.k i.invariant _ here c.loop-k-test.true
    _ _ _ c.read16-z.ensures c.worked-new.ensures c.file_all.ensures

pub returns : goal.returns
returns g c =
    let a = c.args in
    let i = c.loop-k in
    groups-end a.l g.row.COUNT _ (lane-wise g.L.Lane.size (doubled_high (bits g.L.Lane.size))) a.d a.m a.file.now c.requires i.file i.k i.invariant c.loop-k-test.false
