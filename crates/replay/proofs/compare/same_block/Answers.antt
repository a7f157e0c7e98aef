use native.Mathlib.Omega.{arith}
use Prim.Native.Nat.{◌-◌}
use Rattle.replay.proofs.Files.{block_more}
use Rattle.replay.proofs.compare.same_block.Goals as goal

pub loop-i-init : goal.loop-i-init
loop-i-init c = (omega arith, λ e i h. absurd (omega arith))

pub overflow_add-same : goal.overflow_add-same
overflow_add-same c = omega arith

pub bounds-a-at : goal.bounds-a-at
bounds-a-at c = omega arith

pub overflow_add-same-in-loop-i : goal.overflow_add-same-in-loop-i
overflow_add-same-in-loop-i c = omega arith

pub bounds-b-at : goal.bounds-b-at
bounds-b-at c = omega arith

pub loop-i-preserved : goal.loop-i-preserved
loop-i-preserved c = let l = c.loop-i in
    let a = c.args in
    (omega arith, block_more a.a.now a.b.now a.at l.i l.same l.invariant.1)

pub returns : goal.returns
returns c = λ same i h. c.loop-i.invariant.1 same i (omega (arith, c.loop-i-test.false))
