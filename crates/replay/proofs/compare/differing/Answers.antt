use native.Mathlib.Omega.{arith}
use Prim.Native.Nat.{◌-◌}
use Rattle.replay.proofs.Files.{alike-one}
use Rattle.replay.proofs.compare.differing.Goals as goal

pub loop-i-init : goal.loop-i-init
loop-i-init c = c.requires.from_in_bounds

pub bounds-b-i : goal.bounds-b-i
bounds-b-i c = omega (arith, c.requires.b_len)

pub returns-then-a-i : goal.returns-then-a-i
returns-then-a-i c = let l = c.loop-i in
    record { within = l.invariant.0; alike = l.invariant.1; here = λ more. c.if-a-i.true }

pub loop-i-preserved : goal.loop-i-preserved
loop-i-preserved c = let a = c.args in
    (omega arith, alike-one a.a.now a.b.now c.loop-i.i c.loop-i.invariant.1 c.if-a-i.false)

pub returns : goal.returns
returns c = let l = c.loop-i in
    record { within = omega arith; alike = λ i h. l.invariant.1 i (omega (arith, c.loop-i-test.false)); here = λ more e. absurd (omega arith) }
