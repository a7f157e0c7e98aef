use mathlib.Core.Path.{◌≡◌, subst}
use native.Mathlib.Omega.{arith}
use Rattle.regfile.specs.Bytes.{Stored}
use Rattle.regfile.proofs.Bytes.{store-none, store-more}
use Rattle.regfile.proofs.segment.write16.Goals as goal

pub loop-i-init : goal.loop-i-init
loop-i-init c = (omega arith, store-none _ _ _)

pub bounds-v-i : goal.bounds-v-i
bounds-v-i c = omega arith

pub overflow_add-s : goal.overflow_add-s
overflow_add-s c = omega arith

pub bounds-s-at : goal.bounds-s-at
bounds-s-at c = omega (arith, c.loop-i.invariant.1.size)

pub overflow_step-i : goal.overflow_step-i
overflow_step-i c = omega arith

pub loop-i-smaller : goal.loop-i-smaller
loop-i-smaller c = omega arith

pub loop-i-preserved : goal.loop-i-preserved
loop-i-preserved c = let l = c.loop-i in (omega arith, store-more _ _ _ _ _ (omega (arith, l.invariant.1.size)) l.invariant.1)

pub shape_of-s : goal.shape_of-s
shape_of-s c = c.loop-i.invariant.1.size

pub returns : goal.returns
returns c = let l = c.loop-i in
    let a = c.args in
    let done : l.i ≡ 16 = omega arith in
    subst (λ i. Stored a.s.now a.at i a.v l.s) done l.invariant.1
