use mathlib.Core.Path.{◌≡◌, refl, subst}
use native.Mathlib.Omega.{arith}
use lib.ListN.{length-set}
use Rattle.regfile.specs.Bytes.{Loaded}
use Rattle.regfile.proofs.Bytes.{load-none, load-more}
use Rattle.regfile.proofs.segment.read16.Goals as goal

pub loop-i-init : goal.loop-i-init
loop-i-init c = (omega arith, load-none _ _ _, refl)

pub overflow_add-v : goal.overflow_add-v
overflow_add-v c = omega arith

pub bounds-s-at : goal.bounds-s-at
bounds-s-at c = omega arith

pub bounds-v-i : goal.bounds-v-i
bounds-v-i c = omega arith

pub overflow_step-i : goal.overflow_step-i
overflow_step-i c = omega arith

pub loop-i-smaller : goal.loop-i-smaller
loop-i-smaller c = omega arith

pub loop-i-preserved : goal.loop-i-preserved
loop-i-preserved c = let l = c.loop-i in (omega arith, load-more _ _ _ _ (omega arith) l.invariant.1, simp length-set l.invariant.2)

pub returns : goal.returns
returns c = let l = c.loop-i in
    let a = c.args in
    let done : l.i ≡ 16 = omega arith in
    subst (λ i. Loaded a.s.now a.at i l.v) done l.invariant.1
