use mathlib.Core.Path.{refl}
use native.Mathlib.Omega.{arith}
use Rattle.isa.proofs.Made.{made_none, made_more, made_all}
use Rattle.regfile.proofs.Place.{next_start}
use Rattle.regfile.proofs.part.starts.Goals as goal

pub loop-start-init : goal.loop-start-init
loop-start-init c = (made_none refl, omega arith, omega arith)

pub overflow_add-at : goal.overflow_add-at
overflow_add-at c = let l = c.loop-start in omega (arith, l.invariant.2, c.requires)

pub loop-start-preserved : goal.loop-start-preserved
loop-start-preserved c = let l = c.loop-start in
    let w = c.args.w in
    (made_more l.invariant.0 (omega arith) _ l.invariant.1, next_start w l.start-index l.at l.invariant.1, omega (arith, l.invariant.2, c.requires))

pub returns : goal.returns
returns c = record { at = made_all c.loop-start.invariant.0 (omega arith) }
