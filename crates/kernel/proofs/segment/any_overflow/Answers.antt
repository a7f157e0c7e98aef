use mathlib.Core.Path.{◌≡◌, ◌∙◌, ap}
use lib.ListN.{length}
use native.Mathlib.Omega.{arith}
use Rattle.std.proofs.Common.{rules}
use Rattle.integer.specs.Number.{clamps}
use Rattle.isa.specs.Register.{bits}
use Rattle.isa.proofs.Element.{told_none, told-hit, told-miss, told-all}
use Rattle.kernel.proofs.Values.{value-at}
use Rattle.kernel.proofs.segment.any_overflow.Goals as goal
use Rattle.kernel.proofs.segment.any_overflow.Goals.{then-overflows, else-overflows}

pub loop-e-init : goal.loop-e-init
loop-e-init g c = told_none

pub loop-e-preserved : goal.loop-e-preserved
loop-e-preserved g c = let s : length c.args.s ≡ g.row.K = search rules in
    let l = c.loop-e in
    let found = c.overflows.ensures ∙ ap (clamps (bits g.L.Lane.size)) (value-at g.L.ByElement.sum c.args.s _ _ (omega (arith, s))) in
    elim c.if-overflows.branch [
      | then-overflows w ↦ told-hit l.invariant (omega arith) found w.if-overflows.true w.any-is
      | else-overflows w ↦ told-miss l.invariant (omega arith) found w.if-overflows.false w.any-is
    ]

pub returns : goal.returns
returns g c = told-all c.loop-e.invariant (omega arith)
