use mathlib.Core.Path.{◌≡◌, ◌∙◌}
use lib.ListN.{length}
use native.Mathlib.Omega.{arith}
use Rattle.std.proofs.Common.{rules}
use Rattle.isa.proofs.Made.{made_all}
use Rattle.isa.proofs.Places.{second-odd, second-even}
use Rattle.kernel.proofs.Values.{store, taken}
use Rattle.kernel.proofs.segment.swapped.Goals as goal
use Rattle.kernel.proofs.segment.swapped.Goals.{then-odd, else-odd}

pub loop-e-preserved : goal.loop-e-preserved
loop-e-preserved g c = let long : length c.args.m ≡ g.row.K = search rules in
    let value = g.L.Lane.value in
    let l = c.loop-e in
    store value l.r l.invariant (omega arith) _
    (elim c.if-odd.branch [
      | then-odd w ↦ taken value c.args.m _ _ _ w.r-is (omega (arith, long, g.met.L.Lane.count, w.partner.ensures)) (w.partner.ensures ∙ second-odd l.e w.if-odd.true)
      | else-odd w ↦ taken value c.args.m _ _ _ w.r-is (omega (arith, long, g.met.L.Lane.count)) (second-even l.e w.if-odd.false)
    ])

pub returns : goal.returns
returns g c = record { at = (λ e h. made_all c.loop-e.invariant (omega arith) e (omega (arith, g.met.L.Lane.count))) }
