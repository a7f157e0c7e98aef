use mathlib.Core.Path.{◌≡◌, ◌∙◌, ap₂}
use lib.ListN.{length}
use native.Mathlib.Omega.{arith}
use Rattle.std.proofs.Common.{rules}
use Rattle.integer.specs.Lane.{doubled_high}
use Rattle.isa.specs.Register.{bits}
use Rattle.isa.proofs.Made.{made_all}
use Rattle.kernel.proofs.Values.{value-at, store}
use Rattle.kernel.proofs.segment.high_halves.Goals as goal

pub loop-e-preserved : goal.loop-e-preserved
loop-e-preserved g c = let x : length c.args.x ≡ g.row.K = search rules in
    let z : length c.args.z ≡ g.row.K = search rules in
    let value = g.L.Lane.value in
    let l = c.loop-e in
    store value l.r l.invariant (omega arith) _
    (c.doubled_high.ensures ∙ ap₂ (doubled_high (bits g.L.Lane.size)) (value-at value c.args.x _ _ (omega (arith, x))) (value-at value c.args.z _ _ (omega (arith, z))))

pub returns : goal.returns
returns g c = record { at = (λ e h. made_all c.loop-e.invariant (omega arith) e (omega (arith, g.met.L.Lane.count))) }
