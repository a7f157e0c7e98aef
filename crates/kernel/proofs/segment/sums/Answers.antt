use mathlib.Core.Path.{◌≡◌, ◌∙◌}
use lib.ListN.{length}
use native.Mathlib.Omega.{arith}
use Rattle.std.proofs.Common.{rules}
use Rattle.isa.proofs.Made.{made_all}
use Rattle.kernel.proofs.Values.{few-pairs, value-at, of_sum}
use Rattle.kernel.proofs.InPlace.{in-place-none, in-place-more, rest-at}
use Rattle.kernel.proofs.segment.sums.Goals as goal

pub loop-e-init : goal.loop-e-init
loop-e-init g c = let z : length c.args.z ≡ g.row.K = search rules in
    (c.requires, λ f h. in-place-none g.L.Lane.value z)

pub loop-e-preserved : goal.loop-e-preserved
loop-e-preserved g c = let x : length c.args.x ≡ g.row.K = search rules in
    let z : length c.args.z ≡ g.row.K = search rules in
    let value = g.L.Lane.value in
    let l = c.loop-e in (
      l.invariant.0,
      λ f h. let p = l.invariant.1 f h in
          in-place-more value p (omega arith) _
          (of_sum f (h _ _ _ _ c.work.ensures) (value-at value c.args.x _ _ (omega (arith, x))) c.minus_at.ensures (rest-at value p _ l.e _ (omega (arith, g.met.L.Lane.count, few-pairs g.L.Lane.size)) (omega arith) ∙ value-at value c.args.z _ _ (omega (arith, z)))),
    )

pub returns : goal.returns
returns g c f h = record { at = (λ e l. made_all (c.loop-e.invariant.1 f h).made (omega arith) e (omega (arith, g.met.L.Lane.count))) }
