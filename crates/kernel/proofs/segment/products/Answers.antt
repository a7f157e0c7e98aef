use mathlib.Core.Path.{◌≡◌}
use lib.ListN.{length}
use native.Mathlib.Omega.{arith}
use Rattle.std.proofs.Common.{rules}
use Rattle.isa.proofs.Made.{made_all}
use Rattle.kernel.proofs.Values.{value-at, store, of_product}
use Rattle.kernel.proofs.segment.products.Goals as goal

pub loop-e-preserved : goal.loop-e-preserved
loop-e-preserved g c = let x : length c.args.x ≡ g.row.K = search rules in
    let y : length c.args.y ≡ g.row.K = search rules in
    let z : length c.args.z ≡ g.row.K = search rules in
    let value = g.L.Lane.value in
    let l = c.loop-e in (
      l.invariant.0,
      λ f h. store value l.r (l.invariant.1 f h) (omega arith) _
          (of_product f (h _ _ _ _ _ c.work.ensures) (value-at value c.args.x _ _ (omega (arith, x))) c.minus_at.ensures (value-at value c.args.y _ _ (omega (arith, y))) (value-at value c.args.z _ _ (omega (arith, z)))),
    )

pub returns : goal.returns
returns g c f h = record { at = (λ e l. made_all (c.loop-e.invariant.1 f h) (omega arith) e (omega (arith, g.met.L.Lane.count))) }
