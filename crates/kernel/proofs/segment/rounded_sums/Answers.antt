use mathlib.Core.Path.{◌≡◌, refl, sym}
use lib.ListN.{length}
use native.Mathlib.Omega.{arith}
use Rattle.std.proofs.Common.{rules, map}
use Rattle.integer.specs.Number.{rounded}
use Rattle.isa.specs.Register.{bits}
use Rattle.isa.proofs.Made.{begun-none, begun_more, begun_all}
use Rattle.isa.proofs.Element.{towards_none, towards-more}
use Rattle.kernel.proofs.Values.{value-at, values-set, values-replicate, of_product}
use Rattle.kernel.proofs.segment.rounded_sums.Goals as goal

pub loop-e-init : goal.loop-e-init
loop-e-init g c = rw (values-replicate g.L.ByElement.sum g.row.K c.none-r.result, c.none-r.ensures) (begun-none g.row.K, towards_none g.L.Lane.size g.row.K (map g.L.Lane.value c.args.x))

pub loop-e-preserved : goal.loop-e-preserved
loop-e-preserved g c = let x : length c.args.x ≡ g.row.K = search rules in
    let y : length c.args.y ≡ g.row.K = search rules in
    let value = g.L.Lane.value in
    let l = c.loop-e in
    rw (values-set g.L.ByElement.sum l.r l.e c.rounding.result) (
      begun_more l.invariant.0 (omega arith) (omega arith) _
          (of_product (rounded (bits g.L.Lane.size)) c.rounding.ensures.0 (value-at value c.args.x _ _ (omega (arith, x))) refl (value-at value c.args.y _ _ (omega (arith, y))) refl),
      towards-more l.invariant.1 l.e (omega (arith, l.invariant.0.made.sized)) _ (rw (sym (value-at value c.args.x l.e c.index-x-e.result (omega (arith, x)))) c.rounding.ensures.1),
    )

pub returns : goal.returns
returns g c = (record { at = (λ e h. begun_all c.loop-e.invariant.0 (omega arith) e) }, c.loop-e.invariant.1)
