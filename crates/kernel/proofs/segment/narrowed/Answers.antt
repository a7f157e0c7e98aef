use mathlib.Core.Path.{◌≡◌, ◌∙◌, ap}
use lib.ListN.{length}
use native.Mathlib.Omega.{arith}
use Rattle.std.proofs.Common.{rules}
use Rattle.integer.specs.Number.{clamp}
use Rattle.isa.specs.Register.{bits}
use Rattle.isa.proofs.Made.{made_all}
use Rattle.kernel.proofs.Values.{store, value-at}
use Rattle.kernel.proofs.segment.narrowed.Goals as goal

pub narrow-requires : goal.narrow-requires
narrow-requires g c = let s : length c.args.s ≡ g.row.K = search rules in
    let x : length c.args.x ≡ g.row.K = search rules in
    let l = c.loop-e in
    rw (value-at g.L.ByElement.sum c.args.s l.e c.index-s-e.result (omega (arith, s)), value-at g.L.Lane.value c.args.x l.e c.index-x-e.result (omega (arith, x))) (c.requires.at l.e (omega (arith, g.met.L.Lane.count)))

pub loop-e-preserved : goal.loop-e-preserved
loop-e-preserved g c = let s : length c.args.s ≡ g.row.K = search rules in
    let l = c.loop-e in
    store g.L.Lane.value l.r l.invariant (omega arith) _ (c.narrow.ensures ∙ ap (clamp (bits g.L.Lane.size)) (value-at g.L.ByElement.sum c.args.s _ _ (omega (arith, s))))

pub returns : goal.returns
returns g c = record { at = (λ e h. made_all c.loop-e.invariant (omega arith) e (omega (arith, g.met.L.Lane.count))) }
