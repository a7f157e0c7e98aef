use mathlib.Core.Path.{◌≡◌, ◌∙◌, ap}
use lib.ListN.{length}
use Prim.Native.Nat.{ℕ, ◌/◌, ◌<◌, ◌%◌, ◌+◌}
use native.Mathlib.Nat.{mod-lt}
use native.Mathlib.Omega.{arith}
use Rattle.std.proofs.Common.{rules, map}
use Rattle.isa.specs.Register.{pairs}
use Rattle.isa.specs.Stage.{lane}
use Rattle.isa.proofs.Made.{made_all}
use Rattle.isa.proofs.Places.{index-place}
use Rattle.kernel.proofs.Values.{some-pairs, store, value-at}
use Rattle.kernel.proofs.segment.repeated.Goals as goal

pub nonzero_rem-k : goal.nonzero_rem-k
nonzero_rem-k g c = omega (arith, some-pairs g.L.Lane.size, g.met.L.Lane.count)

pub loop-e-preserved : goal.loop-e-preserved
loop-e-preserved g c = let long : length c.args.m ≡ g.row.K = search rules in
    let value = g.L.Lane.value in
    let l = c.loop-e in
    let index = c.args.index in
    let half : g.row.K / 2 ≡ pairs g.L.Lane.size = omega (arith, g.met.L.Lane.count) in
    let below : index % (g.row.K / 2) < g.row.K / 2 = mod-lt index (omega (arith, half, some-pairs g.L.Lane.size)) in
    store value l.r l.invariant (omega arith) _
    (value-at value c.args.m _ _ (omega (arith, long, below))
    ∙ ap (lane (map value c.args.m)) (ap (λ (p : ℕ). index % p + index % p + l.e % 2) half ∙ index-place (index % pairs g.L.Lane.size) l.e))

pub returns : goal.returns
returns g c = record { at = (λ e h. made_all c.loop-e.invariant (omega arith) e (omega (arith, g.met.L.Lane.count))) }
