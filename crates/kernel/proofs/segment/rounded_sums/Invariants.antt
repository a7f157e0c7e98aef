-- `kernel::segment::rounded_sums` meets its contract: after e turns the first e lanes are summed, and the others are 0.
use Prim.Native.Nat.{◌-◌}
use lib.IntN.{pos, ◌*ℤ◌}
use Rattle.std.specs.Prelude.{map}
use Rattle.integer.specs.Number.{rounded, signed_by}
use Rattle.isa.specs.Register.{bits}
use Rattle.isa.specs.Stage.{lane, Towards}
use Rattle.isa.proofs.Made.{Begun}
use Rattle.kernel.proofs.segment.rounded_sums.Given as goal

abbrev pub invariant-loop-e : goal.invariant-loop-e
invariant-loop-e g l = let value = g.L.Lane.value in
    let r = map g.L.ByElement.sum l.r in
    Begun (pos 0) g.row.K l.count l.e (λ k. rounded (bits g.L.Lane.size) (lane (map value l.x) k) (signed_by l.minus (lane (map value l.y) k *ℤ value l.b))) r
    × Towards g.L.Lane.size r (map value l.x)

abbrev pub decreases-loop-e : goal.decreases-loop-e
decreases-loop-e g l = g.row.K - l.e
