-- `kernel::segment::products` meets its contract: after e turns the first e lanes are worked out.
use Prim.Native.Nat.{◌-◌}
use lib.IntN.{pos, ◌*ℤ◌}
use Rattle.std.specs.Prelude.{map}
use Rattle.integer.specs.Number.{signed_by}
use Rattle.isa.specs.Stage.{lane, minus_at}
use Rattle.isa.proofs.Made.{Made}
use Rattle.kernel.specs.Work.{Multiplies}
use Rattle.kernel.proofs.segment.products.Given as goal

abbrev pub invariant-loop-e : goal.invariant-loop-e
invariant-loop-e g l = let value = g.L.Lane.value in
    goal.F-IsAlwaysCallable g l.work
    × ((f : _) → Multiplies value (goal.F-post g l.work) f →
    Made (pos 0) g.row.K l.e (λ k. f (lane (map value l.x) k) (signed_by (minus_at l.real l.imaginary k) (lane (map value l.y) k *ℤ lane (map value l.z) k))) (map value l.r))

abbrev pub decreases-loop-e : goal.decreases-loop-e
decreases-loop-e g l = g.row.K - l.e
