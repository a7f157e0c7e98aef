-- `kernel::segment::sums` meets its contract: after e turns the first e lanes are worked out, and the others are the second source's.
use Prim.Native.Nat.{◌-◌}
use Rattle.std.specs.Prelude.{map}
use Rattle.integer.specs.Number.{signed_by}
use Rattle.isa.specs.Stage.{lane, minus_at}
use Rattle.kernel.specs.Work.{Adds}
use Rattle.kernel.proofs.InPlace.{InPlace}
use Rattle.kernel.proofs.segment.sums.Given as goal

abbrev pub invariant-loop-e : goal.invariant-loop-e
invariant-loop-e g l = let value = g.L.Lane.value in
    goal.F-IsAlwaysCallable g l.work
    × ((f : _) → Adds value (goal.F-post g l.work) f →
    InPlace value g.row.K l.e (λ k. f (lane (map value l.x) k) (signed_by (minus_at l.real l.imaginary k) (lane (map value l.fn.z) k))) l.fn.z l.r)

abbrev pub decreases-loop-e : goal.decreases-loop-e
decreases-loop-e g l = g.row.K - l.e
