-- `kernel::segment::narrowed` meets its contract: after e turns the first e lanes are clamped.
use Prim.Native.Nat.{◌-◌}
use lib.IntN.{pos}
use Rattle.std.specs.Prelude.{map}
use Rattle.integer.specs.Number.{clamp}
use Rattle.isa.specs.Register.{bits}
use Rattle.isa.specs.Stage.{lane}
use Rattle.isa.proofs.Made.{Made}
use Rattle.kernel.proofs.segment.narrowed.Given as goal

abbrev pub invariant-loop-e : goal.invariant-loop-e
invariant-loop-e g l =
    Made (pos 0) g.row.K l.e (λ k. clamp (bits g.L.Lane.size) (lane (map g.L.ByElement.sum l.s) k)) (map g.L.Lane.value l.r)

abbrev pub decreases-loop-e : goal.decreases-loop-e
decreases-loop-e g l = g.row.K - l.e
