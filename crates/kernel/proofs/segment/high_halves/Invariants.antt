-- `kernel::segment::high_halves` meets its contract: after e turns the first e lanes are worked out.
use Prim.Native.Nat.{◌-◌}
use lib.IntN.{pos}
use Rattle.std.specs.Prelude.{map}
use Rattle.integer.specs.Lane.{doubled_high}
use Rattle.isa.specs.Register.{bits}
use Rattle.isa.specs.Stage.{lane}
use Rattle.isa.proofs.Made.{Made}
use Rattle.kernel.proofs.segment.high_halves.Given as goal

abbrev pub invariant-loop-e : goal.invariant-loop-e
invariant-loop-e g l = let value = g.L.Lane.value in
    Made (pos 0) g.row.K l.e (λ k. doubled_high (bits g.L.Lane.size) (lane (map value l.x) k) (lane (map value l.z) k)) (map value l.r)

abbrev pub decreases-loop-e : goal.decreases-loop-e
decreases-loop-e g l = g.row.K - l.e
