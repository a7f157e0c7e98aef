-- `kernel::segment::any_overflow` meets its contract: `any` tells of the lanes passed.
use Prim.Native.Nat.{◌-◌}
use Rattle.std.specs.Prelude.{map}
use Rattle.integer.specs.Number.{clamps}
use Rattle.isa.specs.Register.{bits}
use Rattle.isa.specs.Stage.{lane}
use Rattle.isa.proofs.Element.{Told}
use Rattle.kernel.proofs.segment.any_overflow.Given as goal

abbrev pub invariant-loop-e : goal.invariant-loop-e
invariant-loop-e g l = Told g.row.K l.e (λ k. clamps (bits g.L.Lane.size) (lane (map g.L.ByElement.sum l.s) k)) l.any

abbrev pub decreases-loop-e : goal.decreases-loop-e
decreases-loop-e g l = g.row.K - l.e
