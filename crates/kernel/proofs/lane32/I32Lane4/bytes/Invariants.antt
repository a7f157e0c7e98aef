-- `kernel::lane32::I32Lane4::bytes` meets its contract: after e turns the bytes of e lanes are written.
use Prim.Native.Nat.{◌-◌, ◌*◌, ◌/◌, ◌%◌}
use Rattle.integer.specs.Number.{byte_of}
use Rattle.isa.specs.Stage.{lane}
use Rattle.isa.proofs.Made.{Made}
use Rattle.kernel.proofs.lane32.I32Lane4.bytes.Given as goal

abbrev pub invariant-loop-e : goal.invariant-loop-e
invariant-loop-e l = Made 0 16 (l.e * 4) (λ k. byte_of 32 (lane l.s (k / 4)) (k % 4)) l.r

abbrev pub decreases-loop-e : goal.decreases-loop-e
decreases-loop-e l = 4 - l.e
