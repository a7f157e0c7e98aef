-- `kernel::lane8::I8Lane16::bytes` meets its contract: after e turns the bytes of e lanes are written.
use Prim.Native.Nat.{◌-◌, ◌/◌, ◌%◌}
use Rattle.integer.specs.Number.{byte_of}
use Rattle.isa.specs.Stage.{lane}
use Rattle.isa.proofs.Made.{Made}
use Rattle.kernel.proofs.lane8.I8Lane16.bytes.Given as goal

abbrev pub invariant-loop-e : goal.invariant-loop-e
invariant-loop-e l = Made 0 16 l.e (λ k. byte_of 8 (lane l.s (k / 1)) (k % 1)) l.r

abbrev pub decreases-loop-e : goal.decreases-loop-e
decreases-loop-e l = 16 - l.e
