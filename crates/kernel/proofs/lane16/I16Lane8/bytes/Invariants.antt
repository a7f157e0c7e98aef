-- `kernel::lane16::I16Lane8::bytes` meets its contract: after e turns the bytes of e lanes are written.
use Prim.Native.Nat.{◌+◌, ◌-◌, ◌/◌, ◌%◌}
use Rattle.integer.specs.Number.{byte_of}
use Rattle.isa.specs.Stage.{lane}
use Rattle.isa.proofs.Made.{Made}
use Rattle.kernel.proofs.lane16.I16Lane8.bytes.Given as goal

abbrev pub invariant-loop-e : goal.invariant-loop-e
invariant-loop-e l = Made 0 16 (l.e + l.e) (λ k. byte_of 16 (lane l.s (k / 2)) (k % 2)) l.r

abbrev pub decreases-loop-e : goal.decreases-loop-e
decreases-loop-e l = 8 - l.e
