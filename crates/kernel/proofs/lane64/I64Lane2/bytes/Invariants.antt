-- `kernel::lane64::I64Lane2::bytes` meets its contract: after e turns the bytes of e lanes are written.
use Rattle.std.proofs.Common.{◌-◌, ◌*◌, ◌/◌, ◌%◌}
use Rattle.integer.specs.Number.{byte_of}
use Rattle.isa.specs.Stage.{lane}
use Rattle.isa.proofs.Made.{Made}
use Rattle.kernel.proofs.lane64.I64Lane2.bytes.Given as goal

abbrev pub invariant-loop-e : goal.invariant-loop-e
invariant-loop-e l = Made 0 16 (l.e * 8) (λ k. byte_of 64 (lane l.s (k / 8)) (k % 8)) l.r

abbrev pub decreases-loop-e : goal.decreases-loop-e
decreases-loop-e l = 2 - l.e
