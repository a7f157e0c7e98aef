-- `regfile::segment::write16` meets its contract: the bytes before i have been stored.
use Prim.Native.Nat.{◌≤◌, ◌-◌}
use Rattle.regfile.specs.Bytes.{Stored}
use Rattle.regfile.proofs.segment.write16.Given as goal

abbrev pub invariant-loop-i : goal.invariant-loop-i
invariant-loop-i l = (l.i ≤ 16) × Stored l.fn.s l.at l.i l.v l.s

abbrev pub decreases-loop-i : goal.decreases-loop-i
decreases-loop-i l = 16 - l.i
