-- `regfile::segment::read16` meets its contract: the bytes before i have been read.
use mathlib.Core.Path.{◌≡◌}
use Prim.Native.Nat.{◌≤◌, ◌-◌}
use lib.ListN.{length}
use Rattle.regfile.specs.Bytes.{Loaded}
use Rattle.regfile.proofs.segment.read16.Given as goal

abbrev pub invariant-loop-i : goal.invariant-loop-i
invariant-loop-i l = (l.i ≤ 16) × Loaded l.s l.at l.i l.v × (length l.v ≡ 16)

abbrev pub decreases-loop-i : goal.decreases-loop-i
decreases-loop-i l = 16 - l.i
