-- Nothing before i differs.
use Prim.Native.Nat.{◌≤◌}
use lib.ListN.{length}
use Rattle.replay.specs.Body.{Alike}
use Rattle.replay.proofs.compare.differing.Given as goal

abbrev pub invariant-loop-i : goal.invariant-loop-i
invariant-loop-i l = (l.i ≤ length l.a) × Alike l.a l.b l.i
