-- Nothing before the block `at` differs.
use mathlib.Core.Path.{◌≡◌}
use Prim.Native.Nat.{◌≤◌, ◌%◌}
use lib.ListN.{length}
use Rattle.replay.specs.Body.{Alike}
use Rattle.replay.proofs.compare.alike.Given as goal

abbrev pub invariant-loop-at : goal.invariant-loop-at
invariant-loop-at l = (l.at % 512 ≡ 0) × (l.at ≤ length l.a) × Alike l.a l.b l.at
