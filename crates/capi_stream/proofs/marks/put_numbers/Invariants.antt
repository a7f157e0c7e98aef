-- The first i numbers are stored.
use Prim.Native.Nat.{◌-◌}
use lib.ListN.{length}
use Rattle.capi_stream.proofs.Stored.{Fours}
use Rattle.capi_stream.proofs.marks.put_numbers.Given as goal

abbrev pub invariant-loop-i : goal.invariant-loop-i
invariant-loop-i l = Fours l.numbers l.bytes l.i

abbrev pub decreases-loop-i : goal.decreases-loop-i
decreases-loop-i l = length l.numbers - l.i
