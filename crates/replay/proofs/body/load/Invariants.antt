-- The bytes before i are copied.
use Prim.Native.Nat.{◌-◌}
use lib.ListN.{length, get_or}
use Rattle.isa.proofs.Made.{Made}
use Rattle.replay.proofs.body.load.Given as goal

abbrev pub invariant-loop-i : goal.invariant-loop-i
invariant-loop-i l = Made 0 (length l.file) l.i (λ k. get_or l.file k 0) l.image

abbrev pub decreases-loop-i : goal.decreases-loop-i
decreases-loop-i l = length l.file - l.i
