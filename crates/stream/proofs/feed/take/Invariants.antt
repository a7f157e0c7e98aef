-- None of the bytes before `at` brings anything, and the state is that behind them.
use Prim.Native.Nat.{◌-◌}
use lib.ListN.{length}
use Rattle.stream.proofs.Feeding.{Taking}
use Rattle.stream.proofs.feed.take.Given as goal

abbrev pub invariant-loop-at : goal.invariant-loop-at
invariant-loop-at l = Taking l.fn.held l.initial.marks l.bytes l.held l.marks l.at

abbrev pub decreases-loop-at : goal.decreases-loop-at
decreases-loop-at l = length l.bytes - l.at
