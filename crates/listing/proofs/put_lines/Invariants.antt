-- The loop's invariant: the lines of the words passed are in place. The measure is the number of words left.
use Prim.Native.Nat.{◌-◌}
use Rattle.listing.proofs.Lines.{Putting}
use Rattle.listing.proofs.put_lines.Given as goal

abbrev pub invariant-loop-k : goal.invariant-loop-k
invariant-loop-k l = Putting l.bytes l.fn.out l.count l.out l.at l.k

abbrev pub decreases-loop-k : goal.decreases-loop-k
decreases-loop-k l = l.count - l.k
