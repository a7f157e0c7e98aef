-- `regfile::segment::clear_above` meets its contract: the segments before number k, but for the first, have been cleared.
use Prim.Native.Nat.{◌*◌}
use Rattle.regfile.proofs.Sweep.{Clearing}
use Rattle.regfile.proofs.segment.clear_above.Given as goal

abbrev pub invariant-loop-k : goal.invariant-loop-k
invariant-loop-k l = Clearing l.l l.d l.fn.file l.file (16 * l.k)
