-- The entries before k are allowed, and `due` is where the next body has to start.

use Rattle.replay.proofs.Extent.{EntriesBefore}
use Rattle.replay.proofs.contents.entries.Given as goal

abbrev pub invariant-loop-k : goal.invariant-loop-k
invariant-loop-k l = EntriesBefore l.trace l.cases l.due l.k
