-- `vector::sweep::sweep` meets its contract: the first k segments have been worked, by every rule that the work meets.
use mathlib.Core.Path.{◌≡◌}
use Prim.Native.Nat.{◌*◌}
use lib.ListN.{length}
use Rattle.isa.specs.Sources.{Rule}
use Rattle.regfile.proofs.Sweep.{Sweeping}
use Rattle.vector.specs.Works.{Works}
use Rattle.vector.proofs.sweep.sweep.Given as goal

abbrev pub invariant-loop-k : goal.invariant-loop-k
invariant-loop-k g l = record {
  sized : length l.file ≡ length l.fn.file;
  so_far : (rule : Rule) → Works rule (goal.F-post g l.work) → Sweeping l.l rule l.at.dest l.at.first l.at.second l.fn.file l.file (16 * l.k);
}
