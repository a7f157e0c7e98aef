-- `vector::group::group` meets its contract: the first k segments of each register have been worked.
use Prim.Native.Nat.{◌*◌}
use Rattle.integer.specs.Lane.{doubled_high}
use Rattle.isa.specs.Meaning.{lane_wise}
use Rattle.isa.specs.Register.{bits}
use Rattle.regfile.proofs.Group.{Grouping}
use Rattle.vector.proofs.group.group.Given as goal

abbrev pub invariant-loop-k : goal.invariant-loop-k
invariant-loop-k g l = Grouping l.l g.row.COUNT (lane_wise g.L.Lane.size (doubled_high (bits g.L.Lane.size))) l.d l.m l.fn.file l.file (16 * l.k)
