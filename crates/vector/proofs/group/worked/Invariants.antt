-- `vector::group::worked` meets its contract: the segments of the first r registers have been worked.
use mathlib.Core.Path.{◌≡◌}
use Prim.Native.Nat.{◌+◌, ◌*◌}
use lib.ListN.{length}
use Rattle.integer.specs.Lane.{doubled_high}
use Rattle.isa.specs.Meaning.{lane_wise}
use Rattle.isa.specs.Register.{bits}
use Rattle.vector.specs.Spread.{Worked}
use Rattle.vector.proofs.group.worked.Given as goal

abbrev pub invariant-loop-r : goal.invariant-loop-r
invariant-loop-r g l = record {
  here : l.place ≡ l.at + l.r * l.w;
  sized : length l.new ≡ l.r-end;
  so_far : Worked (lane_wise g.L.Lane.size (doubled_high (bits g.L.Lane.size))) l.file l.at l.w l.r l.z l.new;
}
