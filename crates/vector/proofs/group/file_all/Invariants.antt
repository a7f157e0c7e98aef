-- `vector::group::file_all` meets its contract: the segments of the first r registers have been stored.
use mathlib.Core.Path.{◌≡◌}
use Prim.Native.Nat.{◌+◌, ◌*◌}
use Rattle.vector.specs.Spread.{Filed}
use Rattle.vector.proofs.group.file_all.Given as goal

abbrev pub invariant-loop-r : goal.invariant-loop-r
invariant-loop-r g l = record {
  here : l.place ≡ l.at + l.r * l.w;
  so_far : Filed l.fn.file l.at l.w l.r l.new l.file;
}
