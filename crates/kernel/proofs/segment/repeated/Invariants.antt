-- `kernel::segment::repeated` meets its contract: after e turns the first e lanes are taken.
use Prim.Native.Nat.{◌-◌, ◌%◌}
use lib.IntN.{pos}
use Rattle.std.specs.Prelude.{map}
use Rattle.isa.specs.Register.{pairs}
use Rattle.isa.specs.Stage.{lane, index_place}
use Rattle.isa.proofs.Made.{Made}
use Rattle.kernel.proofs.segment.repeated.Given as goal

abbrev pub invariant-loop-e : goal.invariant-loop-e
invariant-loop-e g l = let value = g.L.Lane.value in
    Made (pos 0) g.row.K l.e (λ k. lane (map value l.m) (index_place (l.index % pairs g.L.Lane.size) k)) (map value l.r)

abbrev pub decreases-loop-e : goal.decreases-loop-e
decreases-loop-e g l = g.row.K - l.e
