-- `kernel::lane32::I32Lane4::lanes` meets its contract: after e turns the first e lanes are read.
use Prim.Native.Nat.{◌-◌}
use lib.IntN.{pos}
use Rattle.isa.specs.declared.types.Size.TheVariants.{S}
use Rattle.isa.specs.Register.{element}
use Rattle.isa.specs.Segment.{bytes_of}
use Rattle.isa.proofs.Made.{Made}
use Rattle.kernel.proofs.lane32.I32Lane4.lanes.Given as goal

abbrev pub invariant-loop-e : goal.invariant-loop-e
invariant-loop-e l = Made (pos 0) 4 l.e (element S (bytes_of l.b)) l.r

abbrev pub decreases-loop-e : goal.decreases-loop-e
decreases-loop-e l = 4 - l.e
