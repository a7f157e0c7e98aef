-- `kernel::vectors::sqdmulh` meets its contract: the stages make the definition.
use Rattle.integer.specs.Lane.{doubled_high}
use Rattle.isa.specs.Register.{bits}
use Rattle.isa.proofs.LaneWise.{lane-wise-segment}
use Rattle.kernel.proofs.vectors.sqdmulh.Goals as goal

pub returns : goal.returns
returns g c = lane-wise-segment g.L.Lane.size (doubled_high (bits g.L.Lane.size)) c.lanes.ensures c.lanes-2.ensures c.high_halves.ensures c.bytes.ensures
