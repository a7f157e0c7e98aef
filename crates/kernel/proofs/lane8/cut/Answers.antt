-- `kernel::lane8::cut` meets its contract: the low bits of the wider pattern.
use Rattle.integer.proofs.Widen.{wide8, read-cut}
use Rattle.kernel.proofs.lane8.cut.Goals as goal

pub returns : goal.returns
returns c = read-cut wide8 c.ranges.x c.of_bits.type_inv c.to_bits.ensures c.of_bits.ensures
