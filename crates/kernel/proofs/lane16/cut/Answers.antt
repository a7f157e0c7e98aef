-- `kernel::lane16::cut` meets its contract: the low bits of the wider pattern.
use Rattle.integer.proofs.Widen.{wide16, read-cut}
use Rattle.kernel.proofs.lane16.cut.Goals as goal

pub returns : goal.returns
returns c = read-cut wide16 c.ranges.x c.of_bits.type_inv c.to_bits.ensures c.of_bits.ensures
