-- `common::bits64::to_bits` meets its contract.
use Rattle.std.proofs.Common.{w64}
use Rattle.integer.proofs.Bits.{pattern-bits}
use Rattle.common.proofs.bits64.to_bits.Goals as goal

pub returns : goal.returns
returns c = pattern-bits w64 c.args.x c.ranges.x c.cast_unsigned.ensures
