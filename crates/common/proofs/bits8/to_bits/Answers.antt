-- `common::bits8::to_bits` meets its contract.
use Rattle.std.proofs.Common.{w8}
use Rattle.integer.proofs.Bits.{pattern-bits}
use Rattle.common.proofs.bits8.to_bits.Goals as goal

pub returns : goal.returns
returns c = pattern-bits w8 c.args.x c.ranges.x c.cast_unsigned.ensures
