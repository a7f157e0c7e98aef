-- `common::bits8::of_bits` meets its contract.
use Rattle.std.proofs.Common.{w8}
use Rattle.integer.proofs.Bits.{read-bits}
use Rattle.common.proofs.bits8.of_bits.Goals as goal

pub returns : goal.returns
returns c = read-bits w8 c.args.u c.ranges.u.fits c.cast_signed.ensures
