-- `common::bits16::of_bits` meets its contract.
use Rattle.std.proofs.Common.{w16}
use Rattle.integer.proofs.Bits.{read-bits}
use Rattle.common.proofs.bits16.of_bits.Goals as goal

pub returns : goal.returns
returns c = read-bits w16 c.args.u c.ranges.u.fits c.cast_signed.ensures
