-- `common::bits64::of_bits` meets its contract.
use Rattle.std.proofs.Common.{w64}
use Rattle.integer.proofs.Bits.{read-bits}
use Rattle.common.proofs.bits64.of_bits.Goals as goal

pub returns : goal.returns
returns c = read-bits w64 c.args.u c.ranges.u.fits c.cast_signed.ensures
