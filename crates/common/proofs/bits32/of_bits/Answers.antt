-- `common::bits32::of_bits` meets its contract.
use Rattle.std.proofs.Common.{w32}
use Rattle.integer.proofs.Bits.{read-bits}
use Rattle.common.proofs.bits32.of_bits.Goals as goal

pub returns : goal.returns
returns c = read-bits w32 c.args.u c.ranges.u.fits c.cast_signed.ensures
