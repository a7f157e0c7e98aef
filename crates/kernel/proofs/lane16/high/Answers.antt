-- `kernel::lane16::high` meets its contract: the product divided by 2^15 is the doubled one divided by 2^16.
use Rattle.integer.proofs.Widen.{wide16}
use Rattle.integer.proofs.High.{read-high}
use Rattle.kernel.proofs.lane16.high.Goals as goal

pub returns : goal.returns
returns c = search (read-high wide16)
