-- `kernel::lane8::high` meets its contract: the product divided by 2^7 is the doubled one divided by 2^8.
use Rattle.integer.proofs.Widen.{wide8}
use Rattle.integer.proofs.High.{read-high}
use Rattle.kernel.proofs.lane8.high.Goals as goal

pub returns : goal.returns
returns c = search (read-high wide8)
