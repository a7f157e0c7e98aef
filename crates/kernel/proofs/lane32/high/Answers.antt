-- `kernel::lane32::high` meets its contract: the product divided by 2^31 is the doubled one divided by 2^32.
use Rattle.integer.proofs.Widen.{wide32}
use Rattle.integer.proofs.High.{read-high}
use Rattle.kernel.proofs.lane32.high.Goals as goal

pub returns : goal.returns
returns c = search (read-high wide32)
