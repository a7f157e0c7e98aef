-- `kernel::vectors::multiplied` meets its contract: the stages make the definition.
use mathlib.Core.Path.{sym}
use Rattle.isa.proofs.Pair.{products}
use Rattle.kernel.proofs.Chosen.{chosen-second}
use Rattle.kernel.proofs.vectors.multiplied.Goals as goal

pub returns : goal.returns
returns g c f k choose s works same chosen = products g.L.Lane.size choose f k same c.args.rot (sym c.requires.rot_value) c.minus_real.ensures c.minus_imaginary.ensures
    c.lanes-x.ensures c.lanes.ensures c.doubled-y.ensures (chosen-second g.L.Lane.size choose _ chosen c.swapped-z.ensures) (c.products.ensures k works) c.bytes.ensures
