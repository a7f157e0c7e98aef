-- `kernel::vectors::added` meets its contract: the stages make the definition.
use Rattle.isa.proofs.Pair.{sums}
use Rattle.kernel.proofs.vectors.added.Goals as goal

pub returns : goal.returns
returns g c k f works same = sums g.L.Lane.size k f same c.args.rot c.requires.rot_value c.minus_real.ensures c.minus_imaginary.ensures
    c.lanes-x.ensures c.lanes.ensures c.swapped-z.ensures (c.sums.ensures f works) c.bytes.ensures
