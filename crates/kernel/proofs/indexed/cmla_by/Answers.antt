-- `kernel::indexed::cmla_by` meets its contract: the sums modulo 2^N are the definition's.
use lib.IntN.{◌+ℤ◌}
use Rattle.integer.specs.Lane.{wrapped}
use Rattle.integer.proofs.Word.{pattern-wrapped}
use Rattle.isa.specs.Register.{bits}
use Rattle.isa.specs.Meaning.{indexed, cmla_of}
use Rattle.kernel.proofs.Chosen.{index-chosen, index_small}
use Rattle.kernel.proofs.indexed.cmla_by.Goals as goal

pub returns : goal.returns
unfolding cmla_of
returns g c = let N = bits g.L.Lane.size in
    c.multiplied.ensures ◌+ℤ◌ (wrapped N) (indexed g.L.Lane.size _) c.args.m (λ a x y minus r h. h) (pattern-wrapped N) (index-chosen g.L.Lane.size (index_small g.L.Lane.size c.args.index) c.lanes.ensures c.repeated-pair.ensures)
