-- `kernel::indexed::sqrdcmlah_by` meets its contract: the rounded sums are the definition's.
use mathlib.Core.Path.{refl}
use Rattle.integer.specs.Lane.{saturated}
use Rattle.isa.specs.Register.{bits}
use Rattle.isa.specs.Meaning.{indexed, sqrdcmlah_of}
use Rattle.kernel.proofs.Chosen.{index-chosen, index_small}
use Rattle.kernel.proofs.indexed.sqrdcmlah_by.Goals as goal

pub returns : goal.returns
unfolding sqrdcmlah_of
returns g c = let N = bits g.L.Lane.size in
    c.multiplied.ensures (saturated N) (saturated N) (indexed g.L.Lane.size _) c.args.m (λ a x y minus r h. h) (λ a b. refl) (index-chosen g.L.Lane.size (index_small g.L.Lane.size c.args.index) c.lanes.ensures c.repeated-pair.ensures)
