-- `kernel::vectors::sqrdcmlah_by` meets its contract: the rounded sums are the definition's.
use mathlib.Core.Path.{refl}
use Rattle.integer.specs.Lane.{saturated}
use Rattle.isa.specs.Register.{bits}
use Rattle.isa.specs.Meaning.{own, sqrdcmlah_of}
use Rattle.kernel.proofs.Chosen.{own-chosen}
use Rattle.kernel.proofs.vectors.sqrdcmlah_by.Goals as goal

pub returns : goal.returns
unfolding sqrdcmlah_of
returns g c = let N = bits g.L.Lane.size in
    c.multiplied.ensures (saturated N) (saturated N) own c.args.m (λ a x y minus r h. h) (λ a b. refl) (own-chosen g.L.Lane.size c.lanes.ensures)
