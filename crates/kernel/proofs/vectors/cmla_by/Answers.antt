-- `kernel::vectors::cmla_by` meets its contract: the sums modulo 2^N are the definition's.
use lib.IntN.{◌+ℤ◌}
use Rattle.integer.specs.Lane.{wrapped}
use Rattle.integer.proofs.Word.{pattern-wrapped}
use Rattle.isa.specs.Register.{bits}
use Rattle.isa.specs.Meaning.{own, cmla_of}
use Rattle.kernel.proofs.Chosen.{own-chosen}
use Rattle.kernel.proofs.vectors.cmla_by.Goals as goal

pub returns : goal.returns
unfolding cmla_of
returns g c = let N = bits g.L.Lane.size in
    c.multiplied.ensures ◌+ℤ◌ (wrapped N) own c.args.m (λ a x y minus r h. h) (pattern-wrapped N) (own-chosen g.L.Lane.size c.lanes.ensures)
