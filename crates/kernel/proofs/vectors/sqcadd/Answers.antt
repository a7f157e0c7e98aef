-- `kernel::vectors::sqcadd` meets its contract: the clamped sums are the definition's.
use mathlib.Core.Path.{refl}
use Rattle.integer.specs.Number.{clamp}
use Rattle.integer.specs.Lane.{clamped}
use Rattle.isa.specs.Register.{bits}
use Rattle.isa.specs.Meaning.{sqcadd_of}
use Rattle.kernel.proofs.vectors.sqcadd.Goals as goal

pub returns : goal.returns
unfolding sqcadd_of clamped
returns g c = let N = bits g.L.Lane.size in
    c.added.ensures (clamp N) (clamped N) (λ a b minus r h. h) (λ a b. refl)
