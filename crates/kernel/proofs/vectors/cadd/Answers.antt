-- `kernel::vectors::cadd` meets its contract: the sums modulo 2^N are the definition's.
use Rattle.integer.specs.Lane.{wrapped}
use Rattle.integer.proofs.Word.{pattern-wrapped}
use Rattle.isa.specs.Register.{bits}
use Rattle.isa.specs.Meaning.{cadd_of, each}
use Rattle.kernel.proofs.vectors.cadd.Goals as goal

pub returns : goal.returns
unfolding cadd_of each
returns g c = let N = bits g.L.Lane.size in
    c.added.ensures (λ v. v) (wrapped N) (λ a b minus r h. h) (pattern-wrapped N)
