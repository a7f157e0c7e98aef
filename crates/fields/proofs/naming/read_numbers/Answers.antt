use mathlib.Core.Path.{refl}
use Rattle.fields.specs.Named.{numbers_at}
use Rattle.fields.proofs.naming.read_numbers.Goals as goal

pub returns : goal.returns
unfolding numbers_at
returns c = refl
