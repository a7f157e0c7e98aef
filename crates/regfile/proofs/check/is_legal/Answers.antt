-- `regfile::check::is_legal` meets its contract: it is the definition.
use mathlib.Core.Path.{refl}
use Rattle.isa.specs.File.{legal}
use Rattle.regfile.proofs.check.is_legal.Goals as goal

pub returns : goal.returns
unfolding legal
returns c = refl
