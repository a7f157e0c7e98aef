-- `regfile::check::is_multiple` meets its contract: it is the definition.
use mathlib.Core.Path.{refl}
use Rattle.isa.specs.File.{multiple}
use Rattle.regfile.proofs.check.is_multiple.Goals as goal

pub returns : goal.returns
unfolding multiple
returns c = refl
