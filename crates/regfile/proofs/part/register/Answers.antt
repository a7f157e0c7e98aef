-- `regfile::part::register` meets its contract: it hands out what `part_of` found.
use mathlib.Core.Path.{refl}
use Rattle.regfile.proofs.part.register.Goals as goal

pub returns : goal.returns
returns c = c.part_of-part.ensures.part c.args.file.now refl
