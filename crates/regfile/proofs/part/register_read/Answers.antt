-- `regfile::part::register_read` meets its contract: it hands out what `part_of` found.
use mathlib.Core.Path.{refl}
use Rattle.regfile.proofs.part.register_read.Goals as goal

pub returns : goal.returns
returns c = c.part_of-part.ensures.part c.args.file.now refl
