-- The length stands above the bytes.
use mathlib.Core.Path.{sym}
use Rattle.grammar.proofs.Packed.{text-length}
use Rattle.letters.proofs.texts.length_of.Goals as goal

pub returns : goal.returns
returns c = sym (text-length c.args.packed)
