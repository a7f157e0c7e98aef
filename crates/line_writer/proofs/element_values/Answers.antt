-- The values, one after the other.
use lib.Dec.{lit<}
use Rattle.line_writer.proofs.Filling.{holds-none, holds-set}
use Rattle.line_writer.proofs.element_values.Goals as goal

pub returns : goal.returns
returns c = (holds-set 3 (lit< tt) c.narrow-4.ensures (holds-set c.args.q c.requires.0 c.form_bits.ensures (holds-set 13 (lit< tt) c.narrow-3.ensures (holds-set c.args.m c.requires.1 c.narrow-2.ensures (holds-set c.args.i c.requires.2 c.narrow.ensures holds-none))))).is
