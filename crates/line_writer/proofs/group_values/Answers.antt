-- The values, one after the other.
use native.Mathlib.Omega.{arith}
use mathlib.Core.Path.{◌∙◌}
use lib.Dec.{lit<}
use Rattle.line_writer.proofs.Filling.{holds-none, holds-set}
use Rattle.line_writer.proofs.group_values.Goals as goal

pub returns : goal.returns
returns c = (holds-set c.args.x c.requires.0 c.narrow-3.ensures
    (holds-set 19 (lit< tt) (c.narrow-2.ensures ∙ c.size_bits.ensures.0)
    (holds-set 7 (lit< tt) c.narrow.ensures holds-none))).is

pub narrow-requires-2 : goal.narrow-requires-2
narrow-requires-2 c = omega (arith, c.size_bits.ensures.1)
