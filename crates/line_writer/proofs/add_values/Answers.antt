-- The values, one after the other.
use native.Mathlib.Omega.{arith}
use mathlib.Core.Path.{◌∙◌}
use lib.Dec.{lit<}
use Rattle.line_writer.proofs.Filling.{holds-none, holds-set}
use Rattle.line_writer.proofs.add_values.Goals as goal

pub returns : goal.returns
returns c = (holds-set 3 (lit< tt) c.narrow-4.ensures
    (holds-set 19 (lit< tt) (c.narrow-3.ensures ∙ c.size_bits.ensures.0)
    (holds-set 12 (lit< tt) c.narrow-2.ensures
    (holds-set 18 (lit< tt) (c.narrow.ensures ∙ c.add_rotation_bits.ensures.0) holds-none)))).is

pub narrow-requires : goal.narrow-requires
narrow-requires c = omega (arith, c.add_rotation_bits.ensures.1)

pub narrow-requires-3 : goal.narrow-requires-3
narrow-requires-3 c = omega (arith, c.size_bits.ensures.1)
