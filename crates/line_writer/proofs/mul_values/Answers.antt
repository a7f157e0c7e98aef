-- The values, one after the other.
use native.Mathlib.Omega.{arith}
use mathlib.Core.Path.{◌∙◌}
use lib.Dec.{lit<}
use Rattle.line_writer.proofs.Filling.{holds-none, holds-set}
use Rattle.line_writer.proofs.mul_values.Goals as goal

pub returns : goal.returns
returns c = (holds-set 3 (lit< tt) c.narrow-5.ensures
    (holds-set 19 (lit< tt) (c.narrow-4.ensures ∙ c.size_bits.ensures.0)
    (holds-set 13 (lit< tt) c.narrow-3.ensures
    (holds-set 12 (lit< tt) c.narrow-2.ensures
    (holds-set 17 (lit< tt) (c.narrow.ensures ∙ c.rotation_bits.ensures.0) holds-none))))).is

pub narrow-requires : goal.narrow-requires
narrow-requires c = omega (arith, c.rotation_bits.ensures.1)

pub narrow-requires-4 : goal.narrow-requires-4
narrow-requires-4 c = omega (arith, c.size_bits.ensures.1)
