-- `kernel::lane16::upper` meets its contract: a quarter of 2^16 and the product, divided by 2^15, is the definition's sum divided by 2^16.
use mathlib.Core.Path.{◌≡◌, ◌∙◌}
use Prim.Native.Nat.{◌^◌, ◌<◌}
use lib.Dec.{lit<}
use lib.IntN.{ℤ}
use lib.Signed.{mag}
use mir.Syntax.{w16, w32}
use mir.Val.{to_z, of_z, hbits}
use Rattle.integer.proofs.Word.{kept}
use Rattle.integer.proofs.Widen.{wide16, read-cast, small-in, read_upper}
use Rattle.kernel.proofs.lane16.upper.Goals as goal

given : {u v y : ℤ} → mag u < 2 ^ hbits w32 → u ≡ v → v ≡ y → to_z w32 (of_z w32 u) ≡ y
given h e p = kept w32 _ h ∙ e ∙ p

given-lane : {u v y : ℤ} → mag u < 2 ^ hbits w16 → u ≡ v → v ≡ y → to_z w32 (of_z w32 (to_z w16 (of_z w16 u))) ≡ y
given-lane h e p = read-cast wide16 record { sfits = h } ∙ e ∙ p

pub plus_minus-requires : goal.plus_minus-requires
plus_minus-requires c = small-in wide16 c.ranges.a c.ranges.b c.product.type_inv c.product.ensures (lit< tt)

pub returns : goal.returns
returns c = search (read_upper wide16, given, given-lane)
