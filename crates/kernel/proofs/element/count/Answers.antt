-- `kernel::element::count` meets its contract: a segment of K elements has as many bits at each size.
use mathlib.Core.Path.{◌≡◌, refl}
use Prim.Native.Nat.{◌*◌, ◌/◌}
use native.Mathlib.Omega.{arith}
use Rattle.isa.specs.declared.types.Size.{Size}
use Rattle.isa.specs.declared.types.Size.TheVariants.{B, H, S, D}
use Rattle.isa.specs.Register.{bits, bytes, pairs}
use Rattle.isa.specs.Meaning.{lane_count}
use Rattle.kernel.proofs.Values.{some-pairs}
use Rattle.kernel.proofs.element.count.Goals as goal

half : (z : Size) → pairs z ≡ 64 / bits z
unfolding pairs bits bytes
half B = refl
half H = refl
half S = refl
half D = refl

whole : (z : Size) → 2 * pairs z ≡ 128 / bits z
unfolding pairs bits bytes
whole B = refl
whole H = refl
whole S = refl
whole D = refl

pub returns-in-Scalar : goal.returns-in-Scalar
unfolding lane_count
returns-in-Scalar g c = rw c.in-Scalar.is (refl, omega (arith, some-pairs g.L.Lane.size, g.met.L.Lane.count))

pub returns-in-Vector64 : goal.returns-in-Vector64
unfolding lane_count
returns-in-Vector64 g c = rw c.in-Vector64.is (omega (arith, half g.L.Lane.size, g.met.L.Lane.count), omega arith)

pub returns-in-Vector128 : goal.returns-in-Vector128
unfolding lane_count
returns-in-Vector128 g c = rw c.in-Vector128.is (omega (arith, whole g.L.Lane.size, g.met.L.Lane.count), omega arith)
