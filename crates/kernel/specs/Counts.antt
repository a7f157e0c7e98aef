-- The lanes of a segment, by the size of an element.
-- Assumes nothing.
use mathlib.Core.Path.{◌≡◌, refl}
use Prim.Native.Nat.{◌*◌}
use Rattle.isa.specs.declared.types.Size.TheVariants.{B, H, S, D}
use Rattle.isa.specs.Register.{pairs}

pub count_b : 16 ≡ 2 * pairs B
unfolding pairs
count_b = refl

pub count_h : 8 ≡ 2 * pairs H
unfolding pairs
count_h = refl

pub count_s : 4 ≡ 2 * pairs S
unfolding pairs
count_s = refl

pub count_d : 2 ≡ 2 * pairs D
unfolding pairs
count_d = refl
