-- `kernel::lane64::rounding` meets its contract: step by step.
use Rattle.std.proofs.Common.{◌≡◌, ℕ, ◌/◌, ◌^◌, ◌<◌, ℤ, pos, ◌+ℤ◌, lt_of_le_of_lt, arith, to_z-of_z, w64, to_z, of_z}
use lib.Signed.{mag, shr_z, mag_shr}
use mir.Facts.{to_z_pos}
use Rattle.integer.specs.Number.{mod_z}
use Rattle.integer.proofs.Word.{kept}
use Rattle.kernel.proofs.Sum64.{bit-lt, carry, sum-halves, half-sum-fits, sum_fits}
use Rattle.kernel.proofs.lane64.rounding.Goals as goal

module _ (c : goal.After-low_bit) where
  abbrev add : ℤ
  add = c.args.c

  abbrev hi : ℤ
  hi = c.args.hi

  abbrev lo : ℕ
  lo = c.args.lo

  bit : c.low_bit.result ≡ mod_z add 2
  bit = simp (to_z-of_z c.ranges.c) at c.low_bit.ensures.0

  half : to_z w64 (of_z w64 (shr_z add 2)) ≡ shr_z add 2
  half = kept w64 (shr_z add 2) (lt_of_le_of_lt (mag_shr add 2) c.ranges.c.sfits)

  first : mag (shr_z add 2 +ℤ hi) < 2 ^ 63
  first = half-sum-fits add hi lo c.ranges.c.sfits c.ranges.lo.fits c.requires.size

  whole : mag (shr_z add 2 +ℤ hi +ℤ pos (carry add lo / 2)) < 2 ^ 63
  whole = sum_fits add hi lo c.ranges.c.sfits c.ranges.lo.fits c.requires.size

  carried : to_z w64 (carry add lo / 2) ≡ pos (carry add lo / 2)
  carried = to_z_pos w64 (omega (arith, bit-lt add, c.ranges.lo.fits))

pub overflow_add-result : goal.overflow_add-result
overflow_add-result c = simp (to_z-of_z c.ranges.c, to_z-of_z c.ranges.hi, half c) (record { sfits = first c })

pub overflow_add-result-2 : goal.overflow_add-result-2
overflow_add-result-2 c = simp (to_z-of_z c.ranges.c, to_z-of_z c.ranges.hi, half c, kept w64 (shr_z (add c) 2 +ℤ hi c) (first c), bit c, carried c)
    (record { sfits = whole c })

pub returns : goal.returns
returns c = simp (to_z-of_z c.ranges.c, to_z-of_z c.ranges.hi, half c, kept w64 (shr_z (add c) 2 +ℤ hi c) (first c), bit c, carried c, kept w64 (shr_z (add c) 2 +ℤ hi c +ℤ pos (carry (add c) (lo c) / 2)) (whole c))
    (omega arith, sum-halves (add c) (hi c) (lo c))
