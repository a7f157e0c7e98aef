-- `kernel::lane64::low_bit` meets its contract: step by step.
use Rattle.std.proofs.Common.{ℤ, pos, ◌-ℤ◌, refl, lt_of_le_of_lt, arith, to_z-of_z, w64, SFits}
use lib.Signed.{shr_z, mag_shr}
use Rattle.integer.specs.Number.{mod_z}
use Rattle.kernel.proofs.Sum64.{bit-first, bit_is, bit-lt}
use Rattle.kernel.proofs.lane64.low_bit.Goals as goal

module _ {c : ℤ} (f : SFits w64 c) where
  fits-half : SFits w64 (shr_z c 2)
  fits-half = record { sfits = lt_of_le_of_lt (mag_shr c 2) f.sfits }

  fits-first : SFits w64 (c -ℤ shr_z c 2)
  fits-first = record { sfits = bit-first c f.sfits }

  fits-bit : SFits w64 (pos (mod_z c 2))
  fits-bit = record { sfits = omega (arith, bit-lt c) }

pub overflow_sub-result : goal.overflow_sub-result
overflow_sub-result c = simp (to_z-of_z c.ranges.c, to_z-of_z (fits-half c.ranges.c)) (fits-first c.ranges.c)

pub overflow_sub-result-2 : goal.overflow_sub-result-2
overflow_sub-result-2 c = simp (to_z-of_z c.ranges.c, to_z-of_z (fits-half c.ranges.c), to_z-of_z (fits-first c.ranges.c), bit_is c.args.c) (fits-bit c.ranges.c)

pub overflow_cast-result : goal.overflow_cast-result
overflow_cast-result c = simp (to_z-of_z c.ranges.c, to_z-of_z (fits-half c.ranges.c), to_z-of_z (fits-first c.ranges.c), bit_is c.args.c, to_z-of_z (fits-bit c.ranges.c))
    (tt, record { fits = omega (arith, bit-lt c.args.c) })

pub returns : goal.returns
returns c = simp (to_z-of_z c.ranges.c, to_z-of_z (fits-half c.ranges.c), to_z-of_z (fits-first c.ranges.c), bit_is c.args.c, to_z-of_z (fits-bit c.ranges.c))
    (refl, bit-lt c.args.c)
