-- `kernel::product64::negated` meets its contract: the two's complement of a number of two words.
use Rattle.std.proofs.Common.{◌≡◌, ℕ, ◌^◌, ◌≤◌, pos, ◌-ℤ◌, arith, w64, to_z}
use mir.Facts.{to_z_pos}
use Rattle.integer.proofs.Word.{kept}
use Rattle.kernel.proofs.TwoWords.{negate-even, negate-odd, negated_fits, lowered-fits}
use Rattle.kernel.proofs.product64.negated.Goals as goal

high : (h : ℕ) → h ≤ 2 ^ 62 → to_z w64 h ≡ pos h
high h p = to_z_pos w64 (omega arith)

pub overflow_sub-result : goal.overflow_sub-result
overflow_sub-result c = simp (high c.args.hi c.requires) (record { sfits = negated_fits c.args.hi c.requires })

pub overflow_sub-result-else-lo-eq0 : goal.overflow_sub-result-else-lo-eq0
overflow_sub-result-else-lo-eq0 c = simp (high c.args.hi c.requires) (record { sfits = negated_fits c.args.hi c.requires })

pub overflow_sub-result-else-lo-eq0-2 : goal.overflow_sub-result-else-lo-eq0-2
overflow_sub-result-else-lo-eq0-2 c = simp (high c.args.hi c.requires, kept w64 (pos 0 -ℤ pos c.args.hi) (negated_fits c.args.hi c.requires))
    (record { sfits = lowered-fits c.args.hi c.requires })

pub returns-then-lo-eq0 : goal.returns-then-lo-eq0
returns-then-lo-eq0 c = simp (high c.args.hi c.requires, kept w64 (pos 0 -ℤ pos c.args.hi) (negated_fits c.args.hi c.requires), c.if-lo-eq0.true)
    (negate-even c.args.hi)

pub returns-else-lo-eq0 : goal.returns-else-lo-eq0
returns-else-lo-eq0 c = simp (high c.args.hi c.requires, kept w64 (pos 0 -ℤ pos c.args.hi) (negated_fits c.args.hi c.requires), kept w64 (pos 0 -ℤ pos c.args.hi -ℤ pos 1) (lowered-fits c.args.hi c.requires))
    (negate-odd c.args.hi c.args.lo (omega (arith, c.if-lo-eq0.false)) c.ranges.lo.fits)
