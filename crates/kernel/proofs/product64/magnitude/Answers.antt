-- `kernel::product64::magnitude` meets its contract: of a negative number a, -1 - a is not negative.
use Rattle.std.proofs.Common.{◌≡◌, true, ℤ, pos, negsuc, ◌-ℤ◌, arith, to_z-of_z, w64, SFits, to_z, of_z}
use lib.Signed.{lt_z, mag}
use Rattle.integer.proofs.Word.{flipped, not_negative}
use Rattle.kernel.proofs.TwoWords.{abs-negative}
use Rattle.kernel.proofs.product64.magnitude.Goals as goal

read : (a : ℤ) → SFits w64 a → lt_z (to_z w64 (of_z w64 a)) (pos 0) ≡ true → to_z w64 (of_z w64 (negsuc 0 -ℤ to_z w64 (of_z w64 a))) ≡ pos (mag a)
read a f e =
    let g = simp (to_z-of_z f) at e in
    simp (to_z-of_z f, flipped a g, to_z-of_z {w = w64} {z = pos (mag a)} (record { sfits = f.sfits }))

pub overflow_sub-result : goal.overflow_sub-result
overflow_sub-result c = let g = simp (to_z-of_z c.ranges.a) at c.if-a-lt0.true in
    simp (to_z-of_z c.ranges.a, flipped c.args.a g) (record { sfits = c.ranges.a.sfits })

pub overflow_cast-result : goal.overflow_cast-result
overflow_cast-result c = simp (read c.args.a c.ranges.a c.if-a-lt0.true) (tt, record { fits = omega (arith, c.ranges.a.sfits) })

pub overflow_add-result : goal.overflow_add-result
overflow_add-result c = simp (read c.args.a c.ranges.a c.if-a-lt0.true) (record { fits = omega (arith, c.ranges.a.sfits) })

pub overflow_cast-result-else-a-lt0 : goal.overflow_cast-result-else-a-lt0
overflow_cast-result-else-a-lt0 c = let g = not_negative c.args.a (simp (to_z-of_z c.ranges.a) at c.if-a-lt0.false) in
    simp (to_z-of_z c.ranges.a) (g.0, record { fits = omega (arith, c.ranges.a.sfits, g.1) })

pub returns-then-a-lt0 : goal.returns-then-a-lt0
returns-then-a-lt0 c = let g = simp (to_z-of_z c.ranges.a) at c.if-a-lt0.true in
    simp (read c.args.a c.ranges.a c.if-a-lt0.true) (abs-negative c.args.a g)
