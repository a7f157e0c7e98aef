-- `kernel::lane64::I64Lane2::sat` meets its contract: the signs tell whether the wrapped sum is the sum, and which end it passed.
use Rattle.std.proofs.Common.{◌≡◌, cond, pos, ◌+ℤ◌, ◌∙◌, lit<, to_z-of_z, w64, to_z, of_z}
use lib.Signed.{lt_z}
use Rattle.integer.specs.Number.{wrap, lowest, highest, signed_by}
use Rattle.integer.specs.Lane.{wrapped, clamped}
use Rattle.integer.proofs.Word.{kept}
use Rattle.integer.proofs.Ends.{sum-turned, sum_kept}
use Rattle.isa.specs.Register.{bits, bytes}
use Rattle.kernel.proofs.lane64.I64Lane2.sat.Goals as goal
use Rattle.kernel.proofs.lane64.I64Lane2.sat.Goals.{then-c-lt0, else-c-lt0}

pub returns-then-same-turned : goal.returns-then-same-turned
unfolding clamped wrapped bits bytes
returns-then-same-turned c =
    let sum : c.add-s.result ≡ wrap 64 (c.args.c +ℤ signed_by c.args.minus c.args.b) = simp (to_z-of_z c.ranges.c, to_z-of_z c.ranges.b) at c.add-s.ensures in
    let end : to_z w64 c.if-c-lt0.end-bits ≡ cond (lt_z (to_z w64 (of_z w64 c.args.c)) (pos 0)) (lowest 64) (highest 64) =
    elim c.if-c-lt0.branch [ then-c-lt0 w ↦ rw (w.end-is, w.if-c-lt0.true) | else-c-lt0 w ↦ rw (w.end-is, w.if-c-lt0.false) ] in
    let t = simp (sum) at (simp (to_z-of_z c.ranges.c, to_z-of_z c.ranges.b, kept w64 c.add-s.result c.add-s.type_inv) at c.if-same-turned.true) in
    end ∙ simp (to_z-of_z c.ranges.c) (sum-turned 64 (lit< tt) c.args.c c.args.b c.args.minus c.ranges.c.sfits c.ranges.b.sfits t)

pub returns-else-same-turned : goal.returns-else-same-turned
unfolding clamped wrapped bits bytes
returns-else-same-turned c =
    let sum : c.add-s.result ≡ wrap 64 (c.args.c +ℤ signed_by c.args.minus c.args.b) = simp (to_z-of_z c.ranges.c, to_z-of_z c.ranges.b) at c.add-s.ensures in
    let t = simp (sum) at (simp (to_z-of_z c.ranges.c, to_z-of_z c.ranges.b, kept w64 c.add-s.result c.add-s.type_inv) at c.if-same-turned.false) in
    kept w64 c.add-s.result c.add-s.type_inv ∙ sum ∙ sum_kept 64 (lit< tt) c.args.c c.args.b c.args.minus c.ranges.c.sfits c.ranges.b.sfits t
