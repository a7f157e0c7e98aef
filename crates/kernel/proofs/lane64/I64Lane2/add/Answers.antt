-- `kernel::lane64::I64Lane2::add` meets its contract: the bits of a sum and of a difference.
use Rattle.std.proofs.Common.{ap, ◌∙◌, to_z-of_z, w64}
use Rattle.integer.specs.Number.{signed, wrap}
use Rattle.integer.specs.Lane.{wrapped}
use Rattle.integer.proofs.Word.{kept}
use Rattle.integer.proofs.Wrap.{pattern-sum, pattern-difference}
use Rattle.isa.specs.Register.{bits, bytes}
use Rattle.kernel.proofs.lane64.I64Lane2.add.Goals as goal

pub returns-then-minus : goal.returns-then-minus
unfolding wrap wrapped bits bytes
returns-then-minus c = let x = simp (to_z-of_z c.ranges.c) at c.to_bits-x.ensures in
    let y = simp (to_z-of_z c.ranges.b) at c.to_bits-y.ensures in
    let e = simp (x, y) at c.wrapping_sub_u64.ensures.value in
    simp c.if-minus.true
    (kept w64 c.of_bits.result c.of_bits.type_inv ∙ c.of_bits.ensures
    ∙ ap (signed 64) (pattern-difference 64 c.args.c c.args.b c.wrapping_sub_u64.result c.wrapping_sub_u64.type_inv e))

pub returns-else-minus : goal.returns-else-minus
unfolding wrap wrapped bits bytes
returns-else-minus c = let x = simp (to_z-of_z c.ranges.c) at c.to_bits-x.ensures in
    let y = simp (to_z-of_z c.ranges.b) at c.to_bits-y.ensures in
    let e = simp (x, y) at c.wrapping_add_u64.ensures.value in
    simp c.if-minus.false
    (kept w64 c.of_bits-else-minus.result c.of_bits-else-minus.type_inv ∙ c.of_bits-else-minus.ensures ∙ ap (signed 64) (e ∙ pattern-sum 64 c.args.c c.args.b))
