-- `kernel::lane64::I64Lane2::mla` meets its contract: the low word of the product of the bits is the bits of the product.
use Rattle.std.proofs.Common.{◌^◌, ◌<◌, ◌*ℤ◌, sym, ◌∙◌, to_z-of_z, w64, rules}
use Rattle.integer.specs.Number.{signed}
use Rattle.integer.proofs.Word.{kept, pattern-signed}
use Rattle.integer.proofs.Wrap.{pattern-product, wrapped_same}
use Rattle.isa.specs.Register.{bits, bytes}
use Rattle.kernel.proofs.lane64.I64Lane2.mla.Goals as goal

pub returns : goal.returns
unfolding bits bytes
returns c = let x = simp (to_z-of_z c.ranges.a) at c.to_bits.ensures in
    let y = simp (to_z-of_z c.ranges.b) at c.to_bits-2.ensures in
    let w = c.wide_product-m in
    let h : w.result.lo < 2 ^ 64 = search rules in
    let e = simp (x, y) at w.ensures in
    let f = simp c.of_bits.ensures at (simp (to_z-of_z c.ranges.c, kept w64 c.of_bits.result c.of_bits.type_inv) at c.add.ensures) in
    kept w64 c.add.result c.add.type_inv ∙ f
    ∙ wrapped_same 64 c.args.minus c.args.c (signed 64 w.result.lo) (c.args.a *ℤ c.args.b)
    (pattern-signed 64 w.result.lo h ∙ sym (pattern-product 64 c.args.a c.args.b w.result.hi w.result.lo h e))
