-- `kernel::product64::product` meets its contract: the product of the sizes, with the product's sign.
use Rattle.std.proofs.Common.{◌≡◌, ◌+◌, ◌*◌, ◌^◌, nat_abs, sym, ◌∙◌, mul-le-mul, arith, to_z-of_z}
use lib.Signed.{nat_abs-le}
use Rattle.kernel.proofs.TwoWords.{product-sign}
use Rattle.kernel.proofs.product64.product.Goals as goal

pub with_sign-requires : goal.with_sign-requires
with_sign-requires c =
    let words : c.wide_product-m.result.hi * 2 ^ 64 + c.wide_product-m.result.lo ≡ nat_abs c.args.a * nat_abs c.args.b = c.wide_product-m.ensures
    ∙ simp (c.magnitude.ensures, c.magnitude-2.ensures, to_z-of_z c.ranges.a, to_z-of_z c.ranges.b) in
    omega (arith, words, mul-le-mul (nat_abs-le c.args.a c.ranges.a.sfits) (nat_abs-le c.args.b c.ranges.b.sfits))

pub returns : goal.returns
returns c =
    let words : c.wide_product-m.result.hi * 2 ^ 64 + c.wide_product-m.result.lo ≡ nat_abs c.args.a * nat_abs c.args.b = c.wide_product-m.ensures
    ∙ simp (c.magnitude.ensures, c.magnitude-2.ensures, to_z-of_z c.ranges.a, to_z-of_z c.ranges.b) in
    c.with_sign.ensures ∙ simp (words, to_z-of_z c.ranges.a, to_z-of_z c.ranges.b) (sym (product-sign c.args.a c.args.b c.args.minus))
