-- `kernel::product64::wide_product` meets its contract: the words are the quotient and the remainder by 2 ^ 64.
use Rattle.std.proofs.Common.{◌*◌, ◌^◌, div-add-mod'}
use Rattle.kernel.proofs.product64.wide_product.Goals as goal

pub returns : goal.returns
returns c = simp (c.high_word.ensures, c.low_word.ensures) (div-add-mod' (c.args.u * c.args.v) (2 ^ 64))
