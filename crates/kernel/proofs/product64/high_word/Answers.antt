-- `kernel::product64::high_word` meets its contract: multiplying by hand in base 2 ^ 32.
use Rattle.std.proofs.Common.{lit<}
use Rattle.integer.proofs.Columns.{upper_is}
use Rattle.kernel.proofs.product64.high_word.Goals as goal

pub returns : goal.returns
returns c = upper_is 4294967296 (lit< tt) c.args.u c.args.v c.half_product-w.ensures.0 c.half_product-x.ensures.0 c.half_product-y.ensures.0 c.half_product-z.ensures.0
