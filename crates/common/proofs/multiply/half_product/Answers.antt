-- `common::multiply::half_product` meets its contract: by the first number's digits.
use Rattle.std.proofs.Common.{arith}
use Rattle.integer.proofs.Columns.{within, by_left}
use Rattle.common.proofs.multiply.half_product.Goals as goal

pub returns : goal.returns
returns c = within 4294967295 4294967295 (omega arith) (omega arith) (omega (arith, c.row.ensures, c.row-2.ensures, by_left 65536 c.args.a c.args.b))
