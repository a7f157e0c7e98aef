-- `common::multiply::row` meets its contract: by the second number's digits.
use Rattle.std.proofs.Common.{arith}
use Rattle.integer.proofs.Columns.{within, by_right}
use Rattle.common.proofs.multiply.row.Goals as goal

pub returns : goal.returns
returns c = within 65535 4294967295 (omega arith) (omega arith) (omega (arith, c.multiply-low.ensures, c.multiply-high.ensures, by_right 65536 c.args.a c.args.b))
