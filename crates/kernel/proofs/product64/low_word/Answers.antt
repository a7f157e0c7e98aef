-- `kernel::product64::low_word` meets its contract: multiplying by hand in base 2 ^ 32.
use Rattle.std.proofs.Common.{◌≡◌, ℕ, ◌*◌, ◌%◌, arith, lit<}
use Rattle.integer.proofs.Columns.{lower-is}
use Rattle.kernel.proofs.product64.low_word.Goals as goal

moved : (s : ℕ) → s % 4294967296 * 4294967296 % 18446744073709551616 ≡ s % 4294967296 * 4294967296
moved s = omega arith

pub returns : goal.returns
returns c = simp moved (lower-is 4294967296 (lit< tt) c.args.u c.args.v c.half_product-w.ensures.0 c.half_product-x.ensures.0 c.half_product-y.ensures.0)
