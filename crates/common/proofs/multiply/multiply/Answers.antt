-- `common::multiply::multiply` meets its contract: the product of two numbers of 16 bits fits 32.
use Rattle.std.proofs.Common.{◌*◌, ◌≤◌, mul-le-mul, arith}
use Rattle.common.proofs.multiply.multiply.Goals as goal

pub overflow_mul-result : goal.overflow_mul-result
overflow_mul-result c = let p : c.args.a * c.args.b ≤ 65535 * 65535 = mul-le-mul {n₂ = 65535} {m₂ = 65535} (omega arith) (omega arith) in
    omega arith
