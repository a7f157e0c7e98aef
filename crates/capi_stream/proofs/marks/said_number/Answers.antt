use native.Mathlib.Omega.{arith}
use Rattle.capi_stream.proofs.Stored.{kind-range}
use Rattle.capi_stream.proofs.marks.said_number.Goals as goal

pub overflow_sub-result : goal.overflow_sub-result
overflow_sub-result c = omega (arith, (kind-range c.args.v).0, c.verdict_kind.ensures)
