-- `kernel::product64::choose_long` meets its contract: step by step.
use Rattle.std.proofs.Common.{to_z-of_z}
use Rattle.kernel.proofs.product64.choose_long.Goals as goal

pub returns-then-t : goal.returns-then-t
returns-then-t c = simp (to_z-of_z c.ranges.a, c.if-t.true)

pub returns-else-t : goal.returns-else-t
returns-else-t c = simp (to_z-of_z c.ranges.b, c.if-t.false)
