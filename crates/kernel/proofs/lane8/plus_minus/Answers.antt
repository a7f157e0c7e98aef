-- `kernel::lane8::plus_minus` meets its contract: the sum fits twice the width.
use mathlib.Core.Bool.{true, false}
use Rattle.integer.proofs.Widen.{wide8, fits-plus-minus, read-plus-minus}
use Rattle.kernel.proofs.lane8.plus_minus.Goals as goal

pub overflow_sub-result : goal.overflow_sub-result
overflow_sub-result c = fits-plus-minus wide8 true c.ranges.x c.ranges.y c.requires

pub overflow_add-result : goal.overflow_add-result
overflow_add-result c = fits-plus-minus wide8 false c.ranges.x c.ranges.y c.requires

pub returns-then-minus : goal.returns-then-minus
returns-then-minus c = read-plus-minus wide8 true c.if-minus.true c.ranges.x c.ranges.y c.requires

pub returns-else-minus : goal.returns-else-minus
returns-else-minus c = read-plus-minus wide8 false c.if-minus.false c.ranges.x c.ranges.y c.requires
