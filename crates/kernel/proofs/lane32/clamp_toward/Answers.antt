-- `kernel::lane32::clamp_toward` meets its contract: outside the range the sign of `toward` gives the end of the clamp.
use mir.Syntax.{w32}
use Rattle.integer.proofs.Toward.{clamp-toward-low, clamp-toward-high, clamp-toward-fits, clamp-toward-inside}
use Rattle.kernel.proofs.lane32.clamp_toward.Goals as goal
use Rattle.kernel.proofs.lane32.clamp_toward.Goals.{then-toward-lt0, else-toward-lt0}

pub overflow_cast-result : goal.overflow_cast-result
overflow_cast-result c = clamp-toward-fits w32 c.ranges.x c.past.ensures c.if-past.false

pub returns-then-past : goal.returns-then-past
returns-then-past c = let test = c.past.ensures in
    elim c.if-toward-lt0.branch [
      | then-toward-lt0 w ↦ clamp-toward-low w32 c.ranges.x test c.ranges.toward c.requires c.if-past.true w.if-toward-lt0.true w.end-is
      | else-toward-lt0 w ↦ clamp-toward-high w32 c.ranges.x test c.ranges.toward c.requires c.if-past.true w.if-toward-lt0.false w.end-is
    ]

pub returns-else-past : goal.returns-else-past
returns-else-past c = clamp-toward-inside w32 c.ranges.x c.past.ensures c.if-past.false
