-- Equal flags agree.
use Rattle.replay.proofs.body.flags.Goals as goal

pub returns-then-left-after : goal.returns-then-left-after
returns-then-left-after c = rw c.if-left-after.true

pub returns-else-left-after : goal.returns-else-left-after
returns-else-left-after c = rw c.if-left-after.false
