use Rattle.line_reader.proofs.Steps.{blank-held, blank-values, following-starts, following-whole, following-more, follows-whole, follows-stuck}
use Rattle.line_reader.proofs.matcher.follow.Goals as goal

pub loop-c-init : goal.loop-c-init
loop-c-init c = following-starts _ _ _ blank-held blank-values

pub returns-then-at-s : goal.returns-then-at-s
returns-then-at-s c = follows-whole _ _ _ (following-whole _ _ _ _ _ c.loop-c.invariant c.loop-c-test.false c.if-at-s.true)

pub returns-else-at-s : goal.returns-else-at-s
returns-else-at-s c = follows-stuck c.loop-c.values _ _ (following-more _ _ _ _ _ c.loop-c.invariant c.loop-c-test.false c.if-at-s.false)
