-- A stream that is over, one that a refusal ends, or one that goes on.
use borrow.Enum.Refused.{opened}
use mathlib.Core.Path.{◌∙◌}
use Rattle.stream.proofs.Called.{feed-ended, feed-goes, feed-refused}
use Rattle.stream.proofs.feed.feed.Goals as goal

pub returns-in-Ended : goal.returns-in-Ended
returns-in-Ended c = feed-ended c.args.held.now c.args.m c.args.bytes.now _ c.in-Ended.is

pub returns-in-Over : goal.returns-in-Over
returns-in-Over c = feed-refused c.args.held.now c.args.m c.args.bytes.now (opened c.in_default.in_default-own.keys2) _ _ c.take-took.ensures _ c.in-Over.is
    (c.take-took.auto.held ∙ c.requires) _ (c.fill.ensures.after (λ y e. e))

pub returns-in_default-told : goal.returns-in_default-told
returns-in_default-told c = feed-goes c.args.held.now c.args.m c.args.bytes.now (opened c.in_default.in_default-own.keys2) _ _ c.take-took.ensures (opened c.in_default-told.in_default-told-own.keys2)
