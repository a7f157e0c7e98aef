-- Within the contents, in the bodies, or over already.
use Rattle.stream.proofs.Phases.{close-contents, close-whole, close-short, close-ended}
use Rattle.stream.proofs.feed.close.Goals as goal

pub returns-in-Contents : goal.returns-in-Contents
returns-in-Contents c = close-contents c.args.m c.in-Contents.is

pub returns-then-m : goal.returns-then-m
returns-then-m c = close-whole c.args.m c.in-Bodies.is c.if-m.true

pub returns-else-m : goal.returns-else-m
returns-else-m c = close-short c.args.m c.in-Bodies.is c.if-m.false

pub returns-in-Ended : goal.returns-in-Ended
returns-in-Ended c = close-ended c.args.m _ c.in-Ended.is
