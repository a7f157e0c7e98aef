-- The contents, the bodies, or a stream that is over.
use Rattle.stream.proofs.Feeding.{step-contents, step-bodies, step-ended}
use Rattle.stream.proofs.feed.step.Goals as goal

pub returns-in-Contents : goal.returns-in-Contents
returns-in-Contents c = let r = c.contents_byte.ensures in
    step-contents c.args.held.now c.args.m c.args.bytes.now c.requires.0 c.requires.1 _ _ c.contents_byte.auto.contents
    c.in-Contents.is r.0 r.1

pub returns-in-Bodies : goal.returns-in-Bodies
returns-in-Bodies c = let r = c.bodies_bytes.ensures in
    step-bodies c.args.held.now c.args.m c.args.bytes.now c.requires.0 c.requires.1 _ _ c.in-Bodies.is r.2 r.0 r.1

pub returns-in-Ended : goal.returns-in-Ended
returns-in-Ended c = step-ended c.args.held.now c.args.m c.args.bytes.now c.requires.0 c.requires.1 _ _ c.in-Ended.is c.refused.ensures
