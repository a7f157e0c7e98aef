use Rattle.listing.proofs.Tests.{over-already, over-alike}
use Rattle.listing.proofs.is_over.Goals as goal

pub returns-then-done-gt-LIMIT : goal.returns-then-done-gt-LIMIT
returns-then-done-gt-LIMIT c = over-already c.args.done c.args.words c.if-done-gt-LIMIT.true

pub returns : goal.returns
returns c = over-alike c.args.done c.args.words c.if-done-gt-LIMIT.false
