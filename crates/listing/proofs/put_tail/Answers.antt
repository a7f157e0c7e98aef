use Rattle.listing.proofs.WithText.{wrote_none}
use Rattle.listing.proofs.Decimal.{tail-line}
use Rattle.listing.proofs.put_tail.Goals as goal

pub returns-then-n-eq0 : goal.returns-then-n-eq0
returns-then-n-eq0 c = rw c.if-n-eq0.true (wrote_none _ _)

pub returns : goal.returns
returns c = rw (tail-line c.args.n c.if-n-eq0.false) c.put_count.ensures
