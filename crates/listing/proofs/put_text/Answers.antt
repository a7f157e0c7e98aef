use Rattle.listing.proofs.WithText.{copying-starts, copying-on, copying-ends}
use Rattle.listing.proofs.put_text.Goals as goal

pub loop-i-init : goal.loop-i-init
loop-i-init c = copying-starts _ _ _

pub loop-i-preserved : goal.loop-i-preserved
loop-i-preserved c = copying-on c.loop-i.invariant c.loop-i-test.true c.requires

pub returns : goal.returns
returns c = copying-ends c.loop-i.invariant c.loop-i-test.false
