use Rattle.listing.proofs.Lines.{putting-starts, putting-on, putting-ends}
use Rattle.listing.proofs.put_lines.Goals as goal

pub loop-k-init : goal.loop-k-init
loop-k-init c = putting-starts _ _ _

pub loop-k-preserved : goal.loop-k-preserved
loop-k-preserved c = putting-on c.loop-k.invariant c.loop-k-test.true c.requires.0 c.requires.1 c.well_formed.1.0.0
    c.word_at.ensures c.put_line-at.auto.out c.put_line-at.ensures

pub shape_of-out : goal.shape_of-out
shape_of-out c = c.loop-k.invariant.sized

pub returns : goal.returns
returns c = putting-ends c.loop-k.invariant c.loop-k-test.false
