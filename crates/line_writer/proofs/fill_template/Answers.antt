use Rattle.line_writer.proofs.Filling.{filling-on, filling-fits}
use Rattle.line_writer.proofs.fill_template.Goals as goal

pub put_item-requires : goal.put_item-requires
put_item-requires c = (c.requires.0, filling-fits c.loop-c.invariant c.loop-c-test.true c.requires.1)

pub loop-c-preserved : goal.loop-c-preserved
loop-c-preserved c = rw c.put_item.ensures (filling-on c.loop-c.invariant c.loop-c-test.true)
