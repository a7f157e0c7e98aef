-- The first byte that differs, or none.
use Rattle.replay.proofs.Files.{differs-compared, same-compared}
use Rattle.replay.proofs.compare.compare.Goals as goal

pub returns-then-i-file : goal.returns-then-i-file
returns-then-i-file c = differs-compared c.args.file.now c.args.left.now c.args.agreed c.requires c.first_difference-i.result c.first_difference-i.ensures c.if-i-file.true

pub returns : goal.returns
returns c = same-compared c.args.file.now c.args.left.now c.args.agreed c.requires c.first_difference-i.result c.first_difference-i.ensures c.if-i-file.false
