use Rattle.codec.proofs.decoder.read_group.Goals as goal

pub returns : goal.returns
returns c = rw c.size_of.ensures
