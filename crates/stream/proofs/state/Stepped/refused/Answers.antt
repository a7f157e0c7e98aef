-- The marks are those of an end.
use Rattle.stream.proofs.state.Stepped.refused.Goals as goal

pub returns : goal.returns
returns c = rw c.ended.ensures
