-- The course is a fresh one.
use Rattle.stream.proofs.state.Marks.ended.Goals as goal

pub returns : goal.returns
returns c = rw c.fresh.ensures
