-- The course is the one that is made.
use Rattle.stream.proofs.contents.on.Goals as goal

pub returns : goal.returns
returns c = rw c.new.ensures
