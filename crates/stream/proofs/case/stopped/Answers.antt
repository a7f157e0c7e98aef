-- A run that is refused for nothing has ended with done, or stopped at a word.
use Rattle.stream.proofs.case.stopped.Goals as goal

pub returns-in-Outside : goal.returns-in-Outside
returns-in-Outside c = rw c.in-Outside.is

pub returns-in-Reserved : goal.returns-in-Reserved
returns-in-Reserved c = rw c.in-Reserved.is
