-- The loop's invariant: the items passed are followed.
use Rattle.line_reader.proofs.Steps.{Following}
use Rattle.line_reader.proofs.matcher.follow.Given as goal

abbrev pub invariant-loop-c : goal.invariant-loop-c
invariant-loop-c l = Following l.template l.s l.values l.at l.c-index
