-- The loop's invariant: the items passed are written.
use lib.ListN.{take}
use Rattle.line_writer.proofs.Filling.{Filling}
use Rattle.line_writer.proofs.fill_template.Given as goal

abbrev pub invariant-loop-c : goal.invariant-loop-c
invariant-loop-c l = Filling l.template l.values (take l.line.size l.line.bytes) l.c-index
