-- The loop's invariant: no pattern that was passed has the text.
use Rattle.line_reader.proofs.Finding.{Finding}
use Rattle.line_reader.proofs.reader.read_slowly.Given as goal

abbrev pub invariant-loop-pattern : goal.invariant-loop-pattern
invariant-loop-pattern l = Finding l.s l.furthest l.pattern
