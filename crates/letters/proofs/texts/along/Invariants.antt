-- The loop's invariant: the bytes passed are alike.
use Rattle.grammar.proofs.Packed.{Going}
use Rattle.letters.proofs.texts.along.Given as goal

abbrev pub invariant-loop-i : goal.invariant-loop-i
invariant-loop-i l = Going l.packed l.s l.at l.rest l.i
