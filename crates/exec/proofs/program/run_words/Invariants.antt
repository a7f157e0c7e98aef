-- `exec::program::run_words` meets its contract: the run from a word on, at the state reached, is the run from the start.
use Rattle.isa.specs.Run.{start}
use Rattle.isa.proofs.Going.{Going}
use Rattle.exec.proofs.Words.{state_of}
use Rattle.exec.proofs.program.run_words.Given as goal

abbrev pub invariant-loop-word : goal.invariant-loop-word
invariant-loop-word l = Going l.l l.words (start l.fn.file l.qc) (state_of l.file l.carried) l.word-index
