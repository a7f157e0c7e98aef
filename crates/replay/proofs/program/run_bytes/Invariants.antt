-- The run from word `done` on, at the state reached, is the run from the start.
use Prim.Native.Nat.{◌-◌, ◌≤◌}
use Rattle.isa.specs.Bytes.{words_of}
use Rattle.isa.specs.Run.{start}
use Rattle.isa.proofs.Going.{Going}
use Rattle.replay.proofs.program.run_bytes.Given as goal

abbrev pub invariant-loop-done : goal.invariant-loop-done
invariant-loop-done l = Going l.l (words_of l.bytes) (start l.fn.file l.qc) (record { file = l.file; qc = l.flag; done = l.done }) l.done × (l.done ≤ l.count)

abbrev pub decreases-loop-done : goal.decreases-loop-done
decreases-loop-done l = l.count - l.done
