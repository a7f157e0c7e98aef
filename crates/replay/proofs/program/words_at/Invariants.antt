-- The words before i are taken.
use Prim.Native.Nat.{◌+◌, ◌*◌, ◌-◌, ◌≤◌}
use Rattle.isa.specs.Bytes.{word_at}
use Rattle.isa.proofs.Made.{Made}
use Rattle.replay.proofs.program.words_at.Given as goal

abbrev pub invariant-loop-i : goal.invariant-loop-i
invariant-loop-i l = Made 0 16 l.i (λ k. word_at l.bytes (l.at + 4 * k)) l.words × (l.i ≤ l.n)

abbrev pub decreases-loop-i : goal.decreases-loop-i
decreases-loop-i l = l.n - l.i
