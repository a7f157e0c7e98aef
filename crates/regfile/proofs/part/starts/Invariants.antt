-- `regfile::part::starts` meets its contract: after i turns the first i registers have their starts, and `at` is the next one.
use mathlib.Core.Path.{◌≡◌}
use Prim.Native.Nat.{◌*◌, ◌≤◌}
use Rattle.isa.proofs.Made.{Made}
use Rattle.regfile.proofs.part.starts.Given as goal

abbrev pub invariant-loop-start : goal.invariant-loop-start
invariant-loop-start l = Made 0 32 l.start-index (λ k. k * l.w) l.start-items × (l.at ≡ l.start-index * l.w) × (l.at ≤ 256 * l.start-index)
