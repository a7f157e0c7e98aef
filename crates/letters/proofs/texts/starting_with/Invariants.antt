-- The loop's invariant: no text that was passed begins with the byte. The measure is how many are left.
use Prim.Native.Nat.{ℕ, ◌-◌}
use lib.ListN.{get_or}
use Rattle.grammar.specs.Grammar.{alphabet, unused}
use Rattle.grammar.specs.Packed.{texts_of, RowOf}
use Rattle.grammar.proofs.Packed.{Seeking}
use Rattle.letters.proofs.texts.starting_with.Given as goal

abbrev pub invariant-loop-v : goal.invariant-loop-v
invariant-loop-v l = (x : ℕ) → RowOf x l.row → Seeking (texts_of (get_or alphabet x unused)) l.b l.v

abbrev pub decreases-loop-v : goal.decreases-loop-v
decreases-loop-v l = l.v-end - l.v
