-- Behind a number that is there.
use mathlib.Core.Path.{sym, ◌∙◌}
use native.Mathlib.Omega.{arith}
use Rattle.replay.proofs.Read.{read_number}
use Rattle.replay.proofs.reader.Reader.number.Goals as goal

pub overflow_add-self : goal.overflow_add-self
overflow_add-self c = let there = read_number _ _ _ (sym c.number_at.ensures ∙ c.in_ok-n.was) in omega (arith, there.0)
