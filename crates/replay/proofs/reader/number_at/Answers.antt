-- Either too few bytes are there, or the four are.
use native.Mathlib.Omega.{arith}
use mathlib.Core.Path.{ap, ◌∙◌}
use Rattle.replay.proofs.Read.{read-there, read_short}
use Rattle.replay.proofs.reader.number_at.Goals as goal
use Rattle.std.specs.Prelude.{Some}

pub returns-then-s-lt4 : goal.returns-then-s-lt4
returns-then-s-lt4 c = read_short _ _ (omega arith)

pub returns : goal.returns
returns c = ap Some c.word_at.ensures ∙ read-there _ _ (omega arith)
