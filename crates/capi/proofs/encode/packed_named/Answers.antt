use mathlib.Core.Path.{ap, ◌∙◌}
use Rattle.capi.specs.Encode.{written_packed, named_packed}
use Rattle.capi.proofs.encode.packed_named.Goals as goal

pub returns-in-Some : goal.returns-in-Some
unfolding named_packed
returns-in-Some c = rw c.in-Some.is (c.packed_written.ensures ∙ ap written_packed c.encode.ensures)

pub returns-in-None : goal.returns-in-None
unfolding named_packed
returns-in-None c = rw c.in-None.is
