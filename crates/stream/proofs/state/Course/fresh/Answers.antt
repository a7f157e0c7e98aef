-- The array is zeros.
use mathlib.Core.Path.{ap, ◌∙◌}
use Rattle.stream.specs.Kept.{course_at}
use Rattle.stream.proofs.Padded.{padded-none}
use Rattle.stream.proofs.state.Course.fresh.Goals as goal

pub returns : goal.returns
returns c = c.new.ensures ∙ ap (course_at 0) (padded-none 4)
