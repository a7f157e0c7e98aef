-- The stream is over with what the end tells.
use mathlib.Core.Path.{refl}
use Rattle.stream.proofs.Called.{end-closes}
use Rattle.stream.proofs.state.State.end.Goals as goal

pub returns : goal.returns
returns c = end-closes c.args.self c.close-end.result c.ended.result _ _ c.close-end.ensures c.ended.ensures refl refl
