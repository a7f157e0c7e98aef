-- Nothing has come.
use mathlib.Core.Path.{refl}
use Rattle.stream.proofs.Called.{new-keeps}
use Rattle.stream.proofs.state.State.new.Goals as goal

pub returns : goal.returns
returns c = new-keeps _ _ _ refl refl c.fresh.ensures
