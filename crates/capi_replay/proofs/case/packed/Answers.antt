use native.Mathlib.Omega.{arith}
use Rattle.capi_replay.specs.Replay.{judged_packed}
use Rattle.capi_replay.proofs.case.packed.Goals as goal

pub returns : goal.returns
unfolding judged_packed
returns c = omega arith
