use native.Mathlib.Omega.{arith}
use Rattle.capi_run.specs.Run.{ran_packed}
use Rattle.capi_run.proofs.run.packed_run.Goals as goal

pub returns : goal.returns
unfolding ran_packed
returns c = omega arith
