use native.Mathlib.Omega.{arith}
use Rattle.capi.specs.Register.{part_packed}
use Rattle.capi.proofs.register.packed_part.Goals as goal

pub returns : goal.returns
unfolding part_packed
returns c = omega arith
