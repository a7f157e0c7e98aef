use native.Mathlib.Omega.{arith}
use Rattle.codec.proofs.Keys.{add-rotation-rest}
use Rattle.codec.proofs.decoder.add_rotation_of.Goals as goal

pub returns-in_default : goal.returns-in_default
returns-in_default c = add-rotation-rest c.args.n (omega arith)
