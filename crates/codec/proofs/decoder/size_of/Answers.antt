use native.Mathlib.Omega.{arith}
use Rattle.codec.proofs.Keys.{size-rest}
use Rattle.codec.proofs.decoder.size_of.Goals as goal

pub returns-in_default : goal.returns-in_default
returns-in_default c = size-rest c.args.n (omega arith)
