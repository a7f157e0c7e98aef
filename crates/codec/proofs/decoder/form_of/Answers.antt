use native.Mathlib.Omega.{arith}
use Rattle.codec.proofs.Keys.{form-rest}
use Rattle.codec.proofs.decoder.form_of.Goals as goal

pub returns-in_default : goal.returns-in_default
returns-in_default c = form-rest c.args.top c.requires (omega arith) (omega arith)
