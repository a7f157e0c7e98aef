use native.Mathlib.Omega.{arith}
use Rattle.fields.proofs.Named.{form-rest}
use Rattle.fields.proofs.naming.form_of.Goals as goal

pub returns-in_default : goal.returns-in_default
returns-in_default c = form-rest c.args.n (omega arith)
