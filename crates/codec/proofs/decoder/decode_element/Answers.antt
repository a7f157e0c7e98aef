use mathlib.Core.Path.{sym}
use native.Mathlib.Omega.{arith}
use Rattle.codec.proofs.Keys.{outside-element}
use Rattle.codec.proofs.decoder.decode_element.Goals as goal

pub returns-in_default : goal.returns-in_default
returns-in_default c = sym (outside-element c.args.word c.args.form (omega arith) c.requires (λ p z. omega arith) (λ p z. omega arith))
