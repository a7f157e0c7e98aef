use mathlib.Core.Path.{sym}
use native.Mathlib.Omega.{arith}
use Rattle.codec.proofs.Keys.{outside-product}
use Rattle.codec.proofs.decoder.decode_product.Goals as goal

pub returns-in_default : goal.returns-in_default
returns-in_default c = sym (outside-product c.args.word (omega arith) c.requires (omega arith) (omega arith) (omega arith) (omega arith))
