use mathlib.Core.Path.{sym, ap, ◌∙◌}
use native.Mathlib.Omega.{arith}
use Rattle.isa.specs.declared.types.Mul.{Mul}
use Rattle.isa.specs.declared.types.Decoded.{Decoded}
use Rattle.codec.specs.Pair.{mul_by}
use Rattle.codec.proofs.Keys.{is_mul, outside-vectors}
use Rattle.codec.proofs.decoder.decode_vectors.Goals as goal

pub returns-in-0 : goal.returns-in-0
returns-in-0 c = c.mul_operation.ensures ∙ ap (λ (a : Mul). Decoded.Operation (mul_by c.args.rounding a)) c.read_mul.ensures
    ∙ sym (is_mul c.args.word (omega arith) c.args.rounding c.requires.0 c.requires.1 (omega arith))

pub returns-in_default : goal.returns-in_default
returns-in_default c = sym (outside-vectors c.args.word c.args.rounding (omega arith) c.requires.0 c.requires.1 (omega arith))
