use mathlib.Core.Path.{sym, ap, ◌∙◌}
use native.Mathlib.Omega.{arith}
use Rattle.isa.specs.declared.types.MulIndexed.{MulIndexed}
use Rattle.isa.specs.declared.types.Decoded.{Decoded}
use Rattle.codec.specs.Pair.{indexed_by}
use Rattle.codec.proofs.Keys.{is-indexed-h, is-indexed-s, outside-indexed}
use Rattle.codec.proofs.decoder.decode_indexed.Goals as goal

pub returns-in-5 : goal.returns-in-5
returns-in-5 c = c.indexed_operation.ensures ∙ ap (λ (a : MulIndexed). Decoded.Operation (indexed_by c.args.rounding a)) c.read_indexed.ensures
    ∙ sym (is-indexed-h c.args.word (omega arith) c.args.rounding c.requires.0 c.requires.1 (omega arith))

pub returns-in-7 : goal.returns-in-7
returns-in-7 c = c.indexed_operation-in-7.ensures ∙ ap (λ (a : MulIndexed). Decoded.Operation (indexed_by c.args.rounding a)) c.read_indexed-in-7.ensures
    ∙ sym (is-indexed-s c.args.word (omega arith) c.args.rounding c.requires.0 c.requires.1 (omega arith))

pub returns-in_default : goal.returns-in_default
returns-in_default c = sym (outside-indexed c.args.word c.args.rounding (omega arith) c.requires.0 c.requires.1 (omega arith) (omega arith))
