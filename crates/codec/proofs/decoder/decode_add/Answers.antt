use mathlib.Core.Path.{sym, ap, ◌∙◌}
use mathlib.Core.Bool.{true, false}
use native.Mathlib.Omega.{arith}
use Rattle.isa.specs.declared.types.Add.{Add}
use Rattle.isa.specs.declared.types.Op.{Op}
use Rattle.isa.specs.declared.types.Decoded.{Decoded}
use Rattle.codec.proofs.Keys.{is-add, outside-add}
use Rattle.codec.proofs.decoder.decode_add.Goals as goal

pub returns-in-27 : goal.returns-in-27
returns-in-27 c = c.add_operation.ensures ∙ ap (λ (a : Add). Decoded.Operation (Op.Cadd a)) c.read_add.ensures
    ∙ sym (is-add c.args.word (omega arith) false (omega arith) (omega arith))

pub returns-in-59 : goal.returns-in-59
returns-in-59 c = c.add_operation-in-59.ensures ∙ ap (λ (a : Add). Decoded.Operation (Op.Sqcadd a)) c.read_add-in-59.ensures
    ∙ sym (is-add c.args.word (omega arith) true (omega arith) (omega arith))

pub returns-in_default : goal.returns-in_default
returns-in_default c = sym (outside-add c.args.word (omega arith) (omega arith) (omega arith) (omega arith))
