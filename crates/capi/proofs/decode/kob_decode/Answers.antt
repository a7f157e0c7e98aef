use mathlib.Core.Path.{sym, ◌∙◌}
use Rattle.capi.proofs.Decoded.{decode-refused, decode-operation, decode-reserved, decode-outside}
use Rattle.capi.proofs.decode.kob_decode.Goals as goal

pub returns-then-fields-ne8 : goal.returns-then-fields-ne8
returns-then-fields-ne8 c = decode-refused c.args.word c.args.fields.now c.if-fields-ne8.true

pub returns-in-Operation : goal.returns-in-Operation
returns-in-Operation c = decode-operation c.args.word c.args.fields.now c.if-fields-ne8.false
    (sym c.decode-decoded.ensures ∙ c.in-Operation.is)
    (c.put_fields.ensures ∙ c.fields_of.ensures)

pub returns-in-Reserved : goal.returns-in-Reserved
returns-in-Reserved c = decode-reserved c.args.word c.args.fields.now c.if-fields-ne8.false
    (sym c.decode-decoded.ensures ∙ c.in-Reserved.is)

pub returns-in-Outside : goal.returns-in-Outside
returns-in-Outside c = decode-outside c.args.word c.args.fields.now c.if-fields-ne8.false
    (sym c.decode-decoded.ensures ∙ c.in-Outside.is)
