use mathlib.Core.Path.{sym, ap, ◌∙◌}
use Rattle.fields.specs.Named.{named_of}
use Rattle.grammar.specs.Write.{LineOutcome}
use Rattle.capi_lines.proofs.Short.{written-short}
use Rattle.capi_lines.proofs.Called.{write-refused, write-nothing, write-named}
use Rattle.capi_lines.proofs.calls.kob_line_write.Goals as goal

pub returns-then-fields-ne-FIELDS : goal.returns-then-fields-ne-FIELDS
returns-then-fields-ne-FIELDS c = write-refused c.args.fields.now c.args.out.now c.if-fields-ne-FIELDS.true

pub packed-requires : goal.packed-requires
packed-requires c = written-short _ c.args.out.now c.write_line.result (ap (λ (o : LineOutcome). o.answer) c.write_line.ensures)

pub returns-in-Some : goal.returns-in-Some
returns-in-Some c = write-named c.args.fields.now c.args.out.now c.if-fields-ne-FIELDS.false
    (sym (c.named_by.ensures ∙ ap named_of c.read_numbers.ensures) ∙ c.in-Some.is)
    c.write_line.ensures
    c.packed.ensures

pub returns-in-None : goal.returns-in-None
returns-in-None c = write-nothing c.args.fields.now c.args.out.now c.if-fields-ne-FIELDS.false
    (sym (c.named_by.ensures ∙ ap named_of c.read_numbers.ensures) ∙ c.in-None.is)
