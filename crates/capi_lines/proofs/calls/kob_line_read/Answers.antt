use native.Mathlib.Omega.{arith}
use mathlib.Core.Path.{sym, ◌∙◌}
use Rattle.capi_lines.proofs.Short.{reach-short}
use Rattle.capi_lines.proofs.Called.{read-refused, read-operation, read-not-line}
use Rattle.capi_lines.proofs.calls.kob_line_read.Goals as goal

pub returns-then-fields-ne-FIELDS : goal.returns-then-fields-ne-FIELDS
returns-then-fields-ne-FIELDS c = read-refused c.args.line.now c.args.fields.now c.if-fields-ne-FIELDS.true

pub returns-in-Ok : goal.returns-in-Ok
returns-in-Ok c = read-operation c.args.line.now c.args.fields.now c.if-fields-ne-FIELDS.false
    (sym c.read_line.ensures ∙ c.in-Ok.is)
    (c.put_fields.ensures ∙ c.fields_of.ensures)

pub returns-in-Err : goal.returns-in-Err
returns-in-Err c = let is = sym c.read_line.ensures ∙ c.in-Err.is in
    read-not-line c.args.line.now c.args.fields.now c.if-fields-ne-FIELDS.false is
    (omega (arith, reach-short c.args.line.now _ is))
