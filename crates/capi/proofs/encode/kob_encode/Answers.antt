use mathlib.Core.Path.{ap, ◌∙◌}
use Rattle.fields.specs.Named.{named_of}
use Rattle.capi.specs.Encode.{named_packed}
use Rattle.capi.proofs.Named.{encode-refused, encode-eight}
use Rattle.capi.proofs.encode.kob_encode.Goals as goal

pub returns-then-fields-ne8 : goal.returns-then-fields-ne8
returns-then-fields-ne8 c = encode-refused c.args.fields.now c.if-fields-ne8.true

pub returns : goal.returns
returns c = c.packed_named.ensures
    ∙ ap named_packed (c.named_by.ensures ∙ ap named_of c.read_numbers.ensures)
    ∙ encode-eight c.args.fields.now c.if-fields-ne8.false
