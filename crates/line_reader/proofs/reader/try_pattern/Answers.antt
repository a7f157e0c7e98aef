-- The mark shows that the pattern goes no further.
use Rattle.line_reader.proofs.Finding.{tried-short}
use Rattle.line_reader.proofs.reader.try_pattern.Goals as goal

pub returns-then-stops_short : goal.returns-then-stops_short
returns-then-stops_short c = let short = c.stops_short.ensures c.if-stops_short.true in
    tried-short c.args.pattern c.args.s.now c.args.far c.template_at-t.result.mark _ c.template_at-t.ensures.mark short.0 short.1
