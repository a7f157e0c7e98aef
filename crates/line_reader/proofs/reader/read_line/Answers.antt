-- The pattern that was tried first has the text.
use mathlib.Core.Path.{ap, ◌∙◌}
use Rattle.std.specs.Prelude.{Ok}
use Rattle.line_reader.proofs.Finding.{tried-read}
use Rattle.line_reader.proofs.reader.read_line.Goals as goal

pub returns-in-Ok : goal.returns-in-Ok
returns-in-Ok c = ap Ok c.make.ensures ∙ tried-read c.args.s.now c.in-Ok.values c.likely_pattern-pattern.result 0 c.likely_pattern-pattern.ensures c.in-Ok.ensures
