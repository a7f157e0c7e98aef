-- By the byte at the place.
use Rattle.line_reader.proofs.Steps.{literal-past, literal-off, literal-on}
use Rattle.line_reader.proofs.matcher.literal.Goals as goal
use Rattle.line_reader.proofs.matcher.literal.Goals.{else-at-s-via-then-at-s+else-s-at, else-at-s-via-else-at-s}

pub returns-then-s-at : goal.returns-then-s-at
returns-then-s-at c = λ vs held. literal-on c.args.c vs c.args.s.now c.args.at c.requires held c.if-at-s.true c.if-s-at.true

pub returns-else-at-s : goal.returns-else-at-s
returns-else-at-s c = λ vs held.
    elim c.else-at-s.branch [
      | else-at-s-via-then-at-s+else-s-at w ↦ literal-off c.args.c vs c.args.s.now c.args.at c.requires held w.if-at-s.true w.if-s-at.false
      | else-at-s-via-else-at-s w ↦ literal-past c.args.c vs c.args.s.now c.args.at c.requires held w.if-at-s.false
    ]
