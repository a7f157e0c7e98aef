use mathlib.Core.Path.{ap, ◌∙◌}
use Rattle.std.specs.Prelude.{Ok}
use Rattle.line_reader.proofs.Finding.{finding-starts, finding-on, finding-ends, tried-read}
use Rattle.line_reader.proofs.reader.read_slowly.Goals as goal

pub loop-pattern-init : goal.loop-pattern-init
loop-pattern-init c = finding-starts _ _ c.requires

pub returns-in-Ok : goal.returns-in-Ok
returns-in-Ok c = ap Ok c.make.ensures ∙ tried-read c.args.s.now c.in-Ok.values c.loop-pattern.pattern c.loop-pattern.furthest c.loop-pattern-test.true c.in-Ok.ensures

pub loop-pattern-preserved : goal.loop-pattern-preserved
loop-pattern-preserved c = finding-on c.in-Err.refusal c.loop-pattern.invariant c.loop-pattern-test.true c.in-Err.ensures c.max-furthest.ensures

pub returns : goal.returns
returns c = finding-ends c.loop-pattern.invariant c.loop-pattern-test.false
