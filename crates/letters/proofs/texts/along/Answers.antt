use mathlib.Core.Path.{sym, ◌∙◌}
use Rattle.grammar.proofs.Packed.{going-starts, going-past, going-off, going_on, going-ends}
use Rattle.letters.proofs.texts.along.Goals as goal

pub loop-i-init : goal.loop-i-init
loop-i-init c = going-starts _ _ _ c.requires

pub returns-then-s-at : goal.returns-then-s-at
returns-then-s-at c = going-past _ _ _ _ _ c.loop-i.invariant c.if-s-at.true

pub returns-then-wide-rest : goal.returns-then-wide-rest
returns-then-wide-rest c = going-off _ _ _ _ _ c.loop-i.invariant c.loop-i-test.true c.if-s-at.false (λ e. c.if-wide-rest.true (c.wide.ensures ∙ e))

pub loop-i-preserved : goal.loop-i-preserved
loop-i-preserved c = going_on _ _ _ _ _ c.loop-i.invariant c.loop-i-test.true c.if-s-at.false (sym c.wide.ensures ∙ c.if-wide-rest.false)

pub returns : goal.returns
returns c = going-ends _ _ _ _ _ c.loop-i.invariant c.loop-i-test.false
