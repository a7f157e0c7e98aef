-- A start, or a length or a word count that is allowed or not.
use mathlib.Core.Path.{◌∙◌}
use Rattle.stream.proofs.Numbers.{number-start, number-on, number-refused}
use Rattle.stream.proofs.contents.entry_number.Goals as goal

pub returns-then-column-eq11 : goal.returns-then-column-eq11
returns-then-column-eq11 c = let a = c.args in
    number-start a.contents.now a.cases a.due a.at c.wide-n.result (c.wide-n.ensures ∙ c.word_at.ensures) c.if-column-eq11.true
    c.start_number.result c.start_number.ensures

pub returns-then-is_legal-column : goal.returns-then-is_legal-column
returns-then-is_legal-column c = let a = c.args in
    c.on.ensures
    ∙ number-on a.contents.now a.cases a.due a.at c.wide-n.result (c.wide-n.ensures ∙ c.word_at.ensures) c.if-column-eq11.false
    c.is_legal.result c.is_legal.ensures c.if-is_legal-column.true

pub returns : goal.returns
returns c = let a = c.args in
    c.refused.ensures
    ∙ number-refused a.contents.now a.cases a.due a.at c.wide-n.result (c.wide-n.ensures ∙ c.word_at.ensures) c.if-column-eq11.false
    c.is_legal.result c.is_legal.ensures c.if-is_legal-column.false
