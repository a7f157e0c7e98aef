-- The length, the word count and the start together; then whether the contents end.
use mathlib.Core.Path.{sym, ◌∙◌}
use Rattle.stream.proofs.Numbers.{start_small, start-free, start-refused, start-opens, start-on}
use Rattle.stream.proofs.contents.start_number.Goals as goal

pub returns-then-cases-due : goal.returns-then-cases-due
returns-then-cases-due c = c.refused.ensures ∙ start-free _ _ _ _ _ c.if-cases-due.true

pub body_end-requires : goal.body_end-requires
body_end-requires c = let a = c.args in
    (start_small a.cases a.due c.if-cases-due.false).1

pub returns-in_default : goal.returns-in_default
returns-in_default c = let a = c.args in
    c.refused-in_default.ensures
    ∙ start-refused a.contents.now a.cases a.due a.at a.start c.if-cases-due.false c.wide-l.result c.wide-w.result
    (c.wide-l.ensures ∙ c.word_at.ensures) (c.wide-w.ensures ∙ c.word_at-2.ensures)
    (sym c.body_end.ensures ∙ c.in_default.is)

pub entry_place-requires : goal.entry_place-requires
entry_place-requires c = let a = c.args in
    (start_small a.cases a.due c.if-cases-due.false).0

pub returns-then-at-entry_place : goal.returns-then-at-entry_place
returns-then-at-entry_place c = let a = c.args in
    c.opened.ensures
    ∙ start-opens a.contents.now a.cases a.due a.at a.start c.if-cases-due.false c.wide-l.result c.wide-w.result
    (c.wide-l.ensures ∙ c.word_at.ensures) (c.wide-w.ensures ∙ c.word_at-2.ensures) _ (sym c.body_end.ensures ∙ c.in-Some.is)
    c.entry_place.result c.entry_place.ensures c.if-at-entry_place.true

pub returns : goal.returns
returns c = let a = c.args in
    c.on.ensures
    ∙ start-on a.contents.now a.cases a.due a.at a.start c.if-cases-due.false c.wide-l.result c.wide-w.result
    (c.wide-l.ensures ∙ c.word_at.ensures) (c.wide-w.ensures ∙ c.word_at-2.ensures) _ (sym c.body_end.ensures ∙ c.in-Some.is)
    c.entry_place.result c.entry_place.ensures c.if-at-entry_place.false
