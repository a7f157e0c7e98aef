-- The number is not whole yet, allowed or refused.
use mathlib.Core.Path.{◌∙◌}
use Rattle.stream.proofs.Numbers.{count-on, count-few, count-listed, count-refused}
use Rattle.stream.proofs.contents.count_byte.Goals as goal

pub returns-then-at-lt3 : goal.returns-then-at-lt3
returns-then-at-lt3 c = c.on.ensures ∙ count-on _ _ c.if-at-lt3.true

pub entry_place-requires : goal.entry_place-requires
entry_place-requires c = count-few c.wide-n.result c.if-n.true

pub returns-then-n : goal.returns-then-n
returns-then-n c = let a = c.args in
    c.on-then-n.ensures
    ∙ count-listed a.at a.held c.if-at-lt3.false c.wide-n.result (c.wide-n.ensures ∙ c.word_at.ensures) c.if-n.true _ c.entry_place.ensures

pub returns : goal.returns
returns c = let a = c.args in
    c.refused.ensures ∙ count-refused a.at a.held c.if-at-lt3.false c.wide-n.result (c.wide-n.ensures ∙ c.word_at.ensures) c.if-n.false
