-- A byte of the number of cases, or one of an entry that ends a number or does not.
use mathlib.Core.Path.{ap, ◌∙◌}
use Rattle.stream.specs.Contents.{count_on}
use Rattle.stream.proofs.Listed.{count-lists, past-lists, number-lists, entry-lists}
use Rattle.stream.proofs.contents.contents_byte.Goals as goal

pub returns-then-at-lt4 : goal.returns-then-at-lt4
returns-then-at-lt4 c = let a = c.args in
    count-lists a.contents.now a.m a.b c.count_byte.result c.if-at-lt4.true
    (c.count_byte.ensures ∙ ap (count_on a.m.course.at) c.with_byte.ensures.0)

pub returns-then-at-ge-LONGEST_CONTENTS : goal.returns-then-at-ge-LONGEST_CONTENTS
returns-then-at-ge-LONGEST_CONTENTS c = let a = c.args in
    past-lists a.contents.now a.m a.b c.refused.result c.if-at-ge-LONGEST_CONTENTS.true c.refused.ensures

pub returns-then-at-eq3 : goal.returns-then-at-eq3
returns-then-at-eq3 c = let a = c.args in
    number-lists a.contents.now a.m a.b c.entry_number.result c.if-at-lt4.false c.if-at-eq3.true c.entry_number.ensures

pub returns : goal.returns
returns c = let a = c.args in
    entry-lists a.contents.now a.m a.b c.on.result c.if-at-lt4.false c.if-at-eq3.false c.on.ensures
