-- By the group.
use mathlib.Core.Path.{sym, ◌∙◌}
use lib.Dec.{lit<}
use Rattle.isa.specs.declared.types.Group.{Group}
use Rattle.grammar.specs.Grammar.{letter_a, letter_e, letter_h}
use Rattle.line_writer.proofs.Filling.{few-same, group-by}
use Rattle.line_writer.proofs.grouped.Goals as goal

pub group_values-requires : goal.group_values-requires
group_values-requires c = let p = few-same (group-by c.args.a Group.Two c.in-Two.is) c.requires in
    (lit< tt, p letter_a, p letter_h)

pub group_values-requires-in-Four : goal.group_values-requires-in-Four
group_values-requires-in-Four c = let p = few-same (group-by c.args.a Group.Four c.in-Four.is) c.requires in
    (lit< tt, p letter_e, p letter_h)

pub returns-in-Two : goal.returns-in-Two
returns-in-Two c = c.group_values.ensures ∙ sym (group-by c.args.a Group.Two c.in-Two.is)

pub returns-in-Four : goal.returns-in-Four
returns-in-Four c = c.group_values-in-Four.ensures ∙ sym (group-by c.args.a Group.Four c.in-Four.is)
