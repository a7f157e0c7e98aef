-- By the size.
use mathlib.Core.Path.{sym, ◌∙◌}
use lib.Dec.{lit<}
use Rattle.grammar.specs.Grammar.{letter_d, letter_h, letter_i, letter_j, letter_m, letter_n}
use Rattle.line_writer.proofs.Filling.{few-same, element-half, element-single}
use Rattle.line_writer.proofs.sized_element.Goals as goal

pub element_values-requires : goal.element_values-requires
element_values-requires c = let p = few-same (element-half c.args.a c.in-B.is) c.requires in
    (lit< tt, lit< tt, lit< tt, p letter_h, p letter_i, p letter_n, p letter_d)

pub element_values-requires-in-S : goal.element_values-requires-in-S
element_values-requires-in-S c = let p = few-same (element-single c.args.a c.in-S.is) c.requires in
    (lit< tt, lit< tt, lit< tt, p letter_m, p letter_j, p letter_n, p letter_d)

pub returns-in-B : goal.returns-in-B
returns-in-B c = c.element_values.ensures ∙ sym (element-half c.args.a c.in-B.is)

pub returns-in-S : goal.returns-in-S
returns-in-S c = c.element_values-in-S.ensures ∙ sym (element-single c.args.a c.in-S.is)
