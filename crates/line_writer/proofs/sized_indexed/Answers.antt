-- By the size.
use mathlib.Core.Path.{sym, ◌∙◌}
use lib.Dec.{lit<}
use Rattle.grammar.specs.Grammar.{letter_d, letter_h, letter_j, letter_k, letter_l, letter_n}
use Rattle.line_writer.proofs.Filling.{few-same, indexed-half, indexed-single}
use Rattle.line_writer.proofs.sized_indexed.Goals as goal

pub indexed_values-requires : goal.indexed_values-requires
indexed_values-requires c = let p = few-same (indexed-half c.args.a c.in-B.is) c.requires in
    (lit< tt, lit< tt, p letter_l, p letter_j, p letter_n, p letter_d)

pub indexed_values-requires-in-S : goal.indexed_values-requires-in-S
indexed_values-requires-in-S c = let p = few-same (indexed-single c.args.a c.in-S.is) c.requires in
    (lit< tt, lit< tt, p letter_h, p letter_k, p letter_n, p letter_d)

pub returns-in-B : goal.returns-in-B
returns-in-B c = c.indexed_values.ensures ∙ sym (indexed-half c.args.a c.in-B.is)

pub returns-in-S : goal.returns-in-S
returns-in-S c = c.indexed_values-in-S.ensures ∙ sym (indexed-single c.args.a c.in-S.is)
