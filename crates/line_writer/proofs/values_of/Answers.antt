-- By the family.
use mathlib.Core.Path.{ap}
use Rattle.grammar.specs.Grammar.{letter_d, letter_m, letter_n, values_of}
use Rattle.line_writer.proofs.Filling.{few-same}
use Rattle.line_writer.proofs.values_of.Goals as goal

pub add_values-requires : goal.add_values-requires
unfolding values_of
add_values-requires c = let p = few-same (ap values_of c.in-Cadd.is) c.requires in
    (p letter_m, p letter_d)

pub mul_values-requires : goal.mul_values-requires
unfolding values_of
mul_values-requires c = let p = few-same (ap values_of c.in-Cmla.is) c.requires in
    (p letter_m, p letter_n, p letter_d)

pub sized_indexed-requires : goal.sized_indexed-requires
unfolding values_of
sized_indexed-requires c = let p = few-same (ap values_of c.in-CmlaIndexed.is) c.requires in
    p

pub add_values-requires-in-Sqcadd : goal.add_values-requires-in-Sqcadd
unfolding values_of
add_values-requires-in-Sqcadd c = let p = few-same (ap values_of c.in-Sqcadd.is) c.requires in
    (p letter_m, p letter_d)

pub mul_values-requires-in-Sqrdcmlah : goal.mul_values-requires-in-Sqrdcmlah
unfolding values_of
mul_values-requires-in-Sqrdcmlah c = let p = few-same (ap values_of c.in-Sqrdcmlah.is) c.requires in
    (p letter_m, p letter_n, p letter_d)

pub sized_indexed-requires-in-SqrdcmlahIndexed : goal.sized_indexed-requires-in-SqrdcmlahIndexed
unfolding values_of
sized_indexed-requires-in-SqrdcmlahIndexed c = let p = few-same (ap values_of c.in-SqrdcmlahIndexed.is) c.requires in
    p

pub sized_element-requires : goal.sized_element-requires
unfolding values_of
sized_element-requires c = let p = few-same (ap values_of c.in-Sqrdmlah.is) c.requires in
    p

pub sized_element-requires-in-Sqrdmlsh : goal.sized_element-requires-in-Sqrdmlsh
unfolding values_of
sized_element-requires-in-Sqrdmlsh c = let p = few-same (ap values_of c.in-Sqrdmlsh.is) c.requires in
    p

pub grouped-requires : goal.grouped-requires
unfolding values_of
grouped-requires c = let p = few-same (ap values_of c.in-Sqdmulh.is) c.requires in
    p

pub returns-in-Cadd : goal.returns-in-Cadd
unfolding values_of
returns-in-Cadd c = rw c.in-Cadd.is c.add_values.ensures

pub returns-in-Cmla : goal.returns-in-Cmla
unfolding values_of
returns-in-Cmla c = rw c.in-Cmla.is c.mul_values.ensures

pub returns-in-CmlaIndexed : goal.returns-in-CmlaIndexed
unfolding values_of
returns-in-CmlaIndexed c = rw c.in-CmlaIndexed.is c.sized_indexed.ensures

pub returns-in-Sqcadd : goal.returns-in-Sqcadd
unfolding values_of
returns-in-Sqcadd c = rw c.in-Sqcadd.is c.add_values-in-Sqcadd.ensures

pub returns-in-Sqrdcmlah : goal.returns-in-Sqrdcmlah
unfolding values_of
returns-in-Sqrdcmlah c = rw c.in-Sqrdcmlah.is c.mul_values-in-Sqrdcmlah.ensures

pub returns-in-SqrdcmlahIndexed : goal.returns-in-SqrdcmlahIndexed
unfolding values_of
returns-in-SqrdcmlahIndexed c = rw c.in-SqrdcmlahIndexed.is c.sized_indexed-in-SqrdcmlahIndexed.ensures

pub returns-in-Sqrdmlah : goal.returns-in-Sqrdmlah
unfolding values_of
returns-in-Sqrdmlah c = rw c.in-Sqrdmlah.is c.sized_element.ensures

pub returns-in-Sqrdmlsh : goal.returns-in-Sqrdmlsh
unfolding values_of
returns-in-Sqrdmlsh c = rw c.in-Sqrdmlsh.is c.sized_element-in-Sqrdmlsh.ensures

pub returns-in-Sqdmulh : goal.returns-in-Sqdmulh
unfolding values_of
returns-in-Sqdmulh c = rw c.in-Sqdmulh.is c.grouped.ensures
