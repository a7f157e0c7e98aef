-- By the family.
use Rattle.grammar.specs.Grammar.{pattern_of}
use Rattle.line_writer.proofs.pattern_of.Goals as goal

pub returns-in-Cadd : goal.returns-in-Cadd
unfolding pattern_of
returns-in-Cadd c = rw c.in-Cadd.is

pub returns-in-Cmla : goal.returns-in-Cmla
unfolding pattern_of
returns-in-Cmla c = rw c.in-Cmla.is

pub returns-in-CmlaIndexed : goal.returns-in-CmlaIndexed
unfolding pattern_of
returns-in-CmlaIndexed c = rw c.in-CmlaIndexed.is c.by_size.ensures.0

pub returns-in-Sqcadd : goal.returns-in-Sqcadd
unfolding pattern_of
returns-in-Sqcadd c = rw c.in-Sqcadd.is

pub returns-in-Sqrdcmlah : goal.returns-in-Sqrdcmlah
unfolding pattern_of
returns-in-Sqrdcmlah c = rw c.in-Sqrdcmlah.is

pub returns-in-SqrdcmlahIndexed : goal.returns-in-SqrdcmlahIndexed
unfolding pattern_of
returns-in-SqrdcmlahIndexed c = rw c.in-SqrdcmlahIndexed.is c.by_size-in-SqrdcmlahIndexed.ensures.0

pub returns-in-Sqrdmlah : goal.returns-in-Sqrdmlah
unfolding pattern_of
returns-in-Sqrdmlah c = rw c.in-Sqrdmlah.is c.element_pattern.ensures

pub returns-in-Sqrdmlsh : goal.returns-in-Sqrdmlsh
unfolding pattern_of
returns-in-Sqrdmlsh c = rw c.in-Sqrdmlsh.is c.element_pattern-in-Sqrdmlsh.ensures

pub returns-in-Sqdmulh : goal.returns-in-Sqdmulh
unfolding pattern_of
returns-in-Sqdmulh c = rw c.in-Sqdmulh.is c.by_group.ensures.0
