use Rattle.fields.specs.Fields.{fields_of}
use Rattle.fields.proofs.numbers.fields_of.Goals as goal

pub returns-in-Cadd : goal.returns-in-Cadd
unfolding fields_of
returns-in-Cadd c = rw c.in-Cadd.is c.add_fields.ensures

pub returns-in-Sqcadd : goal.returns-in-Sqcadd
unfolding fields_of
returns-in-Sqcadd c = rw c.in-Sqcadd.is c.add_fields-in-Sqcadd.ensures

pub returns-in-Cmla : goal.returns-in-Cmla
unfolding fields_of
returns-in-Cmla c = rw c.in-Cmla.is c.mul_fields.ensures

pub returns-in-CmlaIndexed : goal.returns-in-CmlaIndexed
unfolding fields_of
returns-in-CmlaIndexed c = rw c.in-CmlaIndexed.is c.indexed_fields.ensures

pub returns-in-Sqrdcmlah : goal.returns-in-Sqrdcmlah
unfolding fields_of
returns-in-Sqrdcmlah c = rw c.in-Sqrdcmlah.is c.mul_fields-in-Sqrdcmlah.ensures

pub returns-in-SqrdcmlahIndexed : goal.returns-in-SqrdcmlahIndexed
unfolding fields_of
returns-in-SqrdcmlahIndexed c = rw c.in-SqrdcmlahIndexed.is c.indexed_fields-in-SqrdcmlahIndexed.ensures

pub returns-in-Sqrdmlah : goal.returns-in-Sqrdmlah
unfolding fields_of
returns-in-Sqrdmlah c = rw c.in-Sqrdmlah.is c.element_fields.ensures

pub returns-in-Sqrdmlsh : goal.returns-in-Sqrdmlsh
unfolding fields_of
returns-in-Sqrdmlsh c = rw c.in-Sqrdmlsh.is c.element_fields-in-Sqrdmlsh.ensures

pub returns-in-Sqdmulh : goal.returns-in-Sqdmulh
unfolding fields_of
returns-in-Sqdmulh c = rw c.in-Sqdmulh.is c.group_fields.ensures
