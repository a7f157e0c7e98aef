use mathlib.Core.Path.{sym, ap, ◌∙◌}
use Rattle.isa.specs.Encode.{encode_of, write_checks}
use Rattle.codec.proofs.encoder.encode.Goals as goal

pub returns-in-Cadd : goal.returns-in-Cadd
unfolding encode_of write_checks
returns-in-Cadd c = c.encode_add.ensures ∙ sym (ap encode_of c.in-Cadd.is)

pub returns-in-Sqcadd : goal.returns-in-Sqcadd
unfolding encode_of write_checks
returns-in-Sqcadd c = c.encode_add-in-Sqcadd.ensures ∙ sym (ap encode_of c.in-Sqcadd.is)

pub returns-in-Cmla : goal.returns-in-Cmla
unfolding encode_of write_checks
returns-in-Cmla c = c.encode_mul.ensures ∙ sym (ap encode_of c.in-Cmla.is)

pub returns-in-Sqrdcmlah : goal.returns-in-Sqrdcmlah
unfolding encode_of write_checks
returns-in-Sqrdcmlah c = c.encode_mul-in-Sqrdcmlah.ensures ∙ sym (ap encode_of c.in-Sqrdcmlah.is)

pub returns-in-CmlaIndexed : goal.returns-in-CmlaIndexed
unfolding encode_of write_checks
returns-in-CmlaIndexed c = c.encode_indexed.ensures ∙ sym (ap encode_of c.in-CmlaIndexed.is)

pub returns-in-SqrdcmlahIndexed : goal.returns-in-SqrdcmlahIndexed
unfolding encode_of write_checks
returns-in-SqrdcmlahIndexed c = c.encode_indexed-in-SqrdcmlahIndexed.ensures ∙ sym (ap encode_of c.in-SqrdcmlahIndexed.is)

pub returns-in-Sqrdmlah : goal.returns-in-Sqrdmlah
unfolding encode_of write_checks
returns-in-Sqrdmlah c = c.encode_element.ensures ∙ sym (ap encode_of c.in-Sqrdmlah.is)

pub returns-in-Sqrdmlsh : goal.returns-in-Sqrdmlsh
unfolding encode_of write_checks
returns-in-Sqrdmlsh c = c.encode_element-in-Sqrdmlsh.ensures ∙ sym (ap encode_of c.in-Sqrdmlsh.is)

pub returns-in-Sqdmulh : goal.returns-in-Sqdmulh
unfolding encode_of write_checks
returns-in-Sqdmulh c = c.encode_group.ensures ∙ sym (ap encode_of c.in-Sqdmulh.is)
