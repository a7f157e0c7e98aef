use Rattle.listing.proofs.put_family.Goals as goal

pub returns-in-Cadd : goal.returns-in-Cadd
returns-in-Cadd c = rw c.in-Cadd.is c.put_text.ensures

pub returns-in-Sqcadd : goal.returns-in-Sqcadd
returns-in-Sqcadd c = rw c.in-Sqcadd.is c.put_text-in-Sqcadd.ensures

pub returns-in-Cmla : goal.returns-in-Cmla
returns-in-Cmla c = rw c.in-Cmla.is c.put_text-in-Cmla.ensures

pub returns-in-CmlaIndexed : goal.returns-in-CmlaIndexed
returns-in-CmlaIndexed c = rw c.in-CmlaIndexed.is c.put_text-in-CmlaIndexed.ensures

pub returns-in-Sqrdcmlah : goal.returns-in-Sqrdcmlah
returns-in-Sqrdcmlah c = rw c.in-Sqrdcmlah.is c.put_text-in-Sqrdcmlah.ensures

pub returns-in-SqrdcmlahIndexed : goal.returns-in-SqrdcmlahIndexed
returns-in-SqrdcmlahIndexed c = rw c.in-SqrdcmlahIndexed.is c.put_text-in-SqrdcmlahIndexed.ensures

pub returns-in-Sqrdmlah : goal.returns-in-Sqrdmlah
returns-in-Sqrdmlah c = rw c.in-Sqrdmlah.is c.put_text-in-Sqrdmlah.ensures

pub returns-in-Sqrdmlsh : goal.returns-in-Sqrdmlsh
returns-in-Sqrdmlsh c = rw c.in-Sqrdmlsh.is c.put_text-in-Sqrdmlsh.ensures

pub returns-in-Sqdmulh : goal.returns-in-Sqdmulh
returns-in-Sqdmulh c = rw c.in-Sqdmulh.is c.put_text-in-Sqdmulh.ensures
