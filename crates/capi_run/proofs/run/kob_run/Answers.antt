use Rattle.capi_run.proofs.Ran.{ran-short, run-packed}
use Rattle.capi_run.proofs.run.kob_run.Goals as goal

pub packed_run-requires : goal.packed_run-requires
packed_run-requires c = let a = c.args in
    ran-short a.l a.file.now a.qc a.words.now c.run.ensures

pub returns : goal.returns
returns c = let a = c.args in
    run-packed a.l a.file.now a.qc a.words.now c.run.ensures c.packed_run.ensures
