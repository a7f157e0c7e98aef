use Rattle.capi_replay.proofs.Judged.{judged-small, judged-packed}
use Rattle.capi_replay.proofs.case.kob_replay.Goals as goal

pub packed-requires : goal.packed-requires
packed-requires c = let a = c.args in
    judged-small a.trace.now a.n c.judge.result c.judge.ensures

pub returns : goal.returns
returns c = let a = c.args in
    judged-packed a.trace.now a.n c.judge.result c.packed.result c.judge.ensures c.packed.ensures
