use Rattle.capi_stream.proofs.marks.numbers.Goals as goal

pub returns : goal.returns
returns c = cc
