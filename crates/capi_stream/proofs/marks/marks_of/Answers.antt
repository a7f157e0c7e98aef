use Rattle.capi_stream.proofs.marks.marks_of.Goals as goal

pub returns : goal.returns
returns c = cc
