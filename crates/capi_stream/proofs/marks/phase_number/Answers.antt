use Rattle.capi_stream.proofs.marks.phase_number.Goals as goal

pub returns-in-Ended : goal.returns-in-Ended
returns-in-Ended c = rw (c.in-Ended.is, c.end_number.ensures)
