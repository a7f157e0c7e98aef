use Rattle.fields.proofs.naming.group_at.Goals as goal

pub returns : goal.returns
returns c = rw (c.size_of.ensures, c.group_with.ensures)
