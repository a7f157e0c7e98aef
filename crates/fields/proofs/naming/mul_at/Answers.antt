use Rattle.fields.proofs.naming.mul_at.Goals as goal

pub returns : goal.returns
returns c = rw (c.size_of.ensures, c.rotation_of.ensures)
