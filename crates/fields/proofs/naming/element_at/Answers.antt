use Rattle.fields.proofs.naming.element_at.Goals as goal

pub returns : goal.returns
returns c = rw (c.form_of.ensures, c.size_of.ensures)
