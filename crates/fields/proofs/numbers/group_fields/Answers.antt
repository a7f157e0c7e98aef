use Rattle.fields.proofs.numbers.group_fields.Goals as goal

pub returns : goal.returns
returns c = rw (c.size_bits.ensures.0, c.by_group.ensures.0)
