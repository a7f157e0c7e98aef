use Rattle.text.proofs.Pushed.{pushed}
use Rattle.text.proofs.Text.push_bytes.Goals as goal

pub returns : goal.returns
returns g c = rw (← c.self.view_is) (pushed g.row.N c.self.inside.size c.min-n.result _ c.self.inside.bytes c.args.bytes.now c.copy_from_slice.new.self
    c.self.invariant c.self.told c.min-n.ensures c.copy_from_slice.ensures.after)
