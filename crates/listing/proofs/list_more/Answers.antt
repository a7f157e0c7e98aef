use Rattle.listing.proofs.Parts.{more-outcome}
use Rattle.listing.proofs.list_more.Goals as goal

pub returns : goal.returns
returns c = more-outcome c.args.done c.args.bytes.now c.put_lines.ensures
