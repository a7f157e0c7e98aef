use Rattle.capi.proofs.Listing.{list-packed}
use Rattle.capi.proofs.list.kob_list.Goals as goal

pub returns : goal.returns
returns c = list-packed c.args.bytes.now c.args.out.now c.list_part.ensures c.packed_listing.ensures
