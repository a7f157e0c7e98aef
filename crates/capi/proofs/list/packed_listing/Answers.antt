use Rattle.capi.specs.List.{listed_packed}
use Rattle.capi.proofs.list.packed_listing.Goals as goal

pub returns-in-Some : goal.returns-in-Some
unfolding listed_packed
returns-in-Some c = rw c.in-Some.is

pub returns-in-None : goal.returns-in-None
unfolding listed_packed
returns-in-None c = rw c.in-None.is
