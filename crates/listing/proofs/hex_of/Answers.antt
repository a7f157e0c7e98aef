use Rattle.listing.specs.Listing.{hex_of}
use Rattle.listing.proofs.hex_of.Goals as goal

pub returns : goal.returns
unfolding hex_of
returns c = cc
