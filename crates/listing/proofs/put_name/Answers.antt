use Rattle.listing.specs.Listing.{name_of}
use Rattle.listing.proofs.put_name.Goals as goal

pub returns-in-Operation : goal.returns-in-Operation
unfolding name_of
returns-in-Operation c = rw c.in-Operation.is c.put_family.ensures

pub returns-in-Reserved : goal.returns-in-Reserved
unfolding name_of
returns-in-Reserved c = rw c.in-Reserved.is c.put_text.ensures

pub returns-in-Outside : goal.returns-in-Outside
unfolding name_of
returns-in-Outside c = rw c.in-Outside.is c.put_text-in-Outside.ensures
