use Rattle.listing.proofs.Tests.{room_small, room-alike}
use Rattle.listing.proofs.has_room.Goals as goal

pub returns-then-room-lt32 : goal.returns-then-room-lt32
returns-then-room-lt32 c = room_small c.args.room c.args.words c.if-room-lt32.true

pub returns : goal.returns
returns c = room-alike c.args.room c.args.words c.if-room-lt32.false
