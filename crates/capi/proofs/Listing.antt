-- What `kob_list` answers, in terms of the whole listing. Assumes nothing.
use mathlib.Core.Path.{◌≡◌, sym, ap, ◌∙◌}
use Prim.Native.Nat.{ℕ, ◌≤◌, ◌<◌}
use mathlib.Core.Bool.{true}
use Rattle.std.proofs.Common.{Option}
use mathlib.Core.List.{List, ◌++◌}
use lib.ListN.{length, drop}
use borrow.Author.Tests.{lt-ltb, le-ltb}
use Rattle.listing.specs.Listing.{part_of, listing_of}
use Rattle.listing.specs.Call.{PartOutcome, outcome_of_part, room_for}
use Rattle.isa.specs.declared.types.ListedPart.{ListedPart}
use Rattle.listing.proofs.Pieces.{part-whole}
use Rattle.capi.specs.List.{ListAnswer, listed_packed, packed_listing, list_call}

pub list-packed : {r : Option ListedPart} {after : List ℕ} {n : ℕ} (bytes out : List ℕ) → record { answer = r; out = after } ≡ outcome_of_part 0 bytes true out → n ≡ listed_packed r
    → record { answer = n; out = after } ≡ list_call bytes out
unfolding list_call
list-packed {r} {after} {n} bytes out e f = rw f (ap packed_listing e)

-- with room: the length of the listing, which stands at the start of the buffer
pub list-text : (bytes out : List ℕ) → room_for bytes ≤ length out
    → list_call bytes out ≡ record { answer = length (listing_of bytes); out = listing_of bytes ++ drop (length (listing_of bytes)) out }
unfolding list_call outcome_of_part listed_packed
list-text bytes out h = rw (le-ltb (length out) (room_for bytes) h, part-whole bytes)

-- without: all ones, and the buffer as it was
pub list-no-room : (bytes out : List ℕ) → length out < room_for bytes → list_call bytes out ≡ record { answer = 0xFFFF_FFFF_FFFF_FFFF; out = out }
unfolding list_call outcome_of_part listed_packed
list-no-room bytes out h = rw (lt-ltb (length out) (room_for bytes) h)
