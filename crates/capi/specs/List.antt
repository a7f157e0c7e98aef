-- What `kob_list` answers, and what it leaves in the lent buffer.
use Rattle.std.specs.Prelude.{ℕ, true, List, Option, Some, None}
use Rattle.listing.specs.Call.{PartOutcome, outcome_of_part}
use Rattle.isa.specs.declared.types.ListedPart.{ListedPart}

-- the length of the text, or all ones where there was no room
unfoldable pub listed_packed : Option ListedPart → ℕ
listed_packed (Some p) = p.length
listed_packed None = 0xFFFF_FFFF_FFFF_FFFF

pub record ListAnswer : Type 0 where
  pub answer : ℕ
  pub out : List ℕ

abbrev pub packed_listing : PartOutcome → ListAnswer
packed_listing o = record { answer = listed_packed o.answer; out = o.out }

-- the whole input in one piece, with no word listed before
unfoldable pub list_call : List ℕ → List ℕ → ListAnswer
list_call bytes out = packed_listing (outcome_of_part 0 bytes true out)
