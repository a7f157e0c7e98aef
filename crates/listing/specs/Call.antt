-- What the call that lists one piece answers, and what it leaves in the lent buffer.
use Rattle.std.specs.Prelude.{ℕ, ◌+◌, ◌*◌, ◌/◌, ◌<◌, ◌≤◌, ◌≡◌, Option, Some, None, Bool, true, false, List, [], ◌∷◌, ◌++◌, ltb, length, take, drop}
use Rattle.listing.specs.Listing.{PieceText, part_of}
use Rattle.isa.specs.Number.{listed_number, listed_part}
use Rattle.isa.specs.declared.types.ListedPart.{ListedPart}

-- out with a text from the place `at` on
unfoldable pub with_text : List ℕ → ℕ → List ℕ → List ℕ
with_text out at text = take at out ++ text ++ drop (at + length text) out

-- a function that was lent `before` put the text at the place `at`, left `after`, and answered the place past it
pub record Wrote (before : List ℕ) (at : ℕ) (text : List ℕ) (next : ℕ) (after : List ℕ) : Type 0 where
  pub past : next ≡ at + length text
  pub held : after ≡ with_text before at text

-- the room that a piece is asked for: 21 bytes for each line, and 32 for the last lines
abbrev pub room_for : List ℕ → ℕ
room_for bytes = 21 * (length bytes / 4) + 32

-- an answer with what the buffer then holds
pub record PartOutcome : Type 0 where
  pub answer : Option ListedPart
  pub out : List ℕ

abbrev pub pick_part : Bool → PartOutcome → PartOutcome → PartOutcome
pick_part true a b = a
pick_part false a b = b

-- the text from the buffer's start, and behind it what stood there
abbrev pub part_answered : PieceText → ListedPart
part_answered a = record { length = length a.text; done = a.done; ended = a.ended }

abbrev pub text_left : PieceText → List ℕ → List ℕ
text_left a out = a.text ++ drop (length a.text) out

abbrev pub text_outcome : PieceText → List ℕ → PartOutcome
text_outcome a out = record { answer = Some (part_answered a); out = text_left a out }

unfoldable pub outcome_of_part : ℕ → List ℕ → Bool → List ℕ → PartOutcome
outcome_of_part done bytes last out =
    pick_part (ltb (length out) (room_for bytes))
    (record { answer = None; out = out })
    (text_outcome (part_of done bytes last) out)

-- when each number is given, with what is answered beside it and what the buffer then holds; that the definition answers exactly so is `list-exact` (proofs/Parts.antt)
pub data ListReturns (done : ℕ) (bytes : List ℕ) (last : Bool) (out : List ℕ) : ℕ → List ListedPart → List ℕ → Type 0 where
  listed : room_for bytes ≤ length out → ListReturns done bytes last out 0 (part_answered (part_of done bytes last) ∷ []) (text_left (part_of done bytes last) out)
  no_room : length out < room_for bytes → ListReturns done bytes last out 13 [] out

abbrev pub ListsAs : ℕ → List ℕ → Bool → List ℕ → ℕ → List ListedPart → List ℕ → Type 0
ListsAs done bytes last out n part left =
    (listed_number (outcome_of_part done bytes last out).answer ≡ n)
    × ((listed_part (outcome_of_part done bytes last out).answer ≡ part) × ((outcome_of_part done bytes last out).out ≡ left))
