-- What the two calls answer, and what they leave of the state. Request A10.
use Rattle.std.specs.Prelude.{ℕ, ◌+◌, ◌*◌, ◌/◌, ◌%◌, ◌≤◌, ◌≡◌, List, length, take, drop}
use Rattle.trace.specs.Number.{end_number, told_number, told_kind, told_place}
use Rattle.trace.specs.Stream.{Status, over}
use Rattle.trace.specs.Feed.{Fed, feed_of, end_of}
use Rattle.stream.specs.Kept.{Kept}
use Rattle.stream.specs.declared.state.Marks.{Marks}
use Rattle.capi_stream.specs.Marks.{marks_bytes}

-- ---- the bytes of a state

-- the image, the contents and the marks that are kept of a stream. Zeros are the start (`zeros-start`), and a stream leaves one state (`bytes_one`)
pub record KeptBytes (state : List ℕ) (s : Status) : Type 0 where
  pub size : length state ≡ 20544
  pub marks : Marks
  pub stored : drop 20480 state ≡ marks_bytes marks
  pub kept : Kept (take 8192 state) (take 12288 (drop 8192 state)) marks s

-- ---- the answer

-- the number from bit 0 on, the kind from bit 8 on, the place from bit 16 on, the bytes taken from bit 32 on
abbrev pub parts_packed : ℕ → ℕ → ℕ → ℕ → ℕ
parts_packed number kind place taken = number + kind * 0x100 + place * 0x1_0000 + taken * 0x1_0000_0000

unfoldable pub fed_packed : Fed → ℕ
fed_packed f = parts_packed (told_number f.told) (told_kind f.told) (told_place f.told) f.taken

-- the number in bits 0 to 7, the kind in bits 8 to 15, the place in bits 16 to 31, the bytes taken in bits 32 to 63
pub record FedBits (f : Fed) (n : ℕ) : Type 0 where
  pub number : n % 0x100 ≡ told_number f.told
  pub kind : n / 0x100 % 0x100 ≡ told_kind f.told
  pub place : n / 0x1_0000 % 0x1_0000 ≡ told_place f.told
  pub taken : n / 0x1_0000_0000 ≡ f.taken
  pub few : f.taken ≤ 45068

-- ---- the calls

-- a state of another length is refused, and left
abbrev pub Refuses : List ℕ → ℕ → List ℕ → Type 0
Refuses state r left = (length state ≡ 20544 → ⊥) → (r ≡ 32) × (left ≡ state)

-- with some bytes: of any state no more are taken than are lent
pub record FeedCall (state bytes : List ℕ) (r : ℕ) (left : List ℕ) : Type 0 where
  pub refused : Refuses state r left
  pub most : r / 0x1_0000_0000 ≤ length bytes
  pub answers : (s : Status) → KeptBytes state s → (r ≡ fed_packed (feed_of s bytes)) × KeptBytes left (feed_of s bytes).status

-- at the end
pub record EndCall (state : List ℕ) (r : ℕ) (left : List ℕ) : Type 0 where
  pub refused : Refuses state r left
  pub answers : (s : Status) → KeptBytes state s → (r ≡ end_number (end_of s)) × KeptBytes left (over (end_of s))
