-- A template: the bytes of a line, with variables between them. Variables of one slot have one value, wherever they stand.
use Rattle.std.specs.Prelude.{ℕ, ◌+◌, ◌/◌, ◌%◌, ◌<◌, Bool, true, false, List, [], ◌∷◌, ◌++◌, eqb, ltb, length, get_or}

pub data Item : Type 0 where
  byte : ℕ → Item
  var : ℕ → Item

-- what a variable may stand for: one of some numbers below 100, in decimal, or one of some texts. Its value is the place among them
pub data Choices : Type 0 where
  numbers : List ℕ → Choices
  texts : List (List ℕ) → Choices

-- of each variable: its slot, and what it may stand for
pub record Variables : Type 0 where
  pub slot : ℕ → ℕ
  pub choices : ℕ → Choices

abbrev pub pick_text : Bool → List ℕ → List ℕ → List ℕ
pick_text true a b = a
pick_text false a b = b

-- a number below 100 in decimal, with no leading zero
unfoldable pub decimal : ℕ → List ℕ
decimal n = pick_text (ltb n 10) ((48 + n) ∷ []) ((48 + n / 10) ∷ (48 + n % 10) ∷ [])

-- the text of a value
abbrev pub text_of : Choices → ℕ → List ℕ
text_of (numbers ns) v = decimal (get_or ns v 0)
text_of (texts ws) v = get_or ws v []

-- how many values there are
abbrev pub count : Choices → ℕ
count (numbers ns) = length ns
count (texts ws) = length ws

abbrev pub pick_number : Bool → ℕ → ℕ → ℕ
pick_number true a b = a
pick_number false a b = b

-- values, and one slot with another
abbrev pub bind : ℕ → ℕ → (ℕ → ℕ) → ℕ → ℕ
bind x v r y = pick_number (eqb y x) v (r y)

-- a template with values for its slots
abbrev pub fill : Variables → List Item → (ℕ → ℕ) → List ℕ
fill vs [] e = []
fill vs (byte b ∷ t) e = b ∷ fill vs t e
fill vs (var x ∷ t) e = text_of (vs.choices x) (e (vs.slot x)) ++ fill vs t e

-- each variable of a template has a value that it may have
abbrev pub Filled : Variables → List Item → (ℕ → ℕ) → Type 0
Filled vs [] e = Unit {0}
Filled vs (byte b ∷ t) e = Filled vs t e
Filled vs (var x ∷ t) e = (e (vs.slot x) < count (vs.choices x)) × Filled vs t e
