-- How far a text follows a template, and the values that it gives the slots.
use Rattle.std.specs.Prelude.{ℕ, zero, suc, ◌+◌, ◌-◌, ◌*◌, ◌/◌, ◌≡◌, Bool, true, false, ◌&&◌, List, [], ◌∷◌, eqb, leb, ltb, length, get_or, drop}
use Rattle.grammar.specs.Template.{Item, byte, var, Choices, numbers, texts, Variables, text_of, pick_number, bind}

-- how many bytes two texts begin alike
unfoldable pub common_prefix : List ℕ → List ℕ → ℕ
common_prefix [] s = 0
common_prefix (a ∷ w) [] = 0
common_prefix (a ∷ w) (b ∷ s) = pick_number (eqb a b) (suc (common_prefix w s)) 0

abbrev pub is_digit : ℕ → Bool
is_digit a = leb 48 a && leb a 57

-- ---- numbers: the longest that a text begins with; else one whose first digit it begins with; else the first

-- the place of a number, and of the first number with so many tens; the length where there is none
unfoldable pub place_of : ℕ → List ℕ → ℕ
place_of n [] = 0
place_of n (x ∷ ns) = pick_number (eqb x n) 0 (suc (place_of n ns))

unfoldable pub place_of_tens : ℕ → List ℕ → ℕ
place_of_tens f [] = 0
place_of_tens f (x ∷ ns) = pick_number (eqb (x / 10) f) 0 (suc (place_of_tens f ns))

abbrev pub found : ℕ → List ℕ → Bool
found p ns = ltb p (length ns)

unfoldable pub tens : List ℕ → ℕ → ℕ
tens ns f = pick_number (leb 1 f && found (place_of_tens f ns) ns) (place_of_tens f ns) 0

unfoldable pub one_digit : List ℕ → ℕ → ℕ
one_digit ns f = pick_number (found (place_of f ns) ns) (place_of f ns) (tens ns f)

unfoldable pub two_digits : List ℕ → ℕ → List ℕ → ℕ
two_digits ns f [] = one_digit ns f
two_digits ns f (b ∷ s) =
    pick_number (is_digit b && (leb 1 f && found (place_of (f * 10 + (b - 48)) ns) ns)) (place_of (f * 10 + (b - 48)) ns) (one_digit ns f)

unfoldable pub guess_number : List ℕ → List ℕ → ℕ
guess_number ns [] = 0
guess_number ns (a ∷ s) = pick_number (is_digit a) (two_digits ns (a - 48) s) 0

-- ---- texts: the one that begins with the text's first byte; else the first

unfoldable pub starting_with : ℕ → List (List ℕ) → ℕ
starting_with a [] = 0
starting_with a (w ∷ ws) = pick_number (eqb (get_or w 0 0) a) 0 (suc (starting_with a ws))

unfoldable pub guess_text : List (List ℕ) → List ℕ → ℕ
guess_text ws [] = 0
guess_text ws (a ∷ s) = pick_number (ltb (starting_with a ws) (length ws)) (starting_with a ws) 0

-- the value whose text goes furthest along with a text
abbrev pub guess : Choices → List ℕ → ℕ
guess (numbers ns) s = guess_number ns s
guess (texts ws) s = guess_text ws s

-- ---- reading

-- a slot that has no value yet has this one
abbrev pub unset : ℕ
unset = 255

-- whether the text is the template's whole, how far it follows it, and the values
pub record Followed : Type 0 where
  pub whole : Bool
  pub reach : ℕ
  pub values : ℕ → ℕ

abbrev pub pick_followed : Bool → Followed → Followed → Followed
pick_followed true a b = a
pick_followed false a b = b

abbrev pub further : ℕ → Followed → Followed
further n a = record { whole = a.whole; reach = n + a.reach; values = a.values }

abbrev pub stuck : ℕ → (ℕ → ℕ) → Followed
stuck n r = record { whole = false; reach = n; values = r }

-- the value of a variable: the one that its slot has, or what the text says
abbrev pub value_of : Choices → ℕ → List ℕ → ℕ
value_of k v s = pick_number (eqb v unset) (guess k s) v

unfoldable pub follow : Variables → List Item → (ℕ → ℕ) → List ℕ → Followed
follow vs [] r [] = record { whole = true; reach = 0; values = r }
follow vs [] r (a ∷ s) = stuck 0 r
follow vs (byte b ∷ t) r [] = stuck 0 r
follow vs (byte b ∷ t) r (a ∷ s) = pick_followed (eqb a b) (further 1 (follow vs t r s)) (stuck 0 r)
follow vs (var x ∷ t) r s =
    let v = value_of (vs.choices x) (r (vs.slot x)) s in
    let w = text_of (vs.choices x) v in
    pick_followed (eqb (common_prefix w s) (length w))
    (further (length w) (follow vs t (bind (vs.slot x) v r) (drop (length w) s)))
    (stuck (common_prefix w s) (bind (vs.slot x) v r))

-- bytes up to a place, and this one there: whatever the values, the line has it
abbrev pub Fixed : List Item → ℕ → ℕ → Type 0
Fixed [] q b = ⊥
Fixed (var x ∷ t) q b = ⊥
Fixed (byte a ∷ t) zero b = a ≡ b
Fixed (byte a ∷ t) (suc q) b = Fixed t q b
