-- What one byte of a template makes of the values and the place: the code's steps, as the definition of reading takes them.
use Rattle.std.specs.Prelude.{ℕ, ◌-◌, ◌≤◌, ◌<◌, max, ◌≡◌, Bool, true, false, List, [], ◌∷◌, ◌⊎◌, length, get_or, drop, Result, Ok, Err}
use Rattle.grammar.specs.Template.{Item, count}
use Rattle.grammar.specs.Follow.{Followed, unset, further, stuck, follow}
use Rattle.grammar.specs.Search.{blank}
use Rattle.grammar.specs.declared.types.NotLine.{NotLine}
use Rattle.grammar.specs.Grammar.{alphabet, unused, letter_count, pattern_count, variables, templates}

-- the values that an array holds
abbrev pub values_in : List ℕ → ℕ → ℕ
values_in vs y = get_or vs y unset

-- a value for each slot: unset, or one of the slot's
pub record Held (vs : List ℕ) : Type 0 where
  pub sized : length vs ≡ letter_count
  pub each : (y : ℕ) → (values_in vs y ≡ unset) ⊎ (values_in vs y < count (get_or alphabet y unused))

-- one step, with the values behind it
pub record Took : Type 0 where
  pub on : Bool
  pub at : ℕ
  pub values : List ℕ

abbrev pub taken : Result ℕ NotLine → List ℕ → Took
taken (Ok at) vs = record { on = true; at = at; values = vs }
taken (Err stop) vs = record { on = false; at = stop.reach; values = vs }

-- one item: on from the place that the step answers, or stuck there
pub record Steps (item : Item) (vs s : List ℕ) (at : ℕ) (r : Took) : Type 0 where
  pub forward : at ≤ r.at
  pub inside : r.at ≤ length s
  pub held : Held r.values
  pub on : r.on ≡ true → (t : List Item) → follow variables (item ∷ t) (values_in vs) (drop at s) ≡ further (r.at - at) (follow variables t (values_in r.values) (drop r.at s))
  pub off : r.on ≡ false → (t : List Item) → follow variables (item ∷ t) (values_in vs) (drop at s) ≡ stuck (r.at - at) (values_in r.values)

-- the values of a text that is the template's whole, or how far it follows it
abbrev pub Follows : Result (List ℕ) NotLine → Followed → Type 0
Follows (Ok vs) f = (f.whole ≡ true) × (values_in vs ≡ f.values)
Follows (Err stop) f = (f.whole ≡ false) × (stop.reach ≡ f.reach)

-- a pattern that was tried where others go so far: it has the text, or it has not and how far the furthest goes is known
abbrev pub TriedAs : Followed → ℕ → Result (List ℕ) NotLine → Type 0
TriedAs f far (Ok vs) = (f.whole ≡ true) × (values_in vs ≡ f.values)
TriedAs f far (Err stop) = (f.whole ≡ false) × (max far stop.reach ≡ max far f.reach)

abbrev pub Tried : ℕ → List ℕ → ℕ → Result (List ℕ) NotLine → Type 0
Tried pattern s far r = TriedAs (follow variables (get_or templates pattern []) blank s) far r

-- some pattern goes so far
pub record Reached (s : List ℕ) (reach : ℕ) : Type 0 where
  pub pattern : ℕ
  pub low : pattern < pattern_count
  pub is : (follow variables (get_or templates pattern []) blank s).reach ≡ reach
