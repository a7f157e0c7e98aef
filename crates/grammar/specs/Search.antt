-- Reading by a list of templates: the first that has the text whole, or how far the furthest goes.
use Rattle.std.specs.Prelude.{ℕ, suc, max, Bool, true, false, List, [], ◌∷◌}
use Rattle.grammar.specs.Template.{Item, Variables}
use Rattle.grammar.specs.Follow.{unset, follow}

pub data Search : Type 0 where
  -- the template at this place has the text, with these values
  read : ℕ → (ℕ → ℕ) → Search
  -- no template has it; the longest beginning that some line has is so long
  unread : ℕ → Search

abbrev pub pick_search : Bool → Search → Search → Search
pick_search true a b = a
pick_search false a b = b

abbrev pub blank : ℕ → ℕ
blank y = unset

-- templates from the place i on, where those before go as far as k
unfoldable pub search : Variables → List (List Item) → List ℕ → ℕ → ℕ → Search
search vs [] s i k = unread k
search vs (t ∷ ts) s i k =
    let a = follow vs t blank s in
    pick_search a.whole (read i a.values) (search vs ts s (suc i) (max k a.reach))
