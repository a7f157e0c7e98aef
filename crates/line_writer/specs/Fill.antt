-- What one byte of a template writes: the code's steps.
use Rattle.std.specs.Prelude.{ℕ, ◌<◌, List, [], ◌∷◌, get_or}
use Rattle.grammar.specs.Template.{Item, byte, var, text_of, count, bind}
use Rattle.isa.specs.declared.types.MulIndexed.{MulIndexed}
use Rattle.isa.specs.declared.types.ByElement.{ByElement}
use Rattle.isa.specs.declared.types.MulGroup.{MulGroup}
use Rattle.isa.specs.Register.{by_group}
use Rattle.isa.specs.Encode.{by_size, size_bits}
use Rattle.grammar.specs.Grammar.{alphabet, unused, slot_of, letter_a, letter_e, letter_h, letter_i, letter_j, letter_k, letter_l, letter_m, letter_p, letter_q, letter_t, no_values, indexed_values, element_values, group_values}

-- the values that an array holds
abbrev pub values_from : List ℕ → ℕ → ℕ
values_from vs y = get_or vs y 0

-- each below how many its slot has; each below 100
abbrev pub Low : (ℕ → ℕ) → Type 0
Low e = (y : ℕ) → e y < count (get_or alphabet y unused)

abbrev pub Few : (ℕ → ℕ) → Type 0
Few e = (y : ℕ) → e y < 100

-- by the size
abbrev pub indexed_by : MulIndexed → ℕ → ℕ
indexed_by a = by_size (indexed_values letter_l letter_j) (indexed_values letter_h letter_k) a.size a

abbrev pub element_by : ByElement → ℕ → ℕ
element_by a = by_size (element_values letter_q letter_h letter_i) (element_values letter_p letter_m letter_j) a.size a

-- a group by its letter and its number
abbrev pub group_with : ℕ → ℕ → MulGroup → ℕ → ℕ
group_with x number a = bind x number (bind letter_t (size_bits a.size) (bind letter_h a.zm no_values))

abbrev pub group_by : MulGroup → ℕ → ℕ
group_by a = group_values (by_group letter_a letter_e a.group) a

abbrev pub item_text : Item → (ℕ → ℕ) → List ℕ
item_text (byte b) e = b ∷ []
item_text (var x) e = text_of (get_or alphabet x unused) (e (slot_of x))
