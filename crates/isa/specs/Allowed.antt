-- Which words are operations, and which are document 01's 'reserved' and 'outside the set', said by the rows alone.
use Rattle.std.specs.Prelude.{ℕ, ◌≡◌, List, [], ◌∷◌, ◌++◌, true, ◌⊎◌}
use Rattle.isa.specs.Field.{Row, matches, field_value}
use Rattle.isa.specs.Table.{size, cadd, sqcadd, cmla, sqrdcmlah, cmla_h, cmla_s, sqrdcmlah_h, sqrdcmlah_s, sqrdmlah_vector, sqrdmlah_scalar, sqrdmlsh_vector, sqrdmlsh_scalar, sqdmulh_two, sqdmulh_four}

-- the word matches some row of a list
abbrev pub MatchesSome : List Row → ℕ → Type 0
MatchesSome [] w = ⊥
MatchesSome (r ∷ rs) w = (matches r w ≡ true) ⊎ MatchesSome rs w

-- the rows of document 01's SVE2 families, which have every word that matches
abbrev pub sve_rows : List Row
sve_rows = cadd ∷ sqcadd ∷ cmla ∷ sqrdcmlah ∷ cmla_h ∷ cmla_s ∷ sqrdcmlah_h ∷ sqrdcmlah_s ∷ []

-- the rows of the Advanced SIMD families, in which only H and S exist
abbrev pub element_rows : List Row
element_rows = sqrdmlah_vector ∷ sqrdmlah_scalar ∷ sqrdmlsh_vector ∷ sqrdmlsh_scalar ∷ []

-- the rows of request A3, which have every word that matches
abbrev pub group_rows : List Row
group_rows = sqdmulh_two ∷ sqdmulh_four ∷ []

-- an operation of our families
abbrev pub AllowedWord : ℕ → Type 0
AllowedWord w = MatchesSome (sve_rows ++ group_rows) w ⊎ (MatchesSome element_rows w × ((field_value size w ≡ 1) ⊎ (field_value size w ≡ 2)))

-- 'reserved', the pages' UNDEFINED: an Advanced SIMD row with size 00 or 11
abbrev pub ReservedWord : ℕ → Type 0
ReservedWord w = MatchesSome element_rows w × ((field_value size w ≡ 0) ⊎ (field_value size w ≡ 3))

-- 'outside the set': of none of the rows
abbrev pub OutsideWord : ℕ → Type 0
OutsideWord w = MatchesSome (sve_rows ++ element_rows ++ group_rows) w → ⊥
