-- The table as a whole: each row is sound and no word matches two, both by a test that is computed over the whole table.
-- `row_read`: a word that matches a row decodes to what its entry reads. `none-outside`: one that has the fixed bits of no row is outside.
-- Assumes nothing.
use Prim.Native.Nat.{ℕ, zero, suc}
use mathlib.Core.Path.{◌≡◌, refl, ap, ◌∙◌}
use mathlib.Core.List.{List, [], ◌∷◌, ◌++◌}
use mathlib.Core.Bool.{Bool, true, false, ◌&&◌}
use borrow.Author.Tests.{eq-eqb, ne_eqb, eqb-true}
use Rattle.isa.specs.declared.types.Decoded.{Decoded}
use Rattle.isa.specs.Field.{Row, matches}
use Rattle.isa.specs.Decode.{Entry, table, pick, first, decode_of}
use Rattle.isa.proofs.Fields.{sound, Of, Fixed, and_left, and_right, matches-fixed}
use Rattle.isa.proofs.Apart.{apart, apart-never}

abbrev apart_from : Row → List Entry → Bool
apart_from r [] = true
apart_from r (e ∷ es) = apart r e.row && apart_from r es

-- each row is sound, and apart from those after it
abbrev pub well_made : List Entry → Bool
well_made [] = true
well_made (e ∷ es) = sound e.row && (apart_from e.row es && well_made es)

pub table-well-made : well_made table ≡ true
table-well-made = refl

-- the word matches the row at a place
abbrev pub OfAt : ℕ → List Entry → ℕ → Type 0
OfAt n [] w = ⊥
OfAt zero (e ∷ es) w = Of e.row w
OfAt (suc n) (e ∷ es) w = OfAt n es w

abbrev pub read_at : ℕ → List Entry → ℕ → Decoded
read_at n [] w = Decoded.Outside
read_at zero (e ∷ es) w = e.read w
read_at (suc n) (e ∷ es) w = read_at n es w

module _ (w : ℕ) where
  -- a word that matches a later row does not match one that is apart from it
  not-both : (n : ℕ) (r : Row) (es : List Entry) → sound r ≡ true → well_made es ≡ true → apart_from r es ≡ true → OfAt n es w → Of r w → ⊥
  not-both n r [] s m a h e = absurd h
  not-both zero r (x ∷ es) s m a h e = apart-never r x.row s (and_left _ _ m) w e h (and_left _ _ a)
  not-both (suc n) r (x ∷ es) s m a h e =
      not-both n r es s (and_right (apart_from x.row es) _ (and_right (sound x.row) _ m)) (and_right (apart r x.row) _ a) h e

  hit : (n : ℕ) (es : List Entry) → well_made es ≡ true → OfAt n es w → first es w ≡ read_at n es w
  hit n [] m h = absurd h
  hit zero (x ∷ es) m h = ap (λ (b : Bool). pick b (x.read w) (first es w)) (eq-eqb w _ h)
  hit (suc n) (x ∷ es) m h =
      let rest = and_right (sound x.row) _ m in
      ap (λ (b : Bool). pick b (x.read w) (first es w))
      (ne_eqb w _ (not-both n x.row es (and_left _ _ m) (and_right (apart_from x.row es) _ rest) (and_left _ _ rest) h))
      ∙ hit n es (and_right (apart_from x.row es) _ rest) h

  -- by its place in the table
  pub row_read : (n : ℕ) → OfAt n table w → decode_of w ≡ read_at n table w
  unfolding decode_of
  row_read n h = hit n table table-well-made h

-- a proof for the first and one for the rest, so that a long row of them stays flat
infixr 5 ◌⨾◌
pub ◌⨾◌ : {A B : Type 0} → A → B → A × B
◌⨾◌ a b = (a, b)

-- no row matches
abbrev pub NoRow : List Entry → ℕ → Type 0
NoRow [] w = Unit {0}
NoRow (e ∷ es) w = (matches e.row w ≡ false) × NoRow es w

pub no-row-outside : (es : List Entry) (w : ℕ) → NoRow es w → first es w ≡ Decoded.Outside
no-row-outside [] w h = refl
no-row-outside (e ∷ es) w h = ap (λ (b : Bool). pick b (e.read w) (first es w)) h.0 ∙ no-row-outside es w h.1

-- a claim of each entry whose row the word matches
abbrev pub Each : (Entry → Type 0) → ℕ → List Entry → Type 0
Each P w [] = Unit {0}
Each P w (e ∷ es) = (Of e.row w → P e) × Each P w es

-- what follows at each entry that the word can match, and where it matches none, follows
pub by_row : (es : List Entry) (w : ℕ) (d : Decoded) (G : Type 0) → Each (λ e. e.read w ≡ d → G) w es → (NoRow es w → Decoded.Outside ≡ d → G) → first es w ≡ d → G
by_row [] w d G each none h = none tt h
by_row (e ∷ es) w d G each none h = by (matches e.row w) refl h (λ m. by_row es w d G each.1 (λ n. none (m, n)))
  where
    by : (b : Bool) → matches e.row w ≡ b → pick b (e.read w) (first es w) ≡ d → (matches e.row w ≡ false → first es w ≡ d → G) → G
    by true m k next = each.0 (eqb-true w _ m) k
    by false m k next = next m k

-- the fixed bits of a word are those of no row
abbrev pub NoneFixed : List Entry → ℕ → Type 0
NoneFixed [] w = Unit {0}
NoneFixed (e ∷ es) w = (Fixed e.row w → ⊥) × NoneFixed es w

pub none-join : (es fs : List Entry) (w : ℕ) → NoneFixed es w → NoneFixed fs w → NoneFixed (es ++ fs) w
none-join [] fs w a b = b
none-join (e ∷ es) fs w a b = (a.0, none-join es fs w a.1 b)

none_row : (es : List Entry) (w : ℕ) → well_made es ≡ true → NoneFixed es w → NoRow es w
none_row [] w m n = tt
none_row (e ∷ es) w m n = (
  ne_eqb w _ (λ o. n.0 (matches-fixed e.row (and_left _ _ m) w o)),
  none_row es w (and_right (apart_from e.row es) _ (and_right (sound e.row) _ m)) n.1,
)

pub none-outside : (w : ℕ) → NoneFixed table w → decode_of w ≡ Decoded.Outside
unfolding decode_of
none-outside w n = no-row-outside table w (none_row table w table-well-made n)
