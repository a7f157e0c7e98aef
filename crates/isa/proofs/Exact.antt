-- Which words decode to what, exactly: `operation-exact`, `reserved-exact`, `outside-exact`. Assumes nothing.
use Prim.Native.Nat.{ℕ, zero, suc, ◌<◌}
use mathlib.Core.Path.{◌≡◌, refl, sym, ap, ◌∙◌}
use mathlib.Core.List.{List, [], ◌∷◌, ◌++◌, map}
use mathlib.Core.Bool.{true}
use mathlib.Core.Logic.{◌⊎◌, inl, inr, ⊎_elim}
use native.Mathlib.Omega.{arith}
use borrow.Author.Tests.{eq-eqb, eqb-true, ne_eqb}
use Rattle.isa.specs.declared.types.Form.{Form}
use Rattle.isa.specs.declared.types.ByElement.{ByElement}
use Rattle.isa.specs.declared.types.Op.{Op}
use Rattle.isa.specs.declared.types.Decoded.{Decoded}
use Rattle.isa.specs.Field.{Row, matches, row_word, field_values, field_value}
use Rattle.isa.specs.Table.{size, Q}
use Rattle.isa.specs.Decode.{Entry, table, decode_of, element_of, vector_of, size_of}
use Rattle.isa.specs.Allowed.{MatchesSome, sve_rows, element_rows, group_rows, AllowedWord, ReservedWord, OutsideWord}
use Rattle.isa.proofs.Fields.{Of}
use Rattle.isa.proofs.Table.{◌⨾◌, NoRow, row_read, by_row, no-row-outside}

-- ---- answers that differ

reserved-outside : Decoded.Reserved ≡ Decoded.Outside → ⊥
reserved-outside e = let z : ◌≡◌ {A = ℕ} 0 1 = cc in omega arith

operation-outside : (a : Op) → Decoded.Operation a ≡ Decoded.Outside → ⊥
operation-outside a e = let z : ◌≡◌ {A = ℕ} 0 1 = cc in omega arith

operation-reserved : (a : Op) → Decoded.Operation a ≡ Decoded.Reserved → ⊥
operation-reserved a e = let z : ◌≡◌ {A = ℕ} 0 1 = cc in omega arith

-- ---- by element, by the number of the size

element-outside : (mk : ByElement → Op) (f : Form) (w n : ℕ) → element_of mk f w (size_of n) ≡ Decoded.Outside → ⊥
element-outside mk f w zero e = reserved-outside e
element-outside mk f w (suc zero) e = operation-outside _ e
element-outside mk f w (suc (suc zero)) e = operation-outside _ e
element-outside mk f w (suc (suc (suc n))) e = reserved-outside e

element-reserved : (mk : ByElement → Op) (f : Form) (w n : ℕ) → n < 4 → element_of mk f w (size_of n) ≡ Decoded.Reserved → (n ≡ 0) ⊎ (n ≡ 3)
element-reserved mk f w zero h e = inl refl
element-reserved mk f w (suc zero) h e = absurd (operation-reserved _ e)
element-reserved mk f w (suc (suc zero)) h e = absurd (operation-reserved _ e)
element-reserved mk f w (suc (suc (suc n))) h e = inr (omega arith)

element-operation : (mk : ByElement → Op) (f : Form) (w n : ℕ) (op : Op) → element_of mk f w (size_of n) ≡ Decoded.Operation op → (n ≡ 1) ⊎ (n ≡ 2)
element-operation mk f w zero op e = absurd (operation-reserved op (sym e))
element-operation mk f w (suc zero) op e = inl refl
element-operation mk f w (suc (suc zero)) op e = inr refl
element-operation mk f w (suc (suc (suc n))) op e = absurd (operation-reserved op (sym e))

-- ---- rows

hits : (r : Row) (w : ℕ) → Of r w → matches r w ≡ true
hits r w e = eq-eqb w (row_word r (field_values r.fields w)) e

-- the word matches the row at a place of a list
abbrev OfRow : ℕ → List Row → ℕ → Type 0
OfRow n [] w = ⊥
OfRow zero (r ∷ rs) w = Of r w
OfRow (suc n) (r ∷ rs) w = OfRow n rs w

some_at : (n : ℕ) (rs : List Row) (w : ℕ) → OfRow n rs w → MatchesSome rs w
some_at n [] w e = e
some_at zero (r ∷ rs) w e = inl (hits r w e)
some_at (suc n) (r ∷ rs) w e = inr (some_at n rs w e)

-- what follows from each row of a list follows from some
abbrev EachRow : Type 0 → ℕ → List Row → Type 0
EachRow G w [] = Unit {0}
EachRow G w (r ∷ rs) = (Of r w → G) × EachRow G w rs

by-some : (rs : List Row) (w : ℕ) (G : Type 0) → EachRow G w rs → MatchesSome rs w → G
by-some [] w G each m = absurd m
by-some (r ∷ rs) w G each m = ⊎_elim (λ h. each.0 (eqb-true w _ h)) (by-some rs w G each.1) m

-- no entry matches where no row does
all-miss : (es : List Entry) (w : ℕ) → (MatchesSome (map (λ (x : Entry). x.row) es) w → ⊥) → NoRow es w
all-miss [] w none = tt
all-miss (x ∷ es) w none = (ne_eqb w _ (λ e. none (inl (hits x.row w e))), all-miss es w (λ m. none (inr m)))

-- ---- the three answers

module _ (w : ℕ) where
  operation-only : (op : Op) → decode_of w ≡ Decoded.Operation op → AllowedWord w
  unfolding decode_of
  operation-only op =
      by_row table w (Decoded.Operation op) (AllowedWord w)
      (
      (λ e k. inl (some_at 0 (sve_rows ++ group_rows) w e)) ⨾
      (λ e k. inl (some_at 1 (sve_rows ++ group_rows) w e)) ⨾
      (λ e k. inl (some_at 2 (sve_rows ++ group_rows) w e)) ⨾
      (λ e k. inl (some_at 3 (sve_rows ++ group_rows) w e)) ⨾
      (λ e k. inl (some_at 4 (sve_rows ++ group_rows) w e)) ⨾
      (λ e k. inl (some_at 5 (sve_rows ++ group_rows) w e)) ⨾
      (λ e k. inl (some_at 6 (sve_rows ++ group_rows) w e)) ⨾
      (λ e k. inl (some_at 7 (sve_rows ++ group_rows) w e)) ⨾
      (λ e k. inr (some_at 0 element_rows w e, element-operation Op.Sqrdmlah _ w (field_value size w) op k)) ⨾
      (λ e k. inr (some_at 1 element_rows w e, element-operation Op.Sqrdmlah _ w (field_value size w) op k)) ⨾
      (λ e k. inr (some_at 2 element_rows w e, element-operation Op.Sqrdmlsh _ w (field_value size w) op k)) ⨾
      (λ e k. inr (some_at 3 element_rows w e, element-operation Op.Sqrdmlsh _ w (field_value size w) op k)) ⨾
      (λ e k. inl (some_at 8 (sve_rows ++ group_rows) w e)) ⨾
      (λ e k. inl (some_at 9 (sve_rows ++ group_rows) w e)) ⨾ tt)
      (λ none k. absurd (operation-outside op (sym k)))

  -- the four by-element rows: what the word decodes to, whatever the size is
  element-answer : (G : Type 0) → ((mk : ByElement → Op) (f : Form) → decode_of w ≡ element_of mk f w (size_of (field_value size w)) → G) → MatchesSome element_rows w → G
  element-answer G k =
      by-some element_rows w G
      ((λ e. k Op.Sqrdmlah (vector_of (field_value Q w)) (row_read w 8 e)) ⨾
      (λ e. k Op.Sqrdmlah Form.Scalar (row_read w 9 e)) ⨾
      (λ e. k Op.Sqrdmlsh (vector_of (field_value Q w)) (row_read w 10 e)) ⨾
      (λ e. k Op.Sqrdmlsh Form.Scalar (row_read w 11 e)) ⨾ tt)

  abbrev IsOperation : Type 0
  IsOperation = (op : Op) × (decode_of w ≡ Decoded.Operation op)

  of-sve : MatchesSome (sve_rows ++ group_rows) w → IsOperation
  of-sve =
      by-some (sve_rows ++ group_rows) w IsOperation
      ((λ e. (_, row_read w 0 e)) ⨾
      (λ e. (_, row_read w 1 e)) ⨾
      (λ e. (_, row_read w 2 e)) ⨾
      (λ e. (_, row_read w 3 e)) ⨾
      (λ e. (_, row_read w 4 e)) ⨾
      (λ e. (_, row_read w 5 e)) ⨾
      (λ e. (_, row_read w 6 e)) ⨾
      (λ e. (_, row_read w 7 e)) ⨾
      (λ e. (_, row_read w 12 e)) ⨾
      (λ e. (_, row_read w 13 e)) ⨾ tt)

  of-element : MatchesSome element_rows w → (field_value size w ≡ 1) ⊎ (field_value size w ≡ 2) → IsOperation
  of-element m s = element-answer IsOperation (λ mk f e. ⊎_elim (λ z. (_, e ∙ ap (λ (n : ℕ). element_of mk f w (size_of n)) z)) (λ z. (_, e ∙ ap (λ (n : ℕ). element_of mk f w (size_of n)) z)) s) m

  pub operation-exact : ((op : Op) → decode_of w ≡ Decoded.Operation op → AllowedWord w) × (AllowedWord w → (op : Op) × (decode_of w ≡ Decoded.Operation op))
  operation-exact = (operation-only, ⊎_elim of-sve (λ m. of-element m.0 m.1))

  reserved-only : decode_of w ≡ Decoded.Reserved → ReservedWord w
  unfolding decode_of
  reserved-only =
      by_row table w Decoded.Reserved (ReservedWord w)
      ((λ e k. absurd (operation-reserved _ k)) ⨾
      (λ e k. absurd (operation-reserved _ k)) ⨾
      (λ e k. absurd (operation-reserved _ k)) ⨾
      (λ e k. absurd (operation-reserved _ k)) ⨾
      (λ e k. absurd (operation-reserved _ k)) ⨾
      (λ e k. absurd (operation-reserved _ k)) ⨾
      (λ e k. absurd (operation-reserved _ k)) ⨾
      (λ e k. absurd (operation-reserved _ k)) ⨾
      (λ e k. (some_at 0 element_rows w e, element-reserved Op.Sqrdmlah _ w (field_value size w) (omega arith) k)) ⨾
      (λ e k. (some_at 1 element_rows w e, element-reserved Op.Sqrdmlah _ w (field_value size w) (omega arith) k)) ⨾
      (λ e k. (some_at 2 element_rows w e, element-reserved Op.Sqrdmlsh _ w (field_value size w) (omega arith) k)) ⨾
      (λ e k. (some_at 3 element_rows w e, element-reserved Op.Sqrdmlsh _ w (field_value size w) (omega arith) k)) ⨾
      (λ e k. absurd (operation-reserved _ k)) ⨾
      (λ e k. absurd (operation-reserved _ k)) ⨾ tt)
      (λ none k. absurd (reserved-outside (sym k)))

  reserved-all : ReservedWord w → decode_of w ≡ Decoded.Reserved
  reserved-all m =
      element-answer (decode_of w ≡ Decoded.Reserved)
      (λ mk f e. e ∙ ⊎_elim (λ z. ap (λ (n : ℕ). element_of mk f w (size_of n)) z) (λ z. ap (λ (n : ℕ). element_of mk f w (size_of n)) z) m.1)
      m.0

  pub reserved-exact : (decode_of w ≡ Decoded.Reserved → ReservedWord w) × (ReservedWord w → decode_of w ≡ Decoded.Reserved)
  reserved-exact = (reserved-only, reserved-all)

  outside-only : decode_of w ≡ Decoded.Outside → OutsideWord w
  outside-only h =
      by-some (sve_rows ++ element_rows ++ group_rows) w ⊥
      ((λ e. operation-outside _ (sym (row_read w 0 e) ∙ h)) ⨾
      (λ e. operation-outside _ (sym (row_read w 1 e) ∙ h)) ⨾
      (λ e. operation-outside _ (sym (row_read w 2 e) ∙ h)) ⨾
      (λ e. operation-outside _ (sym (row_read w 3 e) ∙ h)) ⨾
      (λ e. operation-outside _ (sym (row_read w 4 e) ∙ h)) ⨾
      (λ e. operation-outside _ (sym (row_read w 5 e) ∙ h)) ⨾
      (λ e. operation-outside _ (sym (row_read w 6 e) ∙ h)) ⨾
      (λ e. operation-outside _ (sym (row_read w 7 e) ∙ h)) ⨾
      (λ e. element-outside Op.Sqrdmlah _ w (field_value size w) (sym (row_read w 8 e) ∙ h)) ⨾
      (λ e. element-outside Op.Sqrdmlah _ w (field_value size w) (sym (row_read w 9 e) ∙ h)) ⨾
      (λ e. element-outside Op.Sqrdmlsh _ w (field_value size w) (sym (row_read w 10 e) ∙ h)) ⨾
      (λ e. element-outside Op.Sqrdmlsh _ w (field_value size w) (sym (row_read w 11 e) ∙ h)) ⨾
      (λ e. operation-outside _ (sym (row_read w 12 e) ∙ h)) ⨾
      (λ e. operation-outside _ (sym (row_read w 13 e) ∙ h)) ⨾ tt)

  pub outside-exact : (decode_of w ≡ Decoded.Outside → OutsideWord w) × (OutsideWord w → decode_of w ≡ Decoded.Outside)
  unfolding decode_of
  outside-exact = (outside-only, (λ none. no-row-outside table w (all-miss table w none)))
