-- `named-fields`: eight numbers that name an operation are its fields. Assumes nothing.
use mathlib.Core.Path.{◌≡◌, refl, sym, ap, ◌∙◌}
use Prim.Native.Nat.{ℕ, zero, suc, ◌≤◌}
use native.Mathlib.Omega.{arith}
use mathlib.Core.Bool.{Bool, true, false, ◌||◌}
use mathlib.Core.List.{List, [], ◌∷◌}
use lib.Dec.{leb, eqb}
use lib.ListN.{length, get_or}
use borrow.Author.Tests.{leb-true, eqb-true}
use Rattle.isa.specs.declared.types.Op.{Op}
use Rattle.isa.specs.Decode.{size_of, rotation_of}
use Rattle.isa.specs.Encode.{size_bits, rotation_bits}
use Rattle.isa.specs.Register.{group_count}
use Rattle.isa.proofs.Fields.{and_left, and_right}
use Rattle.isa.proofs.File.{cases}
use Rattle.fields.specs.declared.types.Numbers.{Numbers}
use Rattle.std.specs.Prelude.{Option, Some, None}
use Rattle.fields.specs.Fields.{form_number, add_fields, mul_fields, indexed_fields, element_fields, group_fields, fields_of}
use Rattle.fields.specs.Named.{numbers_at, within_of, form_of, add_at, mul_at, indexed_at, element_at, group_with, group_at, named_if, add_unused, mul_unused, indexed_unused, element_unused, group_unused, families, family_named, pick_named, named_of}

-- ---- a size, a rotation and a form from their numbers, and back

size-again : (k : ℕ) → k ≤ 3 → size_bits (size_of k) ≡ k
size-again zero h = refl
size-again (suc zero) h = refl
size-again (suc (suc zero)) h = refl
size-again (suc (suc (suc zero))) h = refl
size-again (suc (suc (suc (suc k)))) h = absurd (omega arith)

turns-again : (k : ℕ) → k ≤ 3 → rotation_bits (rotation_of k) ≡ k
turns-again zero h = refl
turns-again (suc zero) h = refl
turns-again (suc (suc zero)) h = refl
turns-again (suc (suc (suc zero))) h = refl
turns-again (suc (suc (suc (suc k)))) h = absurd (omega arith)

form-again : (k : ℕ) → k ≤ 2 → form_number (form_of k) ≡ k
form-again zero h = refl
form-again (suc zero) h = refl
form-again (suc (suc zero)) h = refl
form-again (suc (suc (suc k))) h = absurd (omega arith)

group-again : (k : ℕ) → (eqb k 2 || eqb k 4) ≡ true → group_count (group_with k) ≡ k
group-again k h = cases (eqb k 2)
    (λ e. rw e (sym (eqb-true k 2 e)))
    (λ e. rw e (sym (eqb-true k 4 (rw e at h))))

-- ---- the eight numbers in order

abbrev in_order : Numbers → List ℕ
in_order n = n.family ∷ n.size ∷ n.form ∷ n.turns ∷ n.destination ∷ n.first ∷ n.second ∷ n.index ∷ []

in_order-numbers_at : (l : List ℕ) → length l ≡ 8 → in_order (numbers_at l) ≡ l
unfolding numbers_at
in_order-numbers_at [] e = absurd (omega arith)
in_order-numbers_at (a ∷ []) e = absurd (omega arith)
in_order-numbers_at (a ∷ b ∷ []) e = absurd (omega arith)
in_order-numbers_at (a ∷ b ∷ c ∷ []) e = absurd (omega arith)
in_order-numbers_at (a ∷ b ∷ c ∷ d ∷ []) e = absurd (omega arith)
in_order-numbers_at (a ∷ b ∷ c ∷ d ∷ f ∷ []) e = absurd (omega arith)
in_order-numbers_at (a ∷ b ∷ c ∷ d ∷ f ∷ g ∷ []) e = absurd (omega arith)
in_order-numbers_at (a ∷ b ∷ c ∷ d ∷ f ∷ g ∷ h ∷ []) e = absurd (omega arith)
in_order-numbers_at (a ∷ b ∷ c ∷ d ∷ f ∷ g ∷ h ∷ i ∷ []) e = refl
in_order-numbers_at (a ∷ b ∷ c ∷ d ∷ f ∷ g ∷ h ∷ i ∷ j ∷ l) e = absurd (omega arith)

-- ---- by the kind of operation

module _ (n : Numbers) (within : within_of n ≡ true) where
  size_is : size_bits (size_of n.size) ≡ n.size
  size_is = size-again n.size (leb-true n.size 3 (and_left _ _ within))

  turns-is : rotation_bits (rotation_of n.turns) ≡ n.turns
  turns-is = turns-again n.turns (leb-true n.turns 3 (and_right (leb n.size 3) _ within))

  module _ (k : ℕ) (family : n.family ≡ k) where
    add-again : add_unused n ≡ true → add_fields k (add_at n) ≡ in_order n
    add-again u =
        let form = eqb-true n.form 0 (and_left _ _ u) in
        let both = and_right (eqb n.form 0) _ u in
        let first = eqb-true n.first 0 (and_left _ _ both) in
        let index = eqb-true n.index 0 (and_right (eqb n.first 0) _ both) in
        rw (family, size_is, turns-is, form, first, index)

    mul-again : mul_unused n ≡ true → mul_fields k (mul_at n) ≡ in_order n
    mul-again u =
        let form = eqb-true n.form 0 (and_left _ _ u) in
        let index = eqb-true n.index 0 (and_right (eqb n.form 0) _ u) in
        rw (family, size_is, turns-is, form, index)

    indexed-again : indexed_unused n ≡ true → indexed_fields k (indexed_at n) ≡ in_order n
    indexed-again u = rw (family, size_is, turns-is, eqb-true n.form 0 u)

    element-again : element_unused n ≡ true → element_fields k (element_at n) ≡ in_order n
    element-again u =
        let form = form-again n.form (leb-true n.form 2 (and_left _ _ u)) in
        rw (family, size_is, form, eqb-true n.turns 0 (and_right (leb n.form 2) _ u))

    group-fields-again : group_unused n ≡ true → group_fields k (group_at n) ≡ in_order n
    group-fields-again u =
        let form = group-again n.form (and_left _ _ u) in
        let rest = and_right (eqb n.form 2 || eqb n.form 4) _ u in
        let turns = eqb-true n.turns 0 (and_left _ _ rest) in
        let both = and_right (eqb n.turns 0) _ rest in
        let first = eqb-true n.first 0 (and_left _ _ both) in
        let index = eqb-true n.index 0 (and_right (eqb n.first 0) _ both) in
        rw (family, size_is, form, turns, first, index)

-- ---- the operation that is named

-- an operation that is named under a condition is that operation
pub record Is (b : Bool) (x op : Op) : Type 0 where
  pub unused : b ≡ true
  pub same : x ≡ op

named-if : (b : Bool) (x op : Op) → named_if b x ≡ Some op → Is b x op
named-if true x op e = record { unused = refl; same = cc }
named-if false x op e = let z : ◌≡◌ {A = ℕ} 0 1 = cc in absurd (omega arith)

nothing : (op : Op) → ◌≡◌ {A = Option Op} None (Some op) → ⊥
nothing op e = let z : ◌≡◌ {A = ℕ} 0 1 = cc in omega arith

module _ (n : Numbers) (op : Op) (within : within_of n ≡ true) where
  again : (b : Bool) (x : Op) → (b ≡ true → fields_of x ≡ in_order n) → named_if b x ≡ Some op → fields_of op ≡ in_order n
  again b x f h = let p = named-if b x op h in ap fields_of (sym p.same) ∙ f p.unused

  by-family : (k : ℕ) → n.family ≡ k → get_or (families n) k None ≡ Some op → fields_of op ≡ in_order n
  unfolding fields_of
  by-family zero e h = again (add_unused n) (Op.Cadd (add_at n)) (add-again n within 0 e) h
  by-family (suc zero) e h = again (add_unused n) (Op.Sqcadd (add_at n)) (add-again n within 1 e) h
  by-family (suc (suc zero)) e h = again (mul_unused n) (Op.Cmla (mul_at n)) (mul-again n within 2 e) h
  by-family (suc (suc (suc zero))) e h = again (indexed_unused n) (Op.CmlaIndexed (indexed_at n)) (indexed-again n within 3 e) h
  by-family (suc (suc (suc (suc zero)))) e h = again (mul_unused n) (Op.Sqrdcmlah (mul_at n)) (mul-again n within 4 e) h
  by-family (suc (suc (suc (suc (suc zero))))) e h = again (indexed_unused n) (Op.SqrdcmlahIndexed (indexed_at n)) (indexed-again n within 5 e) h
  by-family (suc (suc (suc (suc (suc (suc zero)))))) e h = again (element_unused n) (Op.Sqrdmlah (element_at n)) (element-again n within 6 e) h
  by-family (suc (suc (suc (suc (suc (suc (suc zero))))))) e h = again (element_unused n) (Op.Sqrdmlsh (element_at n)) (element-again n within 7 e) h
  by-family (suc (suc (suc (suc (suc (suc (suc (suc zero)))))))) e h = again (group_unused n) (Op.Sqdmulh (group_at n)) (group-fields-again n within 8 e) h
  by-family (suc (suc (suc (suc (suc (suc (suc (suc (suc k))))))))) e h = absurd (nothing op h)

by-within : (n : Numbers) (op : Op) (t : Bool) → within_of n ≡ t → pick_named t (family_named n) None ≡ Some op → fields_of op ≡ in_order n
unfolding family_named
by-within n op true w h = by-family n op w n.family refl h
by-within n op false w h = absurd (nothing op h)

pub named-fields : (l : List ℕ) (op : Op) → length l ≡ 8 → named_of (numbers_at l) ≡ Some op → fields_of op ≡ l
unfolding named_of
named-fields l op e h = by-within (numbers_at l) op (within_of (numbers_at l)) refl h ∙ in_order-numbers_at l e
