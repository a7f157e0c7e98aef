-- `fields-named`: an operation's fields name it. Assumes nothing.
use mathlib.Core.Path.{◌≡◌, refl, sym, ap, ◌∙◌}
use Prim.Native.Nat.{ℕ}
use mathlib.Core.Bool.{true, ◌||◌}
use lib.Dec.{leb, eqb}
use lib.ListN.{length}
use Rattle.isa.specs.declared.types.Size.{Size}
use Rattle.isa.specs.declared.types.Rotation.{Rotation}
use Rattle.isa.specs.declared.types.Form.{Form}
use Rattle.isa.specs.declared.types.Add.{Add}
use Rattle.isa.specs.declared.types.Mul.{Mul}
use Rattle.isa.specs.declared.types.MulIndexed.{MulIndexed}
use Rattle.isa.specs.declared.types.ByElement.{ByElement}
use Rattle.isa.specs.declared.types.Group.{Group}
use Rattle.isa.specs.declared.types.MulGroup.{MulGroup}
use Rattle.isa.specs.declared.types.Op.{Op}
use Rattle.isa.specs.Register.{group_count}
use Rattle.isa.specs.Decode.{size_of, rotation_of}
use Rattle.isa.specs.Encode.{size_bits, rotation_bits}
use Rattle.fields.specs.declared.types.Numbers.{Numbers}
use Rattle.std.specs.Prelude.{Some}
use Rattle.fields.specs.Fields.{form_number, add_fields, mul_fields, indexed_fields, element_fields, group_fields, fields_of}
use Rattle.fields.specs.Named.{numbers_at, within_of, form_of, add_at, mul_at, indexed_at, element_at, named_if, element_unused, group_with, group_at, group_unused, family_named, named_of}
use Rattle.fields.proofs.Named.{named-within}

-- ---- the numbers of a size, a rotation and a form, and back

size_small : (z : Size) → leb (size_bits z) 3 ≡ true
size_small Size.B = refl
size_small Size.H = refl
size_small Size.S = refl
size_small Size.D = refl

size_back : (z : Size) → size_of (size_bits z) ≡ z
size_back Size.B = refl
size_back Size.H = refl
size_back Size.S = refl
size_back Size.D = refl

turns-small : (r : Rotation) → leb (rotation_bits r) 3 ≡ true
turns-small Rotation.R0 = refl
turns-small Rotation.R90 = refl
turns-small Rotation.R180 = refl
turns-small Rotation.R270 = refl

turns-back : (r : Rotation) → rotation_of (rotation_bits r) ≡ r
turns-back Rotation.R0 = refl
turns-back Rotation.R90 = refl
turns-back Rotation.R180 = refl
turns-back Rotation.R270 = refl

form_small : (f : Form) → leb (form_number f) 2 ≡ true
form_small Form.Scalar = refl
form_small Form.Vector64 = refl
form_small Form.Vector128 = refl

form-back : (f : Form) → form_of (form_number f) ≡ f
form-back Form.Scalar = refl
form-back Form.Vector64 = refl
form-back Form.Vector128 = refl

group-unused : (g : Group) → (eqb (group_count g) 2 || eqb (group_count g) 4) ≡ true
group-unused Group.Two = refl
group-unused Group.Four = refl

group-with-back : (g : Group) → group_with (group_count g) ≡ g
group-with-back Group.Two = refl
group-with-back Group.Four = refl

-- ---- an operation's fields name it

within_all : (n : Numbers) → leb n.size 3 ≡ true → leb n.turns 3 ≡ true → within_of n ≡ true
within_all n z t = rw (z, t)

module _ (family : ℕ) where
  add-within : (a : Add) → within_of (numbers_at (add_fields family a)) ≡ true
  unfolding numbers_at
  add-within a = within_all (numbers_at (add_fields family a)) (size_small a.size) (turns-small a.rot)

  add_back : (a : Add) → add_at (numbers_at (add_fields family a)) ≡ a
  unfolding numbers_at
  add_back a = rw (size_back a.size, turns-back a.rot)

  mul-within : (a : Mul) → within_of (numbers_at (mul_fields family a)) ≡ true
  unfolding numbers_at
  mul-within a = within_all (numbers_at (mul_fields family a)) (size_small a.size) (turns-small a.rot)

  mul-back : (a : Mul) → mul_at (numbers_at (mul_fields family a)) ≡ a
  unfolding numbers_at
  mul-back a = rw (size_back a.size, turns-back a.rot)

  indexed-within : (a : MulIndexed) → within_of (numbers_at (indexed_fields family a)) ≡ true
  unfolding numbers_at
  indexed-within a = within_all (numbers_at (indexed_fields family a)) (size_small a.size) (turns-small a.rot)

  indexed-back : (a : MulIndexed) → indexed_at (numbers_at (indexed_fields family a)) ≡ a
  unfolding numbers_at
  indexed-back a = rw (size_back a.size, turns-back a.rot)

  element-within : (a : ByElement) → within_of (numbers_at (element_fields family a)) ≡ true
  unfolding numbers_at
  element-within a = within_all (numbers_at (element_fields family a)) (size_small a.size) refl

  group-within : (a : MulGroup) → within_of (numbers_at (group_fields family a)) ≡ true
  unfolding numbers_at
  group-within a = within_all (numbers_at (group_fields family a)) (size_small a.size) refl

  -- a form that the family has
  element-named : (mk : ByElement → Op) (a : ByElement) → named_if (element_unused (numbers_at (element_fields family a))) (mk (element_at (numbers_at (element_fields family a)))) ≡ Some (mk a)
  unfolding numbers_at
  element-named mk a = rw (form_small a.form, form-back a.form, size_back a.size)

  group-named : (a : MulGroup) → named_if (group_unused (numbers_at (group_fields family a))) (Op.Sqdmulh (group_at (numbers_at (group_fields family a)))) ≡ Some (Op.Sqdmulh a)
  unfolding numbers_at
  group-named a = rw (group-unused a.group, group-with-back a.group, size_back a.size)

pub fields-named : (op : Op) → named_of (numbers_at (fields_of op)) ≡ Some op
unfolding fields_of numbers_at family_named
fields-named (Op.Cadd a) = sym (named-within (numbers_at (add_fields 0 a)) (add-within 0 a)) ∙ ap (λ (x : Add). Some (Op.Cadd x)) (add_back 0 a)
fields-named (Op.Sqcadd a) = sym (named-within (numbers_at (add_fields 1 a)) (add-within 1 a)) ∙ ap (λ (x : Add). Some (Op.Sqcadd x)) (add_back 1 a)
fields-named (Op.Cmla a) = sym (named-within (numbers_at (mul_fields 2 a)) (mul-within 2 a)) ∙ ap (λ (x : Mul). Some (Op.Cmla x)) (mul-back 2 a)
fields-named (Op.CmlaIndexed a) = sym (named-within (numbers_at (indexed_fields 3 a)) (indexed-within 3 a)) ∙ ap (λ (x : MulIndexed). Some (Op.CmlaIndexed x)) (indexed-back 3 a)
fields-named (Op.Sqrdcmlah a) = sym (named-within (numbers_at (mul_fields 4 a)) (mul-within 4 a)) ∙ ap (λ (x : Mul). Some (Op.Sqrdcmlah x)) (mul-back 4 a)
fields-named (Op.SqrdcmlahIndexed a) = sym (named-within (numbers_at (indexed_fields 5 a)) (indexed-within 5 a)) ∙ ap (λ (x : MulIndexed). Some (Op.SqrdcmlahIndexed x)) (indexed-back 5 a)
fields-named (Op.Sqrdmlah a) = sym (named-within (numbers_at (element_fields 6 a)) (element-within 6 a)) ∙ element-named 6 Op.Sqrdmlah a
fields-named (Op.Sqrdmlsh a) = sym (named-within (numbers_at (element_fields 7 a)) (element-within 7 a)) ∙ element-named 7 Op.Sqrdmlsh a
fields-named (Op.Sqdmulh a) = sym (named-within (numbers_at (group_fields 8 a)) (group-within 8 a)) ∙ group-named 8 a

pub fields-eight : (op : Op) → length (fields_of op) ≡ 8
unfolding fields_of
fields-eight (Op.Cadd a) = refl
fields-eight (Op.Sqcadd a) = refl
fields-eight (Op.Cmla a) = refl
fields-eight (Op.CmlaIndexed a) = refl
fields-eight (Op.Sqrdcmlah a) = refl
fields-eight (Op.SqrdcmlahIndexed a) = refl
fields-eight (Op.Sqrdmlah a) = refl
fields-eight (Op.Sqrdmlsh a) = refl
fields-eight (Op.Sqdmulh a) = refl
