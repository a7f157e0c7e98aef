-- Which operation eight fields name.
use Rattle.std.specs.Prelude.{ℕ, zero, suc, Bool, true, false, ◌&&◌, ◌||◌, List, [], ◌∷◌, eqb, leb, get_or, Option, Some, None}
use Rattle.isa.specs.Decode.{size_of, rotation_of}
use Rattle.isa.specs.declared.types.Form.{Form}
use Rattle.isa.specs.declared.types.Add.{Add}
use Rattle.isa.specs.declared.types.Mul.{Mul}
use Rattle.isa.specs.declared.types.MulIndexed.{MulIndexed}
use Rattle.isa.specs.declared.types.ByElement.{ByElement}
use Rattle.isa.specs.declared.types.Group.{Group}
use Rattle.isa.specs.declared.types.MulGroup.{MulGroup}
use Rattle.isa.specs.declared.types.Op.{Op}
use Rattle.fields.specs.declared.types.Numbers.{Numbers}

-- the fields by name
unfoldable pub numbers_at : List ℕ → Numbers
numbers_at l = record {
  family = get_or l 0 0;
  size = get_or l 1 0;
  form = get_or l 2 0;
  turns = get_or l 3 0;
  destination = get_or l 4 0;
  first = get_or l 5 0;
  second = get_or l 6 0;
  index = get_or l 7 0;
}

-- a size is 0 to 3, the turns 0 to 3; writing judges registers and the index
abbrev pub within_of : Numbers → Bool
within_of n = leb n.size 3 && leb n.turns 3

-- 0 scalar, 1 vector of 64 bits, 2 vector of 128
abbrev pub form_of : ℕ → Form
form_of zero = Form.Scalar
form_of (suc zero) = Form.Vector64
form_of (suc (suc n)) = Form.Vector128

-- the group of 2 registers, or of 4
abbrev pub pick_group : Bool → Group
pick_group true = Group.Two
pick_group false = Group.Four

abbrev pub group_with : ℕ → Group
group_with n = pick_group (eqb n 2)

abbrev pub add_at : Numbers → Add
add_at n = record { size = size_of n.size; rot = rotation_of n.turns; zm = n.second; zdn = n.destination }

abbrev pub mul_at : Numbers → Mul
mul_at n = record { size = size_of n.size; rot = rotation_of n.turns; zm = n.second; zn = n.first; zda = n.destination }

abbrev pub indexed_at : Numbers → MulIndexed
indexed_at n = record { size = size_of n.size; rot = rotation_of n.turns; zm = n.second; index = n.index; zn = n.first; zda = n.destination }

abbrev pub element_at : Numbers → ByElement
element_at n = record { form = form_of n.form; size = size_of n.size; rm = n.second; index = n.index; rn = n.first; rd = n.destination }

abbrev pub group_at : Numbers → MulGroup
group_at n = record { size = size_of n.size; zm = n.second; zdn = n.destination; group = group_with n.form }

abbrev pub named_if : {A : Type 0} → Bool → A → Option A
named_if true a = Some a
named_if false a = None

-- what the family does not use has to be 0, and a form one that it has
abbrev pub add_unused : Numbers → Bool
add_unused n = eqb n.form 0 && (eqb n.first 0 && eqb n.index 0)

abbrev pub mul_unused : Numbers → Bool
mul_unused n = eqb n.form 0 && eqb n.index 0

abbrev pub indexed_unused : Numbers → Bool
indexed_unused n = eqb n.form 0

abbrev pub element_unused : Numbers → Bool
element_unused n = leb n.form 2 && eqb n.turns 0

abbrev pub group_unused : Numbers → Bool
group_unused n = (eqb n.form 2 || eqb n.form 4) && (eqb n.turns 0 && (eqb n.first 0 && eqb n.index 0))

-- the families in the order of the listing's names
abbrev pub families : Numbers → List (Option Op)
families n =
    named_if (add_unused n) (Op.Cadd (add_at n)) ∷
    named_if (add_unused n) (Op.Sqcadd (add_at n)) ∷
    named_if (mul_unused n) (Op.Cmla (mul_at n)) ∷
    named_if (indexed_unused n) (Op.CmlaIndexed (indexed_at n)) ∷
    named_if (mul_unused n) (Op.Sqrdcmlah (mul_at n)) ∷
    named_if (indexed_unused n) (Op.SqrdcmlahIndexed (indexed_at n)) ∷
    named_if (element_unused n) (Op.Sqrdmlah (element_at n)) ∷
    named_if (element_unused n) (Op.Sqrdmlsh (element_at n)) ∷
    named_if (group_unused n) (Op.Sqdmulh (group_at n)) ∷ []

unfoldable pub family_named : Numbers → Option Op
family_named n = get_or (families n) n.family None

abbrev pub pick_named : Bool → Option Op → Option Op → Option Op
pick_named true a b = a
pick_named false a b = b

unfoldable pub named_of : Numbers → Option Op
named_of n = pick_named (within_of n) (family_named n) None

-- fields that name no operation; above every number of the papers
abbrev pub no_operation : ℕ
no_operation = 33
