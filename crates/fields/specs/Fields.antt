-- The eight fields of an operation: family, size, form, quarter turns, destination, first source, second source, index.
-- What a family does not use is 0. CADD, SQCADD and SQDMULH have their first source in the destination.
use Rattle.std.specs.Prelude.{ℕ, List, [], ◌∷◌}
use Rattle.isa.specs.Encode.{size_bits, rotation_bits}
use Rattle.isa.specs.declared.types.Form.{Form}
use Rattle.isa.specs.declared.types.Add.{Add}
use Rattle.isa.specs.declared.types.Mul.{Mul}
use Rattle.isa.specs.declared.types.MulIndexed.{MulIndexed}
use Rattle.isa.specs.declared.types.ByElement.{ByElement}
use Rattle.isa.specs.declared.types.MulGroup.{MulGroup}
use Rattle.isa.specs.declared.types.Op.{Op}
use Rattle.isa.specs.Register.{group_count}

-- 0 scalar, 1 vector of 64 bits, 2 vector of 128
abbrev pub form_number : Form → ℕ
form_number Form.Scalar = 0
form_number Form.Vector64 = 1
form_number Form.Vector128 = 2

abbrev pub add_fields : ℕ → Add → List ℕ
add_fields family a = family ∷ size_bits a.size ∷ 0 ∷ rotation_bits a.rot ∷ a.zdn ∷ 0 ∷ a.zm ∷ 0 ∷ []

abbrev pub mul_fields : ℕ → Mul → List ℕ
mul_fields family a = family ∷ size_bits a.size ∷ 0 ∷ rotation_bits a.rot ∷ a.zda ∷ a.zn ∷ a.zm ∷ 0 ∷ []

abbrev pub indexed_fields : ℕ → MulIndexed → List ℕ
indexed_fields family a = family ∷ size_bits a.size ∷ 0 ∷ rotation_bits a.rot ∷ a.zda ∷ a.zn ∷ a.zm ∷ a.index ∷ []

abbrev pub element_fields : ℕ → ByElement → List ℕ
element_fields family a = family ∷ size_bits a.size ∷ form_number a.form ∷ 0 ∷ a.rd ∷ a.rn ∷ a.rm ∷ a.index ∷ []

-- the form is the registers of the group, the destination its first
abbrev pub group_fields : ℕ → MulGroup → List ℕ
group_fields family a = family ∷ size_bits a.size ∷ group_count a.group ∷ 0 ∷ a.zdn ∷ 0 ∷ a.zm ∷ 0 ∷ []

-- the families in the order of the listing's names, from 0
unfoldable pub fields_of : Op → List ℕ
fields_of (Op.Cadd a) = add_fields 0 a
fields_of (Op.Sqcadd a) = add_fields 1 a
fields_of (Op.Cmla a) = mul_fields 2 a
fields_of (Op.CmlaIndexed a) = indexed_fields 3 a
fields_of (Op.Sqrdcmlah a) = mul_fields 4 a
fields_of (Op.SqrdcmlahIndexed a) = indexed_fields 5 a
fields_of (Op.Sqrdmlah a) = element_fields 6 a
fields_of (Op.Sqrdmlsh a) = element_fields 7 a
fields_of (Op.Sqdmulh a) = group_fields 8 a

-- a lent part of other than 8 numbers; above every number of the papers
abbrev pub bad_part : ℕ
bad_part = 32
