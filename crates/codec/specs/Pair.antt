-- Families that differ in one choice, and the opcode bits that make it, for the contracts of the decoder's inner functions.
use Rattle.std.specs.Prelude.{ℕ, ◌≡◌, Bool, true, false, ◌⊎◌}
use Rattle.isa.specs.declared.types.Form.{Form}
use Rattle.isa.specs.declared.types.Add.{Add}
use Rattle.isa.specs.declared.types.Mul.{Mul}
use Rattle.isa.specs.declared.types.MulIndexed.{MulIndexed}
use Rattle.isa.specs.declared.types.ByElement.{ByElement}
use Rattle.isa.specs.declared.types.Group.{Group}
use Rattle.isa.specs.declared.types.Op.{Op}

-- bits 31 to 24 of a by-element form
abbrev pub form_top : Form → ℕ
form_top Form.Scalar = 0x7F
form_top Form.Vector64 = 0x2F
form_top Form.Vector128 = 0x6F

abbrev pub ElementTop : ℕ → Type 0
ElementTop top = (top ≡ 0x2F) ⊎ ((top ≡ 0x6F) ⊎ (top ≡ 0x7F))

-- bits 31 to 24 of none of document 01's families
abbrev pub OtherTop : ℕ → Type 0
OtherTop top = (top ≡ 0x44 → ⊥) × ((top ≡ 0x45 → ⊥) × (ElementTop top → ⊥))

-- CADD, or with saturation SQCADD, and bits 21 to 11
abbrev pub add_by : Bool → Add → Op
add_by false a = Op.Cadd a
add_by true a = Op.Sqcadd a

abbrev pub add_opcode : Bool → ℕ
add_opcode false = 27
add_opcode true = 59

-- CMLA, or with rounding SQRDCMLAH, and bits 15 to 12
abbrev pub mul_by : Bool → Mul → Op
mul_by false a = Op.Cmla a
mul_by true a = Op.Sqrdcmlah a

abbrev pub mul_opcode : Bool → ℕ
mul_opcode false = 2
mul_opcode true = 3

-- the same two, indexed
abbrev pub indexed_by : Bool → MulIndexed → Op
indexed_by false a = Op.CmlaIndexed a
indexed_by true a = Op.SqrdcmlahIndexed a

abbrev pub indexed_opcode : Bool → ℕ
indexed_opcode false = 6
indexed_opcode true = 7

-- SQRDMLAH, or with a minus SQRDMLSH, and bits 15 to 12
abbrev pub element_by : Bool → ByElement → Op
element_by false a = Op.Sqrdmlah a
element_by true a = Op.Sqrdmlsh a

abbrev pub element_opcode : Bool → ℕ
element_opcode false = 13
element_opcode true = 15

-- SQDMULH of two or of four registers, and bits 15 to 5
abbrev pub group_opcode : Group → ℕ
group_opcode Group.Two = 1312
group_opcode Group.Four = 1376
