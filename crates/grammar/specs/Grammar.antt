-- The grammar of lines: a template for each form of an operation, as Arm's pages print it, with a small letter for what varies.
use Rattle.std.specs.Prelude.{ℕ, zero, suc, ◌+◌, ◌-◌, ◌*◌, ◌/◌, Bool, true, false, ◌&&◌, List, [], ◌∷◌, map, eqb, leb, get_or}
use Prim.Native.Char.{code}
use Prim.Native.String.{String, [] as none, ◌∷◌ as ◌then◌}
use Rattle.isa.specs.declared.types.Size.{Size}
use Rattle.isa.specs.declared.types.Form.{Form}
use Rattle.isa.specs.declared.types.Add.{Add}
use Rattle.isa.specs.declared.types.Mul.{Mul}
use Rattle.isa.specs.declared.types.MulIndexed.{MulIndexed}
use Rattle.isa.specs.declared.types.ByElement.{ByElement}
use Rattle.isa.specs.declared.types.Group.{Group}
use Rattle.isa.specs.declared.types.MulGroup.{MulGroup}
use Rattle.isa.specs.declared.types.Op.{Op}
use Rattle.isa.specs.Register.{by_group, group_count}
use Rattle.isa.specs.Decode.{size_of, rotation_of, add_rotation_of, vector_of}
use Rattle.isa.specs.Encode.{size_bits, rotation_bits, add_rotation_bits, by_size}
use Rattle.grammar.specs.Template.{Item, byte, var, Choices, numbers, texts, Variables, fill, pick_number, bind}

abbrev pub ascii : String → List ℕ
ascii none = []
ascii (c then s) = code c ∷ ascii s

abbrev pub pick_item : Bool → Item → Item → Item
pick_item true a b = a
pick_item false a b = b

-- a small letter is a variable, by its place in the alphabet
abbrev pub item_of : ℕ → Item
item_of c = pick_item (leb 97 c && leb c 122) (var (c - 97)) (byte c)

abbrev pub template : String → List Item
template s = map item_of (ascii s)

-- ---- what the letters stand for

-- so many numbers, each a step above the one before
abbrev pub progression : ℕ → ℕ → ℕ → List ℕ
progression first step zero = []
progression first step (suc n) = first ∷ progression (first + step) step n

abbrev pub below : ℕ → Choices
below n = numbers (progression 0 1 n)

abbrev pub one_of : List String → Choices
one_of ws = texts (map ascii ws)

abbrev pub unused : Choices
unused = below 1

abbrev pub alphabet : List Choices
alphabet =
    -- a, b: the first and the last register of a group of two
    numbers (progression 0 2 16) ∷ numbers (progression 1 2 16) ∷
    -- c
    unused ∷
    -- d: the destination
    below 32 ∷
    -- e, f: the first and the last register of a group of four
    numbers (progression 0 4 8) ∷ numbers (progression 3 4 8) ∷
    -- g
    unused ∷
    -- h: a second source up to 15
    below 16 ∷
    -- i, j, k: an index up to 7, 3, 1
    below 8 ∷ below 4 ∷ below 2 ∷
    -- l: a second source up to 7
    below 8 ∷
    -- m: a second source; n: a first source
    below 32 ∷ below 32 ∷
    -- o
    unused ∷
    -- p, q: how many S, and how many H, a vector has
    one_of ("2" ∷ "4" ∷ []) ∷ one_of ("4" ∷ "8" ∷ []) ∷
    -- r, s: rotations of a product, and of a sum
    one_of ("0" ∷ "90" ∷ "180" ∷ "270" ∷ []) ∷ one_of ("90" ∷ "270" ∷ []) ∷
    -- t: the width of an element
    one_of ("B" ∷ "H" ∷ "S" ∷ "D" ∷ []) ∷ []

abbrev pub letter_a : ℕ
letter_a = 0

abbrev pub letter_b : ℕ
letter_b = 1

abbrev pub letter_d : ℕ
letter_d = 3

abbrev pub letter_e : ℕ
letter_e = 4

abbrev pub letter_f : ℕ
letter_f = 5

abbrev pub letter_h : ℕ
letter_h = 7

abbrev pub letter_i : ℕ
letter_i = 8

abbrev pub letter_j : ℕ
letter_j = 9

abbrev pub letter_k : ℕ
letter_k = 10

abbrev pub letter_l : ℕ
letter_l = 11

abbrev pub letter_m : ℕ
letter_m = 12

abbrev pub letter_n : ℕ
letter_n = 13

abbrev pub letter_p : ℕ
letter_p = 15

abbrev pub letter_q : ℕ
letter_q = 16

abbrev pub letter_r : ℕ
letter_r = 17

abbrev pub letter_s : ℕ
letter_s = 18

abbrev pub letter_t : ℕ
letter_t = 19

-- letters there are
abbrev pub letter_count : ℕ
letter_count = 26

-- the registers of a group are one value, its number; every other letter has a value by itself
abbrev pub slot_of : ℕ → ℕ
slot_of x = pick_number (eqb x letter_b) letter_a (pick_number (eqb x letter_f) letter_e x)

unfoldable pub variables : Variables
variables = record { slot = slot_of; choices = λ x. get_or alphabet x unused }

-- ---- the patterns: a template, and the operation that values make

pub record Pattern : Type 0 where
  pub line : List Item
  pub make : (ℕ → ℕ) → Op

abbrev pub add_from : (ℕ → ℕ) → Add
add_from r = record { size = size_of (r letter_t); zm = r letter_m; zdn = r letter_d; rot = add_rotation_of (r letter_s) }

abbrev pub mul_from : (ℕ → ℕ) → Mul
mul_from r = record { size = size_of (r letter_t); zm = r letter_m; zn = r letter_n; zda = r letter_d; rot = rotation_of (r letter_r) }

-- with the letters of the second source and of the index
abbrev pub indexed_from : Size → ℕ → ℕ → (ℕ → ℕ) → MulIndexed
indexed_from z m i r = record { size = z; zm = r m; index = r i; zn = r letter_n; zda = r letter_d; rot = rotation_of (r letter_r) }

abbrev pub element_from : Size → Form → ℕ → ℕ → (ℕ → ℕ) → ByElement
element_from z f m i r = record { size = z; rm = r m; index = r i; rn = r letter_n; rd = r letter_d; form = f }

-- with the letter of the group
abbrev pub group_from : Group → ℕ → (ℕ → ℕ) → MulGroup
group_from g x r = record { size = size_of (r letter_t); zm = r letter_h; zdn = r x * group_count g; group = g }

abbrev pub add_pattern : (Add → Op) → String → Pattern
add_pattern op line = record { line = template line; make = λ r. op (add_from r) }

abbrev pub mul_pattern : (Mul → Op) → String → Pattern
mul_pattern op line = record { line = template line; make = λ r. op (mul_from r) }

abbrev pub indexed_pattern : (MulIndexed → Op) → Size → ℕ → ℕ → String → Pattern
indexed_pattern op z m i line = record { line = template line; make = λ r. op (indexed_from z m i r) }

abbrev pub element_pattern : (ByElement → Op) → Size → ((ℕ → ℕ) → Form) → ℕ → ℕ → String → Pattern
element_pattern op z form m i line = record { line = template line; make = λ r. op (element_from z (form r) m i r) }

abbrev pub group_pattern : Group → ℕ → String → Pattern
group_pattern g x line = record { line = template line; make = λ r. Op.Sqdmulh (group_from g x r) }

abbrev pub scalar : (ℕ → ℕ) → Form
scalar r = Form.Scalar

abbrev pub vector_by : ℕ → (ℕ → ℕ) → Form
vector_by x r = vector_of (r x)

abbrev pub patterns : List Pattern
patterns =
    add_pattern Op.Cadd "CADD Zd.t, Zd.t, Zm.t, #s" ∷
    mul_pattern Op.Cmla "CMLA Zd.t, Zn.t, Zm.t, #r" ∷
    indexed_pattern Op.CmlaIndexed Size.H letter_l letter_j "CMLA Zd.H, Zn.H, Zl.H[j], #r" ∷
    indexed_pattern Op.CmlaIndexed Size.S letter_h letter_k "CMLA Zd.S, Zn.S, Zh.S[k], #r" ∷
    add_pattern Op.Sqcadd "SQCADD Zd.t, Zd.t, Zm.t, #s" ∷
    mul_pattern Op.Sqrdcmlah "SQRDCMLAH Zd.t, Zn.t, Zm.t, #r" ∷
    indexed_pattern Op.SqrdcmlahIndexed Size.H letter_l letter_j "SQRDCMLAH Zd.H, Zn.H, Zl.H[j], #r" ∷
    indexed_pattern Op.SqrdcmlahIndexed Size.S letter_h letter_k "SQRDCMLAH Zd.S, Zn.S, Zh.S[k], #r" ∷
    element_pattern Op.Sqrdmlah Size.H scalar letter_h letter_i "SQRDMLAH Hd, Hn, Vh.H[i]" ∷
    element_pattern Op.Sqrdmlah Size.S scalar letter_m letter_j "SQRDMLAH Sd, Sn, Vm.S[j]" ∷
    element_pattern Op.Sqrdmlah Size.H (vector_by letter_q) letter_h letter_i "SQRDMLAH Vd.qH, Vn.qH, Vh.H[i]" ∷
    element_pattern Op.Sqrdmlah Size.S (vector_by letter_p) letter_m letter_j "SQRDMLAH Vd.pS, Vn.pS, Vm.S[j]" ∷
    element_pattern Op.Sqrdmlsh Size.H scalar letter_h letter_i "SQRDMLSH Hd, Hn, Vh.H[i]" ∷
    element_pattern Op.Sqrdmlsh Size.S scalar letter_m letter_j "SQRDMLSH Sd, Sn, Vm.S[j]" ∷
    element_pattern Op.Sqrdmlsh Size.H (vector_by letter_q) letter_h letter_i "SQRDMLSH Vd.qH, Vn.qH, Vh.H[i]" ∷
    element_pattern Op.Sqrdmlsh Size.S (vector_by letter_p) letter_m letter_j "SQRDMLSH Vd.pS, Vn.pS, Vm.S[j]" ∷
    group_pattern Group.Two letter_a "SQDMULH { Za.t-Zb.t }, { Za.t-Zb.t }, Zh.t" ∷
    group_pattern Group.Four letter_e "SQDMULH { Ze.t-Zf.t }, { Ze.t-Zf.t }, Zh.t" ∷ []

abbrev pub pattern_count : ℕ
pattern_count = 18

abbrev pub templates : List (List Item)
templates = map (λ (w : Pattern). w.line) patterns

abbrev pub makers : List ((ℕ → ℕ) → Op)
makers = map (λ (w : Pattern). w.make) patterns

-- ---- the line of an operation

abbrev pub by_form : {A : Type 0} → A → A → Form → A
by_form s v Form.Scalar = s
by_form s v Form.Vector64 = v
by_form s v Form.Vector128 = v

abbrev pub form_bits : Form → ℕ
form_bits Form.Scalar = 0
form_bits Form.Vector64 = 0
form_bits Form.Vector128 = 1

-- its pattern, by place
unfoldable pub pattern_of : Op → ℕ
pattern_of (Op.Cadd a) = 0
pattern_of (Op.Cmla a) = 1
pattern_of (Op.CmlaIndexed a) = by_size 2 3 a.size
pattern_of (Op.Sqcadd a) = 4
pattern_of (Op.Sqrdcmlah a) = 5
pattern_of (Op.SqrdcmlahIndexed a) = by_size 6 7 a.size
pattern_of (Op.Sqrdmlah a) = by_form (by_size 8 9 a.size) (by_size 10 11 a.size) a.form
pattern_of (Op.Sqrdmlsh a) = by_form (by_size 12 13 a.size) (by_size 14 15 a.size) a.form
pattern_of (Op.Sqdmulh a) = by_group 16 17 a.group

abbrev pub no_values : ℕ → ℕ
no_values y = 0

abbrev pub add_values : Add → ℕ → ℕ
add_values a = bind letter_d a.zdn (bind letter_t (size_bits a.size) (bind letter_m a.zm (bind letter_s (add_rotation_bits a.rot) no_values)))

abbrev pub mul_values : Mul → ℕ → ℕ
mul_values a = bind letter_d a.zda (bind letter_t (size_bits a.size) (bind letter_n a.zn (bind letter_m a.zm (bind letter_r (rotation_bits a.rot) no_values))))

abbrev pub indexed_values : ℕ → ℕ → MulIndexed → ℕ → ℕ
indexed_values m i a = bind letter_d a.zda (bind letter_n a.zn (bind m a.zm (bind i a.index (bind letter_r (rotation_bits a.rot) no_values))))

abbrev pub element_values : ℕ → ℕ → ℕ → ByElement → ℕ → ℕ
element_values q m i a = bind letter_d a.rd (bind q (form_bits a.form) (bind letter_n a.rn (bind m a.rm (bind i a.index no_values))))

abbrev pub group_values : ℕ → MulGroup → ℕ → ℕ
group_values x a = bind x (a.zdn / group_count a.group) (bind letter_t (size_bits a.size) (bind letter_h a.zm no_values))

unfoldable pub values_of : Op → ℕ → ℕ
values_of (Op.Cadd a) = add_values a
values_of (Op.Cmla a) = mul_values a
values_of (Op.CmlaIndexed a) = by_size (indexed_values letter_l letter_j) (indexed_values letter_h letter_k) a.size a
values_of (Op.Sqcadd a) = add_values a
values_of (Op.Sqrdcmlah a) = mul_values a
values_of (Op.SqrdcmlahIndexed a) = by_size (indexed_values letter_l letter_j) (indexed_values letter_h letter_k) a.size a
values_of (Op.Sqrdmlah a) = by_size (element_values letter_q letter_h letter_i) (element_values letter_p letter_m letter_j) a.size a
values_of (Op.Sqrdmlsh a) = by_size (element_values letter_q letter_h letter_i) (element_values letter_p letter_m letter_j) a.size a
values_of (Op.Sqdmulh a) = group_values (by_group letter_a letter_e a.group) a

-- the bytes of the longest line
abbrev pub line_max : ℕ
line_max = 47

unfoldable pub line_of : Op → List ℕ
line_of op = fill variables (get_or templates (pattern_of op) []) (values_of op)
