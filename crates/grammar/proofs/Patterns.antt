-- Each pattern: what its values make can be written and has that line; and the values of an operation make it again. Assumes nothing.
use Prim.Native.Nat.{ℕ, zero, suc, ◌+◌, ◌*◌, ◌/◌, ◌%◌, ◌≤◌, ◌<◌}
use mathlib.Core.Path.{◌≡◌, refl, sym, ap, ◌∙◌, subst}
use mathlib.Core.Bool.{true, ◌&&◌}
use mathlib.Core.List.{List, [], ◌∷◌}
use mathlib.Core.Logic.{⊎_elim}
use native.Mathlib.Omega.{arith}
use native.Mathlib.Decide.{ℕ_discrete}
use borrow.Author.Tests.{eq-eqb, eqb-true, le-leb, leb-true}
use lib.Dec.{leb}
use lib.ListN.{get_or}
use Rattle.isa.specs.declared.types.Size.{Size}
use Rattle.isa.specs.declared.types.Rotation.{Rotation}
use Rattle.isa.specs.declared.types.Form.{Form}
use Rattle.isa.specs.declared.types.Add.{Add}
use Rattle.isa.specs.declared.types.Mul.{Mul}
use Rattle.isa.specs.declared.types.MulIndexed.{MulIndexed}
use Rattle.isa.specs.declared.types.ByElement.{ByElement}
use Rattle.isa.specs.declared.types.Group.{Group}
use Rattle.isa.specs.declared.types.MulGroup.{MulGroup}
use Rattle.isa.specs.declared.types.Op.{Op}
use Rattle.isa.specs.Register.{group_count}
use Rattle.isa.specs.Field.{Row}
use Rattle.isa.specs.Table.{cadd, sqcadd, cmla, sqrdcmlah, cmla_h, cmla_s, sqrdcmlah_h, sqrdcmlah_s, sqrdmlah_vector, sqrdmlah_scalar, sqrdmlsh_vector, sqrdmlsh_scalar, sqdmulh_two, sqdmulh_four}
use Rattle.isa.specs.Decode.{size_of, rotation_of, add_rotation_of, vector_of}
use Rattle.isa.specs.Encode.{WriteChecks, write_checks, size_bits, rotation_bits, add_rotation, add_rotation_bits, half_or_single, by_size, add_checks, mul_checks, indexed_checks, element_checks, group_checks}
use Rattle.grammar.specs.Template.{Item, byte, var, fill, Filled, bind}
use Rattle.grammar.specs.Grammar.{variables, templates, pattern_count, slot_of, letter_a, letter_d, letter_e, letter_h, letter_i, letter_j, letter_k, letter_l, letter_m, letter_n, letter_p, letter_q, letter_r, letter_s, letter_t, add_from, mul_from, indexed_from, element_from, group_from, pattern_of, values_of, add_values, mul_values, indexed_values, element_values, group_values, no_values, form_bits, by_form}
use Rattle.grammar.specs.Line.{Writable}
use Rattle.grammar.specs.Read.{make_at}
use Rattle.grammar.proofs.Guess.{and-true, both_true, differ}
use Rattle.grammar.proofs.Follow.{Good, Agrees, bind-here, bind-there}
use Rattle.grammar.proofs.Alphabet.{most, readable}

infixr 5 ◌⨾◌
abbrev pub ◌⨾◌ : {A B : Type 0} → A → B → A × B
◌⨾◌ a b = (a, b)

-- ---- values that are the same at the slots of a template

abbrev Same : List Item → (ℕ → ℕ) → (ℕ → ℕ) → Type 0
Same [] e f = Unit {0}
Same (byte b ∷ t) e f = Same t e f
Same (var x ∷ t) e f = (e (slot_of x) ≡ f (slot_of x)) × Same t e f

fill-same : (t : List Item) (e f : ℕ → ℕ) → Same t e f → fill variables t e ≡ fill variables t f
unfolding variables
fill-same [] e f h = refl
fill-same (byte b ∷ t) e f h = ap (λ (s : List ℕ). b ∷ s) (fill-same t e f h)
fill-same (var x ∷ t) e f h = rw (h.0, fill-same t e f h.1)

-- a slot that was read holds what the operation has there
pub is_set : (r e : ℕ → ℕ) (y : ℕ) → Agrees r e → r y ≤ 99 → r y ≡ e y
is_set r e y a h = ⊎_elim (λ u. absurd (omega arith)) (λ k. k) (a y)

good_none : Good most no_values
good_none y = readable.some y

good-bind : (y v : ℕ) (e : ℕ → ℕ) → v < most y → Good most e → Good most (bind y v e)
good-bind y v e h g z =
    elim (ℕ_discrete z y) [
      | yes p ↦ subst (λ (i : ℕ). bind y v e i < most i) (sym p) (rw (bind-here y v e) h)
      | no p ↦ rw (bind-there y v e z p) (g z)
    ]

-- ---- numbers and names

size_back : (n : ℕ) → n < 4 → size_bits (size_of n) ≡ n
size_back zero h = refl
size_back (suc zero) h = refl
size_back (suc (suc zero)) h = refl
size_back (suc (suc (suc n))) h = omega arith

size-again : (z : Size) → size_of (size_bits z) ≡ z
size-again Size.B = refl
size-again Size.H = refl
size-again Size.S = refl
size-again Size.D = refl

size_low : (z : Size) → size_bits z < 4
size_low Size.B = omega arith
size_low Size.H = omega arith
size_low Size.S = omega arith
size_low Size.D = omega arith

rotation-back : (n : ℕ) → n < 4 → rotation_bits (rotation_of n) ≡ n
rotation-back zero h = refl
rotation-back (suc zero) h = refl
rotation-back (suc (suc zero)) h = refl
rotation-back (suc (suc (suc n))) h = omega arith

rotation-again : (x : Rotation) → rotation_of (rotation_bits x) ≡ x
rotation-again Rotation.R0 = refl
rotation-again Rotation.R90 = refl
rotation-again Rotation.R180 = refl
rotation-again Rotation.R270 = refl

rotation-low : (x : Rotation) → rotation_bits x < 4
rotation-low Rotation.R0 = omega arith
rotation-low Rotation.R90 = omega arith
rotation-low Rotation.R180 = omega arith
rotation-low Rotation.R270 = omega arith

add-rotation-back : (n : ℕ) → n < 2 → add_rotation_bits (add_rotation_of n) ≡ n
add-rotation-back zero h = refl
add-rotation-back (suc n) h = omega arith

add-rotation-again : (x : Rotation) → add_rotation x ≡ true → add_rotation_of (add_rotation_bits x) ≡ x
add-rotation-again Rotation.R0 h = absurd (differ (sym h))
add-rotation-again Rotation.R90 h = refl
add-rotation-again Rotation.R180 h = absurd (differ (sym h))
add-rotation-again Rotation.R270 h = refl

add-rotation-low : (x : Rotation) → add_rotation_bits x < 2
add-rotation-low Rotation.R0 = omega arith
add-rotation-low Rotation.R90 = omega arith
add-rotation-low Rotation.R180 = omega arith
add-rotation-low Rotation.R270 = omega arith

add-rotation-is : (n : ℕ) → add_rotation (add_rotation_of n) ≡ true
add-rotation-is zero = refl
add-rotation-is (suc n) = refl

vector-back : (n : ℕ) → n < 2 → form_bits (vector_of n) ≡ n
vector-back zero h = refl
vector-back (suc n) h = omega arith

two_in : (a b m n : ℕ) → a ≤ m → b ≤ n → (leb a m && leb b n) ≡ true
two_in a b m n h k = both_true (leb a m) (leb b n) (le-leb a m h) (le-leb b n k)

three-in : (a m b c : ℕ) → a ≤ m → b ≤ 31 → c ≤ 31 → (leb a m && (leb b 31 && leb c 31)) ≡ true
three-in a m b c h k l = both_true (leb a m) (leb b 31 && leb c 31) (le-leb a m h) (two_in b c 31 31 k l)

pub record Three (a m b c : ℕ) : Type 0 where
  pub first : a ≤ m
  pub second : b ≤ 31
  pub third : c ≤ 31

in_three : (a m b c : ℕ) → (leb a m && (leb b 31 && leb c 31)) ≡ true → Three a m b c
in_three a m b c h =
    let p = and-true (leb a m) (leb b 31 && leb c 31) h in
    let q = and-true (leb b 31) (leb c 31) p.1 in
    record { first = leb-true a m p.0; second = leb-true b 31 q.0; third = leb-true c 31 q.1 }

-- ---- what a pattern's values make, and what the values of an operation make

pub record Makes (t : List Item) (p : ℕ) (op : Op) (r : ℕ → ℕ) : Type 0 where
  pub writable : Writable op
  pub pattern : pattern_of op ≡ p
  pub text : fill variables t (values_of op) ≡ fill variables t r

-- by a pattern and its values
pub record RemakesBy (op : Op) (p : ℕ) (v : ℕ → ℕ) : Type 0 where
  pub good : Good most v
  pub within : p < pattern_count
  pub again : (r : ℕ → ℕ) → Agrees r v → Filled variables (get_or templates p []) r → make_at p r ≡ op

abbrev pub Remakes : Op → Type 0
Remakes op = RemakesBy op (pattern_of op) (values_of op)

-- ---- CADD, SQCADD

add-makes : (t : List Item) (p : ℕ) (op : Op) (row : Row) (r : ℕ → ℕ) → write_checks op ≡ add_checks row (add_from r) → pattern_of op ≡ p → values_of op ≡ add_values (add_from r)
    → r letter_d < 32 → r letter_t < 4 → r letter_m < 32 → r letter_s < 2
    → ((e : ℕ → ℕ) → e letter_d ≡ r letter_d → e letter_t ≡ r letter_t → e letter_m ≡ r letter_m → e letter_s ≡ r letter_s → Same t e r) → Makes t p op r
add-makes t p op row r e f g d z m s same =
    record {
      writable = record {
        size = ap (λ (k : WriteChecks). k.size) e;
        rotation = ap (λ (k : WriteChecks). k.rotation) e ∙ add-rotation-is (r letter_s);
        registers = ap (λ (k : WriteChecks). k.registers) e ∙ two_in (r letter_m) (r letter_d) 31 31 (omega arith) (omega arith);
        start = ap (λ (k : WriteChecks). k.start) e;
        index = ap (λ (k : WriteChecks). k.index) e;
      };
      pattern = f;
      text = ap (fill variables t) g ∙ fill-same t (add_values (add_from r)) r (same (add_values (add_from r)) refl (size_back (r letter_t) z) refl (add-rotation-back (r letter_s) s));
    }

module _ (op : Op) (row : Row) (a : Add) (e : write_checks op ≡ add_checks row a) (w : Writable op) where
  pub add-good : Good most (add_values a)
  add-good =
      let p = and-true (leb a.zm 31) (leb a.zdn 31) (sym (ap (λ (k : WriteChecks). k.registers) e) ∙ w.registers) in
      let m : a.zm ≤ 31 = leb-true a.zm 31 p.0 in
      let d : a.zdn ≤ 31 = leb-true a.zdn 31 p.1 in
      good-bind letter_d a.zdn _ (omega arith)
      (good-bind letter_t (size_bits a.size) _ (size_low a.size)
      (good-bind letter_m a.zm _ (omega arith)
      (good-bind letter_s (add_rotation_bits a.rot) no_values (add-rotation-low a.rot) good_none)))

  pub add-again : (r : ℕ → ℕ) → Agrees r (add_values a) → r letter_d < 32 → r letter_t < 4 → r letter_m < 32 → r letter_s < 2 → add_from r ≡ a
  add-again r g d t m s =
      let size : size_of (r letter_t) ≡ a.size = ap size_of (is_set r (add_values a) letter_t g (omega arith)) ∙ size-again a.size in
      let rot : add_rotation_of (r letter_s) ≡ a.rot = ap add_rotation_of (is_set r (add_values a) letter_s g (omega arith)) ∙ add-rotation-again a.rot (sym (ap (λ (k : WriteChecks). k.rotation) e) ∙ w.rotation) in
      let zm : r letter_m ≡ a.zm = is_set r (add_values a) letter_m g (omega arith) in
      let zdn : r letter_d ≡ a.zdn = is_set r (add_values a) letter_d g (omega arith) in
      λ i. record { size = size i; zm = zm i; zdn = zdn i; rot = rot i }

-- ---- CMLA, SQRDCMLAH

mul-makes : (t : List Item) (p : ℕ) (op : Op) (row : Row) (r : ℕ → ℕ) → write_checks op ≡ mul_checks row (mul_from r) → pattern_of op ≡ p → values_of op ≡ mul_values (mul_from r)
    → r letter_d < 32 → r letter_t < 4 → r letter_n < 32 → r letter_m < 32 → r letter_r < 4
    → ((e : ℕ → ℕ) → e letter_d ≡ r letter_d → e letter_t ≡ r letter_t → e letter_n ≡ r letter_n → e letter_m ≡ r letter_m → e letter_r ≡ r letter_r → Same t e r) → Makes t p op r
mul-makes t p op row r e f g d z n m s same =
    record {
      writable = record {
        size = ap (λ (k : WriteChecks). k.size) e;
        rotation = ap (λ (k : WriteChecks). k.rotation) e;
        registers = ap (λ (k : WriteChecks). k.registers) e ∙ three-in (r letter_m) 31 (r letter_n) (r letter_d) (omega arith) (omega arith) (omega arith);
        start = ap (λ (k : WriteChecks). k.start) e;
        index = ap (λ (k : WriteChecks). k.index) e;
      };
      pattern = f;
      text = ap (fill variables t) g ∙ fill-same t (mul_values (mul_from r)) r (same (mul_values (mul_from r)) refl (size_back (r letter_t) z) refl refl (rotation-back (r letter_r) s));
    }

module _ (op : Op) (row : Row) (a : Mul) (e : write_checks op ≡ mul_checks row a) (w : Writable op) where
  pub mul-good : Good most (mul_values a)
  mul-good =
      let p = in_three a.zm 31 a.zn a.zda (sym (ap (λ (k : WriteChecks). k.registers) e) ∙ w.registers) in
      good-bind letter_d a.zda _ (omega (arith, p.third))
      (good-bind letter_t (size_bits a.size) _ (size_low a.size)
      (good-bind letter_n a.zn _ (omega (arith, p.second))
      (good-bind letter_m a.zm _ (omega (arith, p.first))
      (good-bind letter_r (rotation_bits a.rot) no_values (rotation-low a.rot) good_none))))

  pub mul-again : (r : ℕ → ℕ) → Agrees r (mul_values a) → r letter_d < 32 → r letter_t < 4 → r letter_n < 32 → r letter_m < 32 → r letter_r < 4 → mul_from r ≡ a
  mul-again r g d t n m s =
      let size : size_of (r letter_t) ≡ a.size = ap size_of (is_set r (mul_values a) letter_t g (omega arith)) ∙ size-again a.size in
      let rot : rotation_of (r letter_r) ≡ a.rot = ap rotation_of (is_set r (mul_values a) letter_r g (omega arith)) ∙ rotation-again a.rot in
      let zm : r letter_m ≡ a.zm = is_set r (mul_values a) letter_m g (omega arith) in
      let zn : r letter_n ≡ a.zn = is_set r (mul_values a) letter_n g (omega arith) in
      let zda : r letter_d ≡ a.zda = is_set r (mul_values a) letter_d g (omega arith) in
      λ i. record { size = size i; zm = zm i; zn = zn i; zda = zda i; rot = rot i }

-- ---- CMLA, SQRDCMLAH indexed: a size, and the letters of the second source and of the index

indexed-makes : (t : List Item) (p : ℕ) (op : Op) (h s : Row) (z : Size) (m i : ℕ) (r : ℕ → ℕ) → write_checks op ≡ indexed_checks h s (indexed_from z m i r) → pattern_of op ≡ p → values_of op ≡ indexed_values m i (indexed_from z m i r)
    → half_or_single z ≡ true → r letter_d < 32 → r letter_n < 32 → r m ≤ by_size 7 15 z → r i ≤ by_size 3 1 z → Same t (indexed_values m i (indexed_from z m i r)) r → Makes t p op r
indexed-makes t p op h s z m i r e f g k d n l j same =
    record {
      writable = record {
        size = ap (λ (k : WriteChecks). k.size) e ∙ k;
        rotation = ap (λ (k : WriteChecks). k.rotation) e;
        registers = ap (λ (k : WriteChecks). k.registers) e ∙ three-in (r m) (by_size 7 15 z) (r letter_n) (r letter_d) l (omega arith) (omega arith);
        start = ap (λ (k : WriteChecks). k.start) e;
        index = ap (λ (k : WriteChecks). k.index) e ∙ le-leb (r i) (by_size 3 1 z) j;
      };
      pattern = f;
      text = ap (fill variables t) g ∙ fill-same t (indexed_values m i (indexed_from z m i r)) r same;
    }

pub record IndexedIn (a : MulIndexed) : Type 0 where
  pub registers : Three a.zm (by_size 7 15 a.size) a.zn a.zda
  pub index : a.index ≤ by_size 3 1 a.size

pub indexed-in : (op : Op) (h s : Row) (a : MulIndexed) → write_checks op ≡ indexed_checks h s a → Writable op → IndexedIn a
indexed-in op h s a e w =
    record {
      registers = in_three a.zm (by_size 7 15 a.size) a.zn a.zda (sym (ap (λ (k : WriteChecks). k.registers) e) ∙ w.registers);
      index = leb-true a.index (by_size 3 1 a.size) (sym (ap (λ (k : WriteChecks). k.index) e) ∙ w.index);
    }

pub indexed-good : (m i : ℕ) (a : MulIndexed) → IndexedIn a → a.zm < most m → a.index < most i → Good most (indexed_values m i a)
indexed-good m i a p l j =
    good-bind letter_d a.zda _ (omega (arith, p.registers.third))
    (good-bind letter_n a.zn _ (omega (arith, p.registers.second))
    (good-bind m a.zm _ l
    (good-bind i a.index _ j
    (good-bind letter_r (rotation_bits a.rot) no_values (rotation-low a.rot) good_none))))

pub indexed-again : (m i : ℕ) (a : MulIndexed) → indexed_values m i a m ≡ a.zm → indexed_values m i a i ≡ a.index → indexed_values m i a letter_r ≡ rotation_bits a.rot
    → (r : ℕ → ℕ) → Agrees r (indexed_values m i a) → r letter_d < 32 → r letter_n < 32 → r m < 32 → r i < 32 → r letter_r < 4 → indexed_from a.size m i r ≡ a
indexed-again m i a em ei er r g d n l j s =
    let rot : rotation_of (r letter_r) ≡ a.rot = ap rotation_of (is_set r (indexed_values m i a) letter_r g (omega arith) ∙ er) ∙ rotation-again a.rot in
    let zm : r m ≡ a.zm = is_set r (indexed_values m i a) m g (omega arith) ∙ em in
    let index : r i ≡ a.index = is_set r (indexed_values m i a) i g (omega arith) ∙ ei in
    let zn : r letter_n ≡ a.zn = is_set r (indexed_values m i a) letter_n g (omega arith) in
    let zda : r letter_d ≡ a.zda = is_set r (indexed_values m i a) letter_d g (omega arith) in
    λ x. record { size = a.size; zm = zm x; index = index x; zn = zn x; zda = zda x; rot = rot x }

-- ---- SQRDMLAH, SQRDMLSH: a size, a form, and the letters of the form, of the second source and of the index

element-makes : (t : List Item) (p : ℕ) (op : Op) (s v : Row) (z : Size) (f : Form) (q m i : ℕ) (r : ℕ → ℕ) → write_checks op ≡ element_checks s v (element_from z f m i r) → pattern_of op ≡ p → values_of op ≡ element_values q m i (element_from z f m i r)
    → half_or_single z ≡ true → r letter_d < 32 → r letter_n < 32 → r m ≤ by_size 15 31 z → r i ≤ by_size 7 3 z → Same t (element_values q m i (element_from z f m i r)) r → Makes t p op r
element-makes t p op s v z f q m i r e o g k d n l j same =
    record {
      writable = record {
        size = ap (λ (k : WriteChecks). k.size) e ∙ k;
        rotation = ap (λ (k : WriteChecks). k.rotation) e;
        registers = ap (λ (k : WriteChecks). k.registers) e ∙ three-in (r m) (by_size 15 31 z) (r letter_n) (r letter_d) l (omega arith) (omega arith);
        start = ap (λ (k : WriteChecks). k.start) e;
        index = ap (λ (k : WriteChecks). k.index) e ∙ le-leb (r i) (by_size 7 3 z) j;
      };
      pattern = o;
      text = ap (fill variables t) g ∙ fill-same t (element_values q m i (element_from z f m i r)) r same;
    }

pub record ElementIn (a : ByElement) : Type 0 where
  pub registers : Three a.rm (by_size 15 31 a.size) a.rn a.rd
  pub index : a.index ≤ by_size 7 3 a.size

pub element-in : (op : Op) (s v : Row) (a : ByElement) → write_checks op ≡ element_checks s v a → Writable op → ElementIn a
element-in op s v a e w =
    record {
      registers = in_three a.rm (by_size 15 31 a.size) a.rn a.rd (sym (ap (λ (k : WriteChecks). k.registers) e) ∙ w.registers);
      index = leb-true a.index (by_size 7 3 a.size) (sym (ap (λ (k : WriteChecks). k.index) e) ∙ w.index);
    }

form-low : (f : Form) → form_bits f < 2
form-low Form.Scalar = omega arith
form-low Form.Vector64 = omega arith
form-low Form.Vector128 = omega arith

pub element-good : (q m i : ℕ) (a : ByElement) → ElementIn a → most q ≡ 2 → a.rm < most m → a.index < most i → Good most (element_values q m i a)
element-good q m i a p two l j =
    good-bind letter_d a.rd _ (omega (arith, p.registers.third))
    (good-bind q (form_bits a.form) _ (rw two (form-low a.form))
    (good-bind letter_n a.rn _ (omega (arith, p.registers.second))
    (good-bind m a.rm _ l
    (good-bind i a.index no_values j good_none))))

pub element-again : (q m i : ℕ) (a : ByElement) → element_values q m i a letter_n ≡ a.rn → element_values q m i a m ≡ a.rm → element_values q m i a i ≡ a.index
    → (r : ℕ → ℕ) → Agrees r (element_values q m i a) → r letter_d < 32 → r letter_n < 32 → r m < 32 → r i < 32 → (f : Form) → f ≡ a.form → element_from a.size f m i r ≡ a
element-again q m i a en em ei r g d n l j f form =
    let rm : r m ≡ a.rm = is_set r (element_values q m i a) m g (omega arith) ∙ em in
    let index : r i ≡ a.index = is_set r (element_values q m i a) i g (omega arith) ∙ ei in
    let rn : r letter_n ≡ a.rn = is_set r (element_values q m i a) letter_n g (omega arith) ∙ en in
    let rd : r letter_d ≡ a.rd = is_set r (element_values q m i a) letter_d g (omega arith) in
    λ x. record { size = a.size; rm = rm x; index = index x; rn = rn x; rd = rd x; form = form x }

-- ---- SQDMULH: a group, and its letter

group-makes : (t : List Item) (p : ℕ) (g : Group) (x : ℕ) (r : ℕ → ℕ) → write_checks (Op.Sqdmulh (group_from g x r)) ≡ group_checks sqdmulh_two sqdmulh_four (group_from g x r) → pattern_of (Op.Sqdmulh (group_from g x r)) ≡ p
    → values_of (Op.Sqdmulh (group_from g x r)) ≡ group_values x (group_from g x r) → r letter_h < 16 → r x * group_count g ≤ 31 → r x * group_count g % group_count g ≡ 0
    → Same t (group_values x (group_from g x r)) r → Makes t p (Op.Sqdmulh (group_from g x r)) r
group-makes t p g x r e f v m d z same =
    record {
      writable = record {
        size = ap (λ (k : WriteChecks). k.size) e;
        rotation = ap (λ (k : WriteChecks). k.rotation) e;
        registers = ap (λ (k : WriteChecks). k.registers) e ∙ two_in (r letter_h) (r x * group_count g) 15 31 (omega arith) d;
        start = ap (λ (k : WriteChecks). k.start) e ∙ eq-eqb (r x * group_count g % group_count g) 0 z;
        index = ap (λ (k : WriteChecks). k.index) e;
      };
      pattern = f;
      text = ap (fill variables t) v ∙ fill-same t (group_values x (group_from g x r)) r same;
    }

pub record GroupIn (a : MulGroup) : Type 0 where
  pub second : a.zm ≤ 15
  pub first : a.zdn ≤ 31
  pub start : a.zdn % group_count a.group ≡ 0

pub group-in : (a : MulGroup) → write_checks (Op.Sqdmulh a) ≡ group_checks sqdmulh_two sqdmulh_four a → Writable (Op.Sqdmulh a) → GroupIn a
group-in a e w =
    let p = and-true (leb a.zm 15) (leb a.zdn 31) (sym (ap (λ (k : WriteChecks). k.registers) e) ∙ w.registers) in
    record {
      second = leb-true a.zm 15 p.0;
      first = leb-true a.zdn 31 p.1;
      start = eqb-true (a.zdn % group_count a.group) 0 (sym (ap (λ (k : WriteChecks). k.start) e) ∙ w.start);
    }

pub group-good : (x : ℕ) (a : MulGroup) → GroupIn a → a.zdn / group_count a.group < most x → Good most (group_values x a)
group-good x a p l =
    good-bind x (a.zdn / group_count a.group) _ l
    (good-bind letter_t (size_bits a.size) _ (size_low a.size)
    (good-bind letter_h a.zm no_values (omega (arith, p.second)) good_none))

pub group-again : (x : ℕ) (a : MulGroup) → group_values x a letter_t ≡ size_bits a.size → group_values x a letter_h ≡ a.zm → a.zdn / group_count a.group * group_count a.group ≡ a.zdn
    → (r : ℕ → ℕ) → Agrees r (group_values x a) → r x < 32 → r letter_t < 4 → r letter_h < 16 → group_from a.group x r ≡ a
group-again x a et eh whole r g d t m =
    let size : size_of (r letter_t) ≡ a.size = ap size_of (is_set r (group_values x a) letter_t g (omega arith) ∙ et) ∙ size-again a.size in
    let zm : r letter_h ≡ a.zm = is_set r (group_values x a) letter_h g (omega arith) ∙ eh in
    let place : group_values x a x ≡ a.zdn / group_count a.group = rw (eq-eqb x x refl) in
    let zdn : r x * group_count a.group ≡ a.zdn = ap (λ (v : ℕ). v * group_count a.group) (is_set r (group_values x a) x g (omega arith) ∙ place) ∙ whole in
    λ i. record { size = size i; zm = zm i; zdn = zdn i; group = a.group }

-- ---- the patterns

-- so many in a row, from one on
abbrev pub Each : (ℕ → Type 0) → ℕ → ℕ → Type 0
Each X i zero = Unit {0}
Each X i (suc n) = X i × Each X (suc i) n

pub each_at : (X : ℕ → Type 0) (i n : ℕ) → Each X i n → (p : ℕ) → p < n → X (i + p)
each_at X i zero e p h = absurd (omega arith)
each_at X i (suc n) e zero h = subst X (omega arith) e.0
each_at X i (suc n) e (suc p) h = subst X (omega arith) (each_at X (suc i) n e.1 p (omega arith))

by-vector : (s v n : ℕ) → by_form s v (vector_of n) ≡ v
by-vector s v zero = refl
by-vector s v (suc n) = refl

abbrev pub RowMakes : ℕ → Type 0
RowMakes p = (r : ℕ → ℕ) → Filled variables (get_or templates p []) r → Makes (get_or templates p []) p (make_at p r) r

pattern-0 : RowMakes 0
unfolding write_checks pattern_of values_of variables
pattern-0 r f = add-makes (get_or templates 0 []) 0 (make_at 0 r) cadd r refl refl refl f.0 f.1.0 f.1.1.1.1.0 f.1.1.1.1.1.1.0 (λ e d t m s. d ⨾ t ⨾ d ⨾ t ⨾ m ⨾ t ⨾ s ⨾ tt)

pattern-1 : RowMakes 1
unfolding write_checks pattern_of values_of variables
pattern-1 r f = mul-makes (get_or templates 1 []) 1 (make_at 1 r) cmla r refl refl refl f.0 f.1.0 f.1.1.0 f.1.1.1.1.0 f.1.1.1.1.1.1.0 (λ e d t n m s. d ⨾ t ⨾ n ⨾ t ⨾ m ⨾ t ⨾ s ⨾ tt)

pattern-2 : RowMakes 2
unfolding write_checks pattern_of values_of variables
pattern-2 r f = indexed-makes (get_or templates 2 []) 2 (make_at 2 r) cmla_h cmla_s Size.H letter_l letter_j r refl refl refl refl f.0 f.1.0 (omega (arith, f.1.1.0)) (omega (arith, f.1.1.1.0)) (refl ⨾ refl ⨾ refl ⨾ refl ⨾ rotation-back (r letter_r) f.1.1.1.1.0 ⨾ tt)

pattern-3 : RowMakes 3
unfolding write_checks pattern_of values_of variables
pattern-3 r f = indexed-makes (get_or templates 3 []) 3 (make_at 3 r) cmla_h cmla_s Size.S letter_h letter_k r refl refl refl refl f.0 f.1.0 (omega (arith, f.1.1.0)) (omega (arith, f.1.1.1.0)) (refl ⨾ refl ⨾ refl ⨾ refl ⨾ rotation-back (r letter_r) f.1.1.1.1.0 ⨾ tt)

pattern-4 : RowMakes 4
unfolding write_checks pattern_of values_of variables
pattern-4 r f = add-makes (get_or templates 4 []) 4 (make_at 4 r) sqcadd r refl refl refl f.0 f.1.0 f.1.1.1.1.0 f.1.1.1.1.1.1.0 (λ e d t m s. d ⨾ t ⨾ d ⨾ t ⨾ m ⨾ t ⨾ s ⨾ tt)

pattern-5 : RowMakes 5
unfolding write_checks pattern_of values_of variables
pattern-5 r f = mul-makes (get_or templates 5 []) 5 (make_at 5 r) sqrdcmlah r refl refl refl f.0 f.1.0 f.1.1.0 f.1.1.1.1.0 f.1.1.1.1.1.1.0 (λ e d t n m s. d ⨾ t ⨾ n ⨾ t ⨾ m ⨾ t ⨾ s ⨾ tt)

pattern-6 : RowMakes 6
unfolding write_checks pattern_of values_of variables
pattern-6 r f = indexed-makes (get_or templates 6 []) 6 (make_at 6 r) sqrdcmlah_h sqrdcmlah_s Size.H letter_l letter_j r refl refl refl refl f.0 f.1.0 (omega (arith, f.1.1.0)) (omega (arith, f.1.1.1.0)) (refl ⨾ refl ⨾ refl ⨾ refl ⨾ rotation-back (r letter_r) f.1.1.1.1.0 ⨾ tt)

pattern-7 : RowMakes 7
unfolding write_checks pattern_of values_of variables
pattern-7 r f = indexed-makes (get_or templates 7 []) 7 (make_at 7 r) sqrdcmlah_h sqrdcmlah_s Size.S letter_h letter_k r refl refl refl refl f.0 f.1.0 (omega (arith, f.1.1.0)) (omega (arith, f.1.1.1.0)) (refl ⨾ refl ⨾ refl ⨾ refl ⨾ rotation-back (r letter_r) f.1.1.1.1.0 ⨾ tt)

pattern-8 : RowMakes 8
unfolding write_checks pattern_of values_of variables
pattern-8 r f = element-makes (get_or templates 8 []) 8 (make_at 8 r) sqrdmlah_scalar sqrdmlah_vector Size.H Form.Scalar letter_q letter_h letter_i r refl refl refl refl f.0 f.1.0 (omega (arith, f.1.1.0)) (omega (arith, f.1.1.1.0)) (refl ⨾ refl ⨾ refl ⨾ refl ⨾ tt)

pattern-9 : RowMakes 9
unfolding write_checks pattern_of values_of variables
pattern-9 r f = element-makes (get_or templates 9 []) 9 (make_at 9 r) sqrdmlah_scalar sqrdmlah_vector Size.S Form.Scalar letter_p letter_m letter_j r refl refl refl refl f.0 f.1.0 (omega (arith, f.1.1.0)) (omega (arith, f.1.1.1.0)) (refl ⨾ refl ⨾ refl ⨾ refl ⨾ tt)

pattern-10 : RowMakes 10
unfolding write_checks pattern_of values_of variables
pattern-10 r f =
    let b = vector-back (r letter_q) f.1.0 in
    element-makes (get_or templates 10 []) 10 (make_at 10 r) sqrdmlah_scalar sqrdmlah_vector Size.H (vector_of (r letter_q)) letter_q letter_h letter_i r refl (by-vector _ 10 (r letter_q)) refl refl f.0 f.1.1.0 (omega (arith, f.1.1.1.1.0)) (omega (arith, f.1.1.1.1.1.0)) (refl ⨾ b ⨾ refl ⨾ b ⨾ refl ⨾ refl ⨾ tt)

pattern-11 : RowMakes 11
unfolding write_checks pattern_of values_of variables
pattern-11 r f =
    let b = vector-back (r letter_p) f.1.0 in
    element-makes (get_or templates 11 []) 11 (make_at 11 r) sqrdmlah_scalar sqrdmlah_vector Size.S (vector_of (r letter_p)) letter_p letter_m letter_j r refl (by-vector _ 11 (r letter_p)) refl refl f.0 f.1.1.0 (omega (arith, f.1.1.1.1.0)) (omega (arith, f.1.1.1.1.1.0)) (refl ⨾ b ⨾ refl ⨾ b ⨾ refl ⨾ refl ⨾ tt)

pattern-12 : RowMakes 12
unfolding write_checks pattern_of values_of variables
pattern-12 r f = element-makes (get_or templates 12 []) 12 (make_at 12 r) sqrdmlsh_scalar sqrdmlsh_vector Size.H Form.Scalar letter_q letter_h letter_i r refl refl refl refl f.0 f.1.0 (omega (arith, f.1.1.0)) (omega (arith, f.1.1.1.0)) (refl ⨾ refl ⨾ refl ⨾ refl ⨾ tt)

pattern-13 : RowMakes 13
unfolding write_checks pattern_of values_of variables
pattern-13 r f = element-makes (get_or templates 13 []) 13 (make_at 13 r) sqrdmlsh_scalar sqrdmlsh_vector Size.S Form.Scalar letter_p letter_m letter_j r refl refl refl refl f.0 f.1.0 (omega (arith, f.1.1.0)) (omega (arith, f.1.1.1.0)) (refl ⨾ refl ⨾ refl ⨾ refl ⨾ tt)

pattern-14 : RowMakes 14
unfolding write_checks pattern_of values_of variables
pattern-14 r f =
    let b = vector-back (r letter_q) f.1.0 in
    element-makes (get_or templates 14 []) 14 (make_at 14 r) sqrdmlsh_scalar sqrdmlsh_vector Size.H (vector_of (r letter_q)) letter_q letter_h letter_i r refl (by-vector _ 14 (r letter_q)) refl refl f.0 f.1.1.0 (omega (arith, f.1.1.1.1.0)) (omega (arith, f.1.1.1.1.1.0)) (refl ⨾ b ⨾ refl ⨾ b ⨾ refl ⨾ refl ⨾ tt)

pattern-15 : RowMakes 15
unfolding write_checks pattern_of values_of variables
pattern-15 r f =
    let b = vector-back (r letter_p) f.1.0 in
    element-makes (get_or templates 15 []) 15 (make_at 15 r) sqrdmlsh_scalar sqrdmlsh_vector Size.S (vector_of (r letter_p)) letter_p letter_m letter_j r refl (by-vector _ 15 (r letter_p)) refl refl f.0 f.1.1.0 (omega (arith, f.1.1.1.1.0)) (omega (arith, f.1.1.1.1.1.0)) (refl ⨾ b ⨾ refl ⨾ b ⨾ refl ⨾ refl ⨾ tt)

pattern-16 : RowMakes 16
unfolding write_checks pattern_of values_of variables
pattern-16 r f =
    let z = size_back (r letter_t) f.1.0 in
    let d : r letter_a * 2 / 2 ≡ r letter_a = omega arith in
    group-makes (get_or templates 16 []) 16 Group.Two letter_a r refl refl refl f.1.1.1.1.1.1.1.1.0 (omega (arith, f.0)) (omega arith) (d ⨾ z ⨾ d ⨾ z ⨾ d ⨾ z ⨾ d ⨾ z ⨾ refl ⨾ z ⨾ tt)

pattern-17 : RowMakes 17
unfolding write_checks pattern_of values_of variables
pattern-17 r f =
    let z = size_back (r letter_t) f.1.0 in
    let d : r letter_e * 4 / 4 ≡ r letter_e = omega arith in
    group-makes (get_or templates 17 []) 17 Group.Four letter_e r refl refl refl f.1.1.1.1.1.1.1.1.0 (omega (arith, f.0)) (omega arith) (d ⨾ z ⨾ d ⨾ z ⨾ d ⨾ z ⨾ d ⨾ z ⨾ refl ⨾ z ⨾ tt)

pub pattern-makes : (p : ℕ) → p < pattern_count → RowMakes p
pattern-makes p h = subst RowMakes (omega arith) (each_at RowMakes 0 pattern_count (pattern-0 ⨾ pattern-1 ⨾ pattern-2 ⨾ pattern-3 ⨾ pattern-4 ⨾ pattern-5 ⨾ pattern-6 ⨾ pattern-7 ⨾ pattern-8 ⨾ pattern-9 ⨾ pattern-10 ⨾ pattern-11 ⨾ pattern-12 ⨾ pattern-13 ⨾ pattern-14 ⨾ pattern-15 ⨾ pattern-16 ⨾ pattern-17 ⨾ tt) p h)
