-- Each family's word and operation, over the base of its row.
-- `..-back`: the operation that a word of the row is passes every check, and its word is that word.
-- `..-read`: a word that is written of an operation matches the row, and is that operation. Assumes nothing.
use Prim.Native.Nat.{ℕ, zero, suc, ◌+◌, ◌*◌, ◌/◌, ◌%◌, ◌^◌, ◌<◌}
use mathlib.Core.Path.{◌≡◌, refl, sym, ap, ◌∙◌, subst}
use mathlib.Core.List.{List, [], ◌∷◌}
use mathlib.Core.Bool.{Bool, true, false, ◌&&◌}
use native.Mathlib.Omega.{arith}
use native.Mathlib.Nat.{mod-lt}
use borrow.Author.Tests.{le-leb, leb-true, eq-eqb, eqb-true}
use lib.Dec.{leb, eqb}
use lib.ListN.{get_or}
use lib.Pow.{pow_pos}
use Rattle.isa.specs.declared.types.Size.{Size}
use Rattle.isa.specs.declared.types.Rotation.{Rotation}
use Rattle.isa.specs.declared.types.Form.{Form}
use Rattle.isa.specs.declared.types.Add.{Add}
use Rattle.isa.specs.declared.types.Mul.{Mul}
use Rattle.isa.specs.declared.types.MulIndexed.{MulIndexed}
use Rattle.isa.specs.declared.types.ByElement.{ByElement}
use Rattle.isa.specs.declared.types.Group.{Group}
use Rattle.isa.specs.declared.types.MulGroup.{MulGroup}
use Rattle.isa.specs.declared.types.Op.{Op}
use Rattle.isa.specs.declared.types.Decoded.{Decoded}
use Rattle.isa.specs.Field.{Field, Row, width, field_value, field_values, row_word}
use Rattle.isa.specs.Table.{size, rot1, rot2, ZmAdd, ZmMul, Zdn, Zda, Zn, Rn, Rd, Rm, H, L, M, add_row, mul_row, indexed_row, scalar_row, vector_row, element_row_fields, ZmGroup, group_row}
use Rattle.isa.specs.Register.{by_group, group_count}
use Rattle.isa.specs.Decode.{size_of, rotation_of, add_rotation_of, add_of, mul_of, indexed_of, element_of, element_h, element_s, group_of}
use Rattle.isa.specs.Encode.{size_bits, rotation_bits, add_rotation, add_rotation_bits, half_or_single, by_size, add_checks, mul_checks, indexed_checks, form_word, element_fields_of, element_checks, group_checks}
use Rattle.isa.proofs.Fields.{sound, Of, Fit, and_left, and_right, fields-written, of-written}
use Rattle.isa.proofs.Checks.{ChecksPassed}

-- ---- the numbers of sizes and rotations

size-bits-of : (n : ℕ) → n < 4 → size_bits (size_of n) ≡ n
size-bits-of zero h = refl
size-bits-of (suc zero) h = refl
size-bits-of (suc (suc zero)) h = refl
size-bits-of (suc (suc (suc n))) h = omega arith

size_of_bits : (z : Size) → size_of (size_bits z) ≡ z
size_of_bits Size.B = refl
size_of_bits Size.H = refl
size_of_bits Size.S = refl
size_of_bits Size.D = refl

size-lt : (z : Size) → size_bits z < 4
size-lt Size.B = omega arith
size-lt Size.H = omega arith
size-lt Size.S = omega arith
size-lt Size.D = omega arith

rotation-bits-of : (n : ℕ) → n < 4 → rotation_bits (rotation_of n) ≡ n
rotation-bits-of zero h = refl
rotation-bits-of (suc zero) h = refl
rotation-bits-of (suc (suc zero)) h = refl
rotation-bits-of (suc (suc (suc n))) h = omega arith

rotation-of-bits : (r : Rotation) → rotation_of (rotation_bits r) ≡ r
rotation-of-bits Rotation.R0 = refl
rotation-of-bits Rotation.R90 = refl
rotation-of-bits Rotation.R180 = refl
rotation-of-bits Rotation.R270 = refl

rotation-lt : (r : Rotation) → rotation_bits r < 4
rotation-lt Rotation.R0 = omega arith
rotation-lt Rotation.R90 = omega arith
rotation-lt Rotation.R180 = omega arith
rotation-lt Rotation.R270 = omega arith

add-rotation-has : (n : ℕ) → add_rotation (add_rotation_of n) ≡ true
add-rotation-has zero = refl
add-rotation-has (suc n) = refl

add-rotation-bits-of : (n : ℕ) → n < 2 → add_rotation_bits (add_rotation_of n) ≡ n
add-rotation-bits-of zero h = refl
add-rotation-bits-of (suc n) h = omega arith

add-rotation-of-bits : (r : Rotation) → add_rotation r ≡ true → add_rotation_of (add_rotation_bits r) ≡ r
add-rotation-of-bits Rotation.R0 h = cc
add-rotation-of-bits Rotation.R90 h = refl
add-rotation-of-bits Rotation.R180 h = cc
add-rotation-of-bits Rotation.R270 h = refl

add-rotation-lt : (r : Rotation) → add_rotation_bits r < 2
add-rotation-lt Rotation.R0 = omega arith
add-rotation-lt Rotation.R90 = omega arith
add-rotation-lt Rotation.R180 = omega arith
add-rotation-lt Rotation.R270 = omega arith

-- ---- limits

pub no_such : false ≡ true → ⊥
no_such h = let z : ◌≡◌ {A = ℕ} 0 1 = cc in omega arith

and-true : (a b : Bool) → a ≡ true → b ≡ true → (a && b) ≡ true
and-true a b p q = rw (p, q)

-- a field's number is at most what its width allows
field-le : (f : Field) (w limit : ℕ) → 2 ^ width f ≡ suc limit → leb (field_value f w) limit ≡ true
field-le f w limit e = le-leb (field_value f w) limit (let h = mod-lt (w / 2 ^ f.low) (pow_pos (width f)) in omega arith)

within : (x limit bound : ℕ) → bound ≡ suc limit → leb x limit ≡ true → x < bound
within x limit bound e h = let l = leb-true x limit h in omega arith

-- the second source within its limit, and two more registers
pub record Registers (second limit n d : ℕ) : Type 0 where
  pub second-in : leb second limit ≡ true
  pub n-in : n < 32
  pub d-in : d < 32

pub registers-in : (second limit n d : ℕ) → (leb second limit && (leb n 31 && leb d 31)) ≡ true → Registers second limit n d
registers-in second limit n d h =
    let rest = and_right (leb second limit) (leb n 31 && leb d 31) h in
    record {
      second-in = and_left (leb second limit) (leb n 31 && leb d 31) h;
      n-in = within n 31 32 refl (and_left (leb n 31) (leb d 31) rest);
      d-in = within d 31 32 refl (and_right (leb n 31) (leb d 31) rest);
    }

-- ---- CADD, SQCADD

abbrev add_from : List ℕ → Add
add_from vs = record { size = size_of (get_or vs 0 0); rot = add_rotation_of (get_or vs 1 0); zm = get_or vs 2 0; zdn = get_or vs 3 0 }

module _ (base w : ℕ) where
  pub add_back : Of (add_row base) w → ChecksPassed (add_checks (add_row base) (add_of w)) w
  add_back e = record {
    size = refl;
    rotation = add-rotation-has (field_value rot1 w);
    registers = and-true _ _ (field-le ZmAdd w 31 refl) (field-le Zdn w 31 refl);
    start = refl;
    index = refl;
    word = ap (row_word (add_row base)) (λ k. size-bits-of (field_value size w) (omega arith) k ∷ add-rotation-bits-of (field_value rot1 w) (omega arith) k ∷ field_value ZmAdd w ∷ field_value Zdn w ∷ []) ∙ sym e;
  }

  pub add_read : sound (add_row base) ≡ true → (a : Add) → ChecksPassed (add_checks (add_row base) a) w → Of (add_row base) w × (add_of w ≡ a)
  add_read s a p =
      let vs = size_bits a.size ∷ add_rotation_bits a.rot ∷ a.zm ∷ a.zdn ∷ [] in
      let fit : Fit (add_row base).fields vs =
      (size-lt a.size, (add-rotation-lt a.rot, (within a.zm 31 32 refl (and_left _ _ p.registers), (within a.zdn 31 32 refl (and_right (leb a.zm 31) _ p.registers), tt)))) in (
        subst (Of (add_row base)) p.word (of-written (add_row base) s vs fit),
        ap (λ (x : ℕ). add_of x) (sym p.word) ∙ ap add_from (fields-written (add_row base) s vs fit)
            ∙ (λ k. record { size = size_of_bits a.size k; rot = add-rotation-of-bits a.rot p.rotation k; zm = a.zm; zdn = a.zdn }),
      )

-- ---- CMLA, SQRDCMLAH by vectors

abbrev mul_from : List ℕ → Mul
mul_from vs = record { size = size_of (get_or vs 0 0); rot = rotation_of (get_or vs 2 0); zm = get_or vs 1 0; zn = get_or vs 3 0; zda = get_or vs 4 0 }

module _ (base w : ℕ) where
  pub mul-back : Of (mul_row base) w → ChecksPassed (mul_checks (mul_row base) (mul_of w)) w
  mul-back e = record {
    size = refl;
    rotation = refl;
    registers = and-true _ _ (field-le ZmMul w 31 refl) (and-true _ _ (field-le Zn w 31 refl) (field-le Zda w 31 refl));
    start = refl;
    index = refl;
    word = ap (row_word (mul_row base)) (λ k. size-bits-of (field_value size w) (omega arith) k ∷ field_value ZmMul w ∷ rotation-bits-of (field_value rot2 w) (omega arith) k ∷ field_value Zn w ∷ field_value Zda w ∷ []) ∙ sym e;
  }

  pub mul-read : sound (mul_row base) ≡ true → (a : Mul) → ChecksPassed (mul_checks (mul_row base) a) w → Of (mul_row base) w × (mul_of w ≡ a)
  mul-read s a p =
      let vs = size_bits a.size ∷ a.zm ∷ rotation_bits a.rot ∷ a.zn ∷ a.zda ∷ [] in
      let r = registers-in a.zm 31 a.zn a.zda p.registers in
      let fit : Fit (mul_row base).fields vs = (size-lt a.size, (within a.zm 31 32 refl r.second-in, (rotation-lt a.rot, (r.n-in, (r.d-in, tt))))) in (
        subst (Of (mul_row base)) p.word (of-written (mul_row base) s vs fit),
        ap (λ (x : ℕ). mul_of x) (sym p.word) ∙ ap mul_from (fields-written (mul_row base) s vs fit)
            ∙ (λ k. record { size = size_of_bits a.size k; rot = rotation-of-bits a.rot k; zm = a.zm; zn = a.zn; zda = a.zda }),
      )

-- ---- indexed, over the size: the places of the index and of the second source, and their limits

abbrev indexed_from : Size → List ℕ → MulIndexed
indexed_from z vs = record { size = z; rot = rotation_of (get_or vs 2 0); zm = get_or vs 1 0; index = get_or vs 0 0; zn = get_or vs 3 0; zda = get_or vs 4 0 }

-- what a size means to an indexed family
pub record IndexedAt (h s : Row) (z : Size) (index zm : Field) (base : ℕ) : Type 0 where
  pub has : half_or_single z ≡ true
  pub row : by_size h s z ≡ indexed_row index zm base
  pub limit : 2 ^ width zm ≡ suc (by_size 7 15 z)
  pub last : 2 ^ width index ≡ suc (by_size 3 1 z)
  pub whole : sound (indexed_row index zm base) ≡ true

module _ (h s : Row) (z : Size) (index zm : Field) (base w : ℕ) (at : IndexedAt h s z index zm base) where
  pub indexed-back : Of (indexed_row index zm base) w → ChecksPassed (indexed_checks h s (indexed_of z index zm w)) w
  indexed-back e = record {
    size = at.has;
    rotation = refl;
    registers = and-true _ _ (field-le zm w (by_size 7 15 z) at.limit) (and-true _ _ (field-le Zn w 31 refl) (field-le Zda w 31 refl));
    start = refl;
    index = field-le index w (by_size 3 1 z) at.last;
    word = ap (λ (r : Row). row_word r (field_value index w ∷ field_value zm w ∷ rotation_bits (rotation_of (field_value rot2 w)) ∷ field_value Zn w ∷ field_value Zda w ∷ [])) at.row
        ∙ ap (row_word (indexed_row index zm base)) (λ k. field_value index w ∷ field_value zm w ∷ rotation-bits-of (field_value rot2 w) (omega arith) k ∷ field_value Zn w ∷ field_value Zda w ∷ []) ∙ sym e;
  }

  -- of an operation of that size, given by its fields
  pub indexed-read : (a : MulIndexed) → z ≡ a.size → ChecksPassed (indexed_checks h s a) w → Of (indexed_row index zm base) w × (indexed_of z index zm w ≡ a)
  indexed-read a e p =
      let vs = a.index ∷ a.zm ∷ rotation_bits a.rot ∷ a.zn ∷ a.zda ∷ [] in
      let r = registers-in a.zm (by_size 7 15 a.size) a.zn a.zda p.registers in
      let second : leb a.zm (by_size 7 15 z) ≡ true = rw e r.second-in in
      let place : leb a.index (by_size 3 1 z) ≡ true = rw e p.index in
      let fit : Fit (indexed_row index zm base).fields vs =
      (within a.index _ _ at.last place, (within a.zm _ _ at.limit second, (rotation-lt a.rot, (r.n-in, (r.d-in, tt))))) in
      let word : row_word (indexed_row index zm base) vs ≡ w =
      ap (λ (r : Row). row_word r vs) (sym at.row) ∙ ap (λ (x : Size). row_word (by_size h s x) vs) e ∙ p.word in (
        subst (Of (indexed_row index zm base)) word (of-written (indexed_row index zm base) at.whole vs fit),
        ap (λ (x : ℕ). indexed_of z index zm x) (sym word) ∙ ap (indexed_from z) (fields-written (indexed_row index zm base) at.whole vs fit)
            ∙ (λ k. record { size = e k; rot = rotation-of-bits a.rot k; zm = a.zm; index = a.index; zn = a.zn; zda = a.zda }),
      )

-- ---- by element

-- the bits of an index H:L:M
index3 : (h l m i : ℕ) → h < 2 → l < 2 → m < 2 → i ≡ h * 4 + l * 2 + m → (i / 2 % 2 ≡ l) × (i % 2 ≡ m) × (i / 4 ≡ h)
index3 h l m i hh hl hm e = (omega arith, omega arith, omega arith)

module _ (scalar vector : ℕ) (f : Form) (w : ℕ) (e : w ≡ form_word (scalar_row scalar) (vector_row vector) f (field_values element_row_fields w)) where
  pub element_h-back : field_value size w ≡ 1 → ChecksPassed (element_checks (scalar_row scalar) (vector_row vector) (element_h f w)) w
  element_h-back s =
      let i = index3 (field_value H w) (field_value L w) (field_value M w) (element_h f w).index (omega arith) (omega arith) (omega arith) (omega arith) in
      record {
        size = refl;
        rotation = refl;
        registers = and-true _ _ (field-le Rm w 15 refl) (and-true _ _ (field-le Rn w 31 refl) (field-le Rd w 31 refl));
        start = refl;
        index = le-leb (element_h f w).index 7 (omega arith);
        word = ap (form_word (scalar_row scalar) (vector_row vector) f) (λ k. sym s k ∷ i.0 k ∷ i.1 k ∷ field_value Rm w ∷ i.2 k ∷ field_value Rn w ∷ field_value Rd w ∷ []) ∙ sym e;
      }

  pub element_s-back : field_value size w ≡ 2 → ChecksPassed (element_checks (scalar_row scalar) (vector_row vector) (element_s f w)) w
  element_s-back s =
      let l : (element_s f w).index % 2 ≡ field_value L w = omega arith in
      let m : (element_s f w).rm / 16 ≡ field_value M w = omega arith in
      let r : (element_s f w).rm % 16 ≡ field_value Rm w = omega arith in
      let h : (element_s f w).index / 2 ≡ field_value H w = omega arith in
      record {
        size = refl;
        rotation = refl;
        registers = and-true _ _ (le-leb (element_s f w).rm 31 (omega arith)) (and-true _ _ (field-le Rn w 31 refl) (field-le Rd w 31 refl));
        start = refl;
        index = le-leb (element_s f w).index 3 (omega arith);
        word = ap (form_word (scalar_row scalar) (vector_row vector) f) (λ k. sym s k ∷ l k ∷ m k ∷ r k ∷ h k ∷ field_value Rn w ∷ field_value Rd w ∷ []) ∙ sym e;
      }

module _ (mk : ByElement → Op) (f : Form) (rm index rn rd : ℕ) where
  -- a word with the fields of an operation of size z is that operation
  pub element-is : (z : Size) (w : ℕ) → half_or_single z ≡ true → field_values element_row_fields w ≡ element_fields_of (record { form = f; size = z; rm = rm; index = index; rn = rn; rd = rd }) → element_of mk f w (size_of (field_value size w)) ≡ Decoded.Operation (mk (record { form = f; size = z; rm = rm; index = index; rn = rn; rd = rd }))
  element-is Size.B w h e = cc
  element-is Size.H w h e =
      let at : (k : ℕ) → get_or (field_values element_row_fields w) k 0 ≡ get_or (element_fields_of (record { form = f; size = Size.H; rm = rm; index = index; rn = rn; rd = rd })) k 0 = λ k. ap (λ vs. get_or vs k 0) e in
      let l : field_value L w ≡ index / 2 % 2 = at 1 in
      let m : field_value M w ≡ index % 2 = at 2 in
      let t : field_value H w ≡ index / 4 = at 4 in
      let i : (element_h f w).index ≡ index = omega arith in
      ap (λ (n : ℕ). element_of mk f w (size_of n)) (at 0)
      ∙ (λ k. Decoded.Operation (mk (record { form = f; size = Size.H; rm = at 3 k; index = i k; rn = at 5 k; rd = at 6 k })))
  element-is Size.S w h e =
      let at : (k : ℕ) → get_or (field_values element_row_fields w) k 0 ≡ get_or (element_fields_of (record { form = f; size = Size.S; rm = rm; index = index; rn = rn; rd = rd })) k 0 = λ k. ap (λ vs. get_or vs k 0) e in
      let l : field_value L w ≡ index % 2 = at 1 in
      let m : field_value M w ≡ rm / 16 = at 2 in
      let r : field_value Rm w ≡ rm % 16 = at 3 in
      let t : field_value H w ≡ index / 2 = at 4 in
      let i : (element_s f w).index ≡ index = omega arith in
      let s : (element_s f w).rm ≡ rm = omega arith in
      ap (λ (n : ℕ). element_of mk f w (size_of n)) (at 0)
      ∙ (λ k. Decoded.Operation (mk (record { form = f; size = Size.S; rm = s k; index = i k; rn = at 5 k; rd = at 6 k })))
  element-is Size.D w h e = cc

  -- what is written of it fits the fields
  pub element-fits : (z : Size) → half_or_single z ≡ true → leb rm (by_size 15 31 z) ≡ true → rn < 32 → rd < 32 → leb index (by_size 7 3 z) ≡ true → Fit element_row_fields (element_fields_of (record { form = f; size = z; rm = rm; index = index; rn = rn; rd = rd }))
  element-fits Size.B h hm hn hd hi = absurd (no_such h)
  element-fits Size.H h hm hn hd hi =
      let m = leb-true rm 15 hm in
      let i = leb-true index 7 hi in
      (omega arith, (omega arith, (omega arith, (omega arith, (omega arith, (hn, (hd, tt)))))))
  element-fits Size.S h hm hn hd hi =
      let m = leb-true rm 31 hm in
      let i = leb-true index 3 hi in
      (omega arith, (omega arith, (omega arith, (omega arith, (omega arith, (hn, (hd, tt)))))))
  element-fits Size.D h hm hn hd hi = absurd (no_such h)

-- ---- groups, over the group: the place of its first register

abbrev group_from : Group → List ℕ → MulGroup
group_from g vs = record { size = size_of (get_or vs 0 0); zm = get_or vs 1 0; zdn = get_or vs 2 0 * group_count g; group = g }

-- what a group means to its family: the field of the first register has room for 32 registers
pub record GroupAt (two four : Row) (g : Group) (zdn : Field) (base : ℕ) : Type 0 where
  pub row : by_group two four g ≡ group_row zdn base
  pub room : 2 ^ width zdn * group_count g ≡ 32
  pub whole : sound (group_row zdn base) ≡ true

-- a first register that is v times the group's registers
start-in : (g : Group) (v room : ℕ) → v < room → room * group_count g ≡ 32 → leb (v * group_count g) 31 ≡ true
start-in Group.Two v room h e = le-leb (v * 2) 31 (omega arith)
start-in Group.Four v room h e = le-leb (v * 4) 31 (omega arith)

start-multiple : (g : Group) (v : ℕ) → eqb (v * group_count g % group_count g) 0 ≡ true
start-multiple Group.Two v = eq-eqb (v * 2 % 2) 0 (omega arith)
start-multiple Group.Four v = eq-eqb (v * 4 % 4) 0 (omega arith)

start-over : (g : Group) (v : ℕ) → v * group_count g / group_count g ≡ v
start-over Group.Two v = omega arith
start-over Group.Four v = omega arith

-- a first register that is a multiple
over-fits : (g : Group) (d room : ℕ) → d < 32 → room * group_count g ≡ 32 → d / group_count g < room
over-fits Group.Two d room h e = omega arith
over-fits Group.Four d room h e = omega arith

over-back : (g : Group) (d : ℕ) → eqb (d % group_count g) 0 ≡ true → d / group_count g * group_count g ≡ d
over-back Group.Two d e = let z = eqb-true (d % 2) 0 e in omega arith
over-back Group.Four d e = let z = eqb-true (d % 4) 0 e in omega arith

module _ (two four : Row) (g : Group) (zdn : Field) (base w : ℕ) (at : GroupAt two four g zdn base) where
  pub group-back : Of (group_row zdn base) w → ChecksPassed (group_checks two four (group_of g zdn w)) w
  group-back e =
      let v = field_value zdn w in
      let low : v < 2 ^ width zdn = mod-lt (w / 2 ^ zdn.low) (pow_pos (width zdn)) in
      record {
        size = refl;
        rotation = refl;
        registers = and-true _ _ (field-le ZmGroup w 15 refl) (start-in g v (2 ^ width zdn) low at.room);
        start = start-multiple g v;
        index = refl;
        word = ap (λ (r : Row). row_word r (size_bits (size_of (field_value size w)) ∷ field_value ZmGroup w ∷ v * group_count g / group_count g ∷ [])) at.row
            ∙ ap (row_word (group_row zdn base)) (λ k. size-bits-of (field_value size w) (omega arith) k ∷ field_value ZmGroup w ∷ start-over g v k ∷ []) ∙ sym e;
      }

  -- of an operation of that group, given by its fields
  pub group-read : (a : MulGroup) → g ≡ a.group → ChecksPassed (group_checks two four a) w → Of (group_row zdn base) w × (group_of g zdn w ≡ a)
  group-read a e p =
      let vs = size_bits a.size ∷ a.zm ∷ a.zdn / group_count a.group ∷ [] in
      let room : 2 ^ width zdn * group_count a.group ≡ 32 = ap (λ (x : Group). 2 ^ width zdn * group_count x) (sym e) ∙ at.room in
      let first : a.zdn < 32 = within a.zdn 31 32 refl (and_right (leb a.zm 15) _ p.registers) in
      let fit : Fit (group_row zdn base).fields vs =
      (size-lt a.size, (within a.zm 15 16 refl (and_left _ (leb a.zdn 31) p.registers), (over-fits a.group a.zdn (2 ^ width zdn) first room, tt))) in
      let word : row_word (group_row zdn base) vs ≡ w =
      ap (λ (r : Row). row_word r vs) (sym at.row) ∙ ap (λ (x : Group). row_word (by_group two four x) vs) e ∙ p.word in
      let back : a.zdn / group_count a.group * group_count g ≡ a.zdn =
      ap (λ (x : Group). a.zdn / group_count a.group * group_count x) e ∙ over-back a.group a.zdn p.start in (
        subst (Of (group_row zdn base)) word (of-written (group_row zdn base) at.whole vs fit),
        ap (λ (x : ℕ). group_of g zdn x) (sym word) ∙ ap (group_from g) (fields-written (group_row zdn base) at.whole vs fit)
            ∙ (λ k. record { size = size_of_bits a.size k; zm = a.zm; zdn = back k; group = e k }),
      )
