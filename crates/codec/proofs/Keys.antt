-- What a word decodes to, by the numbers that the decoder takes out of its fixed bits. Assumes nothing.
use Prim.Native.Nat.{ℕ, zero, suc, ◌+◌, ◌*◌, ◌/◌, ◌%◌, ◌^◌, ◌<◌, ◌≤◌}
use mathlib.Core.Path.{◌≡◌, refl, ap, ◌∙◌}
use mathlib.Core.Bool.{Bool, true, false}
use mathlib.Core.Logic.{inl, inr}
use native.Mathlib.Omega.{arith}
use native.Mathlib.Nat.{div-div-eq-div-mul}
use lib.ListN.{take, drop}
use Rattle.isa.specs.declared.types.Size.{Size}
use Rattle.isa.specs.declared.types.Rotation.{Rotation}
use Rattle.isa.specs.declared.types.Form.{Form}
use Rattle.isa.specs.declared.types.ByElement.{ByElement}
use Rattle.isa.specs.declared.types.Group.{Group}
use Rattle.isa.specs.declared.types.Op.{Op}
use Rattle.isa.specs.declared.types.Decoded.{Decoded}
use Rattle.isa.specs.Field.{field_value}
use Rattle.isa.specs.Table.{size, Q, i2, i1, ZmH, ZmS, cadd, sqcadd, cmla, sqrdcmlah, cmla_h, cmla_s, sqrdcmlah_h, sqrdcmlah_s, sqrdmlah_vector, sqrdmlah_scalar, sqrdmlsh_vector, sqrdmlsh_scalar, sqdmulh_two, sqdmulh_four}
use Rattle.isa.specs.Decode.{table, decode_of, add_of, mul_of, indexed_of, element_of, vector_of, size_of, rotation_of, add_rotation_of, group_with}
use Rattle.isa.specs.Register.{by_group}
use Rattle.isa.proofs.Fields.{fixed-matches}
use Rattle.isa.proofs.Table.{◌⨾◌, row_read, NoneFixed, none-join, none-outside}
use Rattle.codec.specs.Pair.{form_top, ElementTop, add_by, add_opcode, mul_by, mul_opcode, indexed_by, indexed_opcode, element_by, element_opcode, group_opcode, OtherTop}

-- ---- the last arms of the choices by a number

pub size-rest : (n : ℕ) → 3 ≤ n → Size.D ≡ size_of n
size-rest zero h = absurd (omega arith)
size-rest (suc zero) h = absurd (omega arith)
size-rest (suc (suc zero)) h = absurd (omega arith)
size-rest (suc (suc (suc n))) h = refl

pub rotation-rest : (n : ℕ) → 3 ≤ n → Rotation.R270 ≡ rotation_of n
rotation-rest zero h = absurd (omega arith)
rotation-rest (suc zero) h = absurd (omega arith)
rotation-rest (suc (suc zero)) h = absurd (omega arith)
rotation-rest (suc (suc (suc n))) h = refl

pub add-rotation-rest : (n : ℕ) → 1 ≤ n → Rotation.R270 ≡ add_rotation_of n
add-rotation-rest zero h = absurd (omega arith)
add-rotation-rest (suc n) h = refl

pub form-rest : (n : ℕ) → ElementTop n → (n ≡ 0x2F → ⊥) → (n ≡ 0x6F → ⊥) → n ≡ form_top Form.Scalar
form-rest n (inl e) h1 h2 = absurd (h1 e)
form-rest n (inr (inl e)) h1 h2 = absurd (h2 e)
form-rest n (inr (inr e)) h1 h2 = e

module _ (w : ℕ) (fits : w < 2 ^ 32) where
  -- ---- bits 31 to 24 are 45

  pub is-add : (b : Bool) → w / 16777216 ≡ 0x45 → w / 2048 % 2048 ≡ add_opcode b → decode_of w ≡ Decoded.Operation (add_by b (add_of w))
  is-add false t m = row_read w 0 (fixed-matches cadd refl w fits (omega arith ⨾ m ⨾ tt ⨾ tt ⨾ tt))
  is-add true t m = row_read w 1 (fixed-matches sqcadd refl w fits (omega arith ⨾ m ⨾ tt ⨾ tt ⨾ tt))

  -- ---- bits 31 to 24 are 44

  pub is_mul : (b : Bool) → w / 16777216 ≡ 0x44 → w / 4096 % 16 ≡ mul_opcode b → w / 2097152 % 2 ≡ 0 → decode_of w ≡ Decoded.Operation (mul_by b (mul_of w))
  is_mul false t p z = row_read w 2 (fixed-matches cmla refl w fits (omega arith ⨾ z ⨾ p ⨾ tt ⨾ tt ⨾ tt))
  is_mul true t p z = row_read w 3 (fixed-matches sqrdcmlah refl w fits (omega arith ⨾ z ⨾ p ⨾ tt ⨾ tt ⨾ tt))

  pub is-indexed-h : (b : Bool) → w / 16777216 ≡ 0x44 → w / 4096 % 16 ≡ indexed_opcode b → w / 2097152 % 8 ≡ 5 → decode_of w ≡ Decoded.Operation (indexed_by b (indexed_of Size.H i2 ZmH w))
  is-indexed-h false t p z = row_read w 4 (fixed-matches cmla_h refl w fits (omega arith ⨾ tt ⨾ p ⨾ tt ⨾ tt ⨾ tt))
  is-indexed-h true t p z = row_read w 6 (fixed-matches sqrdcmlah_h refl w fits (omega arith ⨾ tt ⨾ p ⨾ tt ⨾ tt ⨾ tt))

  pub is-indexed-s : (b : Bool) → w / 16777216 ≡ 0x44 → w / 4096 % 16 ≡ indexed_opcode b → w / 2097152 % 8 ≡ 7 → decode_of w ≡ Decoded.Operation (indexed_by b (indexed_of Size.S i1 ZmS w))
  is-indexed-s false t p z = row_read w 5 (fixed-matches cmla_s refl w fits (omega arith ⨾ tt ⨾ p ⨾ tt ⨾ tt ⨾ tt))
  is-indexed-s true t p z = row_read w 7 (fixed-matches sqrdcmlah_s refl w fits (omega arith ⨾ tt ⨾ p ⨾ tt ⨾ tt ⨾ tt))

  -- ---- bits 31 to 24 are those of a by-element form

  q-of : (n : ℕ) → n < 2 → w / 16777216 ≡ 47 + 64 * n → field_value Q w ≡ n
  q-of n h e = let d = div-div-eq-div-mul w 16777216 64 in omega arith

  is-element : (b : Bool) (f : Form) → w / 16777216 ≡ form_top f → w / 1024 % 2 ≡ 0 → w / 4096 % 16 ≡ element_opcode b → decode_of w ≡ element_of (element_by b) f w (size_of (field_value size w))
  is-element false Form.Scalar t z p = row_read w 9 (fixed-matches sqrdmlah_scalar refl w fits (omega arith ⨾ tt ⨾ tt ⨾ tt ⨾ p ⨾ z ⨾ tt ⨾ tt))
  is-element false Form.Vector64 t z p =
      row_read w 8 (fixed-matches sqrdmlah_vector refl w fits (omega arith ⨾ omega arith ⨾ tt ⨾ tt ⨾ tt ⨾ p ⨾ z ⨾ tt ⨾ tt))
      ∙ ap (λ (q : ℕ). element_of Op.Sqrdmlah (vector_of q) w (size_of (field_value size w))) (q-of 0 (omega arith) t)
  is-element false Form.Vector128 t z p =
      row_read w 8 (fixed-matches sqrdmlah_vector refl w fits (omega arith ⨾ omega arith ⨾ tt ⨾ tt ⨾ tt ⨾ p ⨾ z ⨾ tt ⨾ tt))
      ∙ ap (λ (q : ℕ). element_of Op.Sqrdmlah (vector_of q) w (size_of (field_value size w))) (q-of 1 (omega arith) t)
  is-element true Form.Scalar t z p = row_read w 11 (fixed-matches sqrdmlsh_scalar refl w fits (omega arith ⨾ tt ⨾ tt ⨾ tt ⨾ p ⨾ z ⨾ tt ⨾ tt))
  is-element true Form.Vector64 t z p =
      row_read w 10 (fixed-matches sqrdmlsh_vector refl w fits (omega arith ⨾ omega arith ⨾ tt ⨾ tt ⨾ tt ⨾ p ⨾ z ⨾ tt ⨾ tt))
      ∙ ap (λ (q : ℕ). element_of Op.Sqrdmlsh (vector_of q) w (size_of (field_value size w))) (q-of 0 (omega arith) t)
  is-element true Form.Vector128 t z p =
      row_read w 10 (fixed-matches sqrdmlsh_vector refl w fits (omega arith ⨾ omega arith ⨾ tt ⨾ tt ⨾ tt ⨾ p ⨾ z ⨾ tt ⨾ tt))
      ∙ ap (λ (q : ℕ). element_of Op.Sqrdmlsh (vector_of q) w (size_of (field_value size w))) (q-of 1 (omega arith) t)

  -- an H word, an S word, and the sizes that are reserved
  pub is-element-n : (b : Bool) (f : Form) (n : ℕ) → w / 16777216 ≡ form_top f → w / 1024 % 2 ≡ 0 → w / 4096 % 16 ≡ element_opcode b → w / 4194304 % 4 ≡ n → decode_of w ≡ element_of (element_by b) f w (size_of n)
  is-element-n b f n t z p s = is-element b f t z p ∙ ap (λ (k : ℕ). element_of (element_by b) f w (size_of k)) s

  -- ---- bits 31 to 24 are C1

  pub is-group : (g : Group) → w / 16777216 ≡ 0xC1 → w / 1048576 % 4 ≡ 2 → w / 32 % 2048 ≡ group_opcode g → by_group (w % 2) (w % 4) g ≡ 0 →
      decode_of w ≡ Decoded.Operation (Op.Sqdmulh (group_with g (w % 32) w))
  is-group Group.Two t h p z =
      row_read w 12 (fixed-matches sqdmulh_two refl w fits (omega arith ⨾ h ⨾ p ⨾ omega arith))
      ∙ ap (λ (n : ℕ). Decoded.Operation (Op.Sqdmulh (group_with Group.Two n w))) (omega arith)
  is-group Group.Four t h p z =
      row_read w 13 (fixed-matches sqdmulh_four refl w fits (omega arith ⨾ h ⨾ p ⨾ omega arith))
      ∙ ap (λ (n : ℕ). Decoded.Operation (Op.Sqdmulh (group_with Group.Four n w))) (omega arith)

-- the sizes that are reserved
pub reserved-rest : (mk : ByElement → Op) (f : Form) (w n : ℕ) → (n ≡ 1 → ⊥) → (n ≡ 2 → ⊥) → Decoded.Reserved ≡ element_of mk f w (size_of n)
reserved-rest mk f w zero h1 h2 = refl
reserved-rest mk f w (suc zero) h1 h2 = absurd (h1 refl)
reserved-rest mk f w (suc (suc zero)) h1 h2 = absurd (h2 refl)
reserved-rest mk f w (suc (suc (suc n))) h1 h2 = refl

-- ---- outside: the fixed bits are those of no row of the table, whose first two are the sums, the next six the products, the next four by element, the last two groups

module _ (w : ℕ) where
  no_add : (w / 16777216 ≡ 0x45 → ⊥) → w < 2 ^ 32 → NoneFixed (take 2 table) w
  no_add h fits = (λ f. h (omega arith)) ⨾ (λ f. h (omega arith)) ⨾ tt

  no-product : (w / 16777216 ≡ 0x44 → ⊥) → w < 2 ^ 32 → NoneFixed (take 6 (drop 2 table)) w
  no-product h fits =
      (λ f. h (omega arith)) ⨾ (λ f. h (omega arith)) ⨾ (λ f. h (omega arith)) ⨾ (λ f. h (omega arith)) ⨾ (λ f. h (omega arith)) ⨾
      (λ f. h (omega arith)) ⨾ tt

  no-element : (w / 16777216 ≡ 0x2F → ⊥) → (w / 16777216 ≡ 0x6F → ⊥) → (w / 16777216 ≡ 0x7F → ⊥) → w < 2 ^ 32 → NoneFixed (take 4 (drop 8 table)) w
  no-element h1 h2 h3 fits = (λ f. omega arith) ⨾ (λ f. omega arith) ⨾ (λ f. omega arith) ⨾ (λ f. omega arith) ⨾ tt

  no-group : (w / 16777216 ≡ 0xC1 → ⊥) → w < 2 ^ 32 → NoneFixed (drop 12 table) w
  no-group h fits = (λ f. h (omega arith)) ⨾ (λ f. h (omega arith)) ⨾ tt

  joined : NoneFixed (take 2 table) w → NoneFixed (take 6 (drop 2 table)) w → NoneFixed (take 4 (drop 8 table)) w → NoneFixed (drop 12 table) w → decode_of w ≡ Decoded.Outside
  joined a p e g =
      none-outside w
      (none-join (take 2 table) (drop 2 table) w a
      (none-join (take 6 (drop 2 table)) (drop 8 table) w p (none-join (take 4 (drop 8 table)) (drop 12 table) w e g)))

  pub outside-add : w < 2 ^ 32 → w / 16777216 ≡ 0x45 → (w / 2048 % 2048 ≡ 27 → ⊥) → (w / 2048 % 2048 ≡ 59 → ⊥) → decode_of w ≡ Decoded.Outside
  outside-add fits t h1 h2 = joined ((λ f. h1 f.1.0) ⨾ (λ f. h2 f.1.0) ⨾ tt) (no-product (omega arith) fits) (no-element (omega arith) (omega arith) (omega arith) fits) (no-group (omega arith) fits)

  -- bits 31 to 24 are 44, and the other fixed bits are those of no row
  outside-44 : w < 2 ^ 32 → w / 16777216 ≡ 0x44 → NoneFixed (take 6 (drop 2 table)) w → decode_of w ≡ Decoded.Outside
  outside-44 fits t n = joined (no_add (omega arith) fits) n (no-element (omega arith) (omega arith) (omega arith) fits) (no-group (omega arith) fits)

  pub outside-product : w < 2 ^ 32 → w / 16777216 ≡ 0x44 → (w / 4096 % 16 ≡ 2 → ⊥) → (w / 4096 % 16 ≡ 3 → ⊥) → (w / 4096 % 16 ≡ 6 → ⊥) → (w / 4096 % 16 ≡ 7 → ⊥) → decode_of w ≡ Decoded.Outside
  outside-product fits t h2 h3 h6 h7 =
      outside-44 fits t
      ((λ f. h2 f.1.1.0) ⨾ (λ f. h3 f.1.1.0) ⨾ (λ f. h6 f.1.1.0) ⨾ (λ f. h6 f.1.1.0) ⨾ (λ f. h7 f.1.1.0) ⨾
      (λ f. h7 f.1.1.0) ⨾ tt)

  pub outside-vectors : (b : Bool) → w < 2 ^ 32 → w / 16777216 ≡ 0x44 → w / 4096 % 16 ≡ mul_opcode b → (w / 2097152 % 2 ≡ 0 → ⊥) → decode_of w ≡ Decoded.Outside
  outside-vectors false fits t p h =
      outside-44 fits t
      ((λ f. h f.1.0) ⨾ (λ f. h f.1.0) ⨾ (λ f. omega arith) ⨾ (λ f. omega arith) ⨾ (λ f. omega arith) ⨾ (λ f. omega arith) ⨾ tt)
  outside-vectors true fits t p h =
      outside-44 fits t
      ((λ f. h f.1.0) ⨾ (λ f. h f.1.0) ⨾ (λ f. omega arith) ⨾ (λ f. omega arith) ⨾ (λ f. omega arith) ⨾ (λ f. omega arith) ⨾ tt)

  pub outside-indexed : (b : Bool) → w < 2 ^ 32 → w / 16777216 ≡ 0x44 → w / 4096 % 16 ≡ indexed_opcode b → (w / 2097152 % 8 ≡ 5 → ⊥) → (w / 2097152 % 8 ≡ 7 → ⊥) → decode_of w ≡ Decoded.Outside
  outside-indexed false fits t p h5 h7 =
      outside-44 fits t
      ((λ f. omega arith) ⨾ (λ f. omega arith) ⨾ (λ f. h5 (omega arith)) ⨾ (λ f. h7 (omega arith)) ⨾ (λ f. h5 (omega arith)) ⨾
      (λ f. h7 (omega arith)) ⨾ tt)
  outside-indexed true fits t p h5 h7 =
      outside-44 fits t
      ((λ f. omega arith) ⨾ (λ f. omega arith) ⨾ (λ f. h5 (omega arith)) ⨾ (λ f. h7 (omega arith)) ⨾ (λ f. h5 (omega arith)) ⨾
      (λ f. h7 (omega arith)) ⨾ tt)

  form-top : (f : Form) → w / 16777216 ≡ form_top f → (w / 16777216 ≡ 0x45 → ⊥) × ((w / 16777216 ≡ 0x44 → ⊥) × (w / 16777216 ≡ 0xC1 → ⊥))
  form-top Form.Scalar t = ((λ e. omega arith), ((λ e. omega arith), (λ e. omega arith)))
  form-top Form.Vector64 t = ((λ e. omega arith), ((λ e. omega arith), (λ e. omega arith)))
  form-top Form.Vector128 t = ((λ e. omega arith), ((λ e. omega arith), (λ e. omega arith)))

  pub outside-element : (f : Form) → w < 2 ^ 32 → w / 16777216 ≡ form_top f → (w / 4096 % 16 ≡ 13 → w / 1024 % 2 ≡ 0 → ⊥) → (w / 4096 % 16 ≡ 15 → w / 1024 % 2 ≡ 0 → ⊥) → decode_of w ≡ Decoded.Outside
  outside-element f fits t h13 h15 =
      let o = form-top f t in
      joined (no_add o.0 fits) (no-product o.1.0 fits)
      ((λ k. h13 k.1.1.1.1.1.0 k.1.1.1.1.1.1.0) ⨾ (λ k. h13 k.1.1.1.1.0 k.1.1.1.1.1.0) ⨾
      (λ k. h15 k.1.1.1.1.1.0 k.1.1.1.1.1.1.0) ⨾ (λ k. h15 k.1.1.1.1.0 k.1.1.1.1.1.0) ⨾ tt)
      (no-group o.1.1 fits)

  -- bits 31 to 24 are C1, and the other fixed bits are those of no row
  outside-c1 : w < 2 ^ 32 → w / 16777216 ≡ 0xC1 → NoneFixed (drop 12 table) w → decode_of w ≡ Decoded.Outside
  outside-c1 fits t n = joined (no_add (omega arith) fits) (no-product (omega arith) fits) (no-element (omega arith) (omega arith) (omega arith) fits) n

  pub outside-group : w < 2 ^ 32 → OtherTop (w / 16777216) → (w / 16777216 ≡ 0xC1 → w / 1048576 % 4 ≡ 2 → w / 32 % 2048 ≡ 1312 → ⊥) →
      (w / 16777216 ≡ 0xC1 → w / 1048576 % 4 ≡ 2 → w / 32 % 2048 ≡ 1376 → ⊥) → decode_of w ≡ Decoded.Outside
  outside-group fits o h2 h4 =
      joined (no_add o.1.0 fits) (no-product o.0 fits) (no-element (λ e. o.1.1 (inl e)) (λ e. o.1.1 (inr (inl e))) (λ e. o.1.1 (inr (inr e))) fits)
      ((λ f. h2 (omega arith) f.1.0 f.1.1.0) ⨾ (λ f. h4 (omega arith) f.1.0 f.1.1.0) ⨾ tt)

  pub outside-start : (g : Group) → w < 2 ^ 32 → w / 16777216 ≡ 0xC1 → w / 32 % 2048 ≡ group_opcode g → (by_group (w % 2) (w % 4) g ≡ 0 → ⊥) →
      decode_of w ≡ Decoded.Outside
  outside-start Group.Two fits t p h = outside-c1 fits t ((λ f. h (omega (arith, f.1.1.1))) ⨾ (λ f. omega arith) ⨾ tt)
  outside-start Group.Four fits t p h = outside-c1 fits t ((λ f. omega arith) ⨾ (λ f. h (omega (arith, f.1.1.1))) ⨾ tt)

-- ---- the bits that choose a group, put together by shifts

-- bits 31 to 24, 21 to 20 and 15 to 5
abbrev pub group_key : Group → ℕ
group_key g = 0xC1 * 8192 + 2 * 2048 + group_opcode g

abbrev joined_key : ℕ → ℕ → ℕ → ℕ
joined_key t b c = t * 8192 % 4294967296 + b * 2048 % 4294967296 + c

pub key-parts : (g : Group) (t b c : ℕ) → t < 256 → b < 4 → c < 2048 → joined_key t b c ≡ group_key g → (t ≡ 0xC1) × ((b ≡ 2) × (c ≡ group_opcode g))
key-parts Group.Two t b c ht hb hc e = (omega arith, (omega arith, omega arith))
key-parts Group.Four t b c ht hb hc e = (omega arith, (omega arith, omega arith))

pub parts-key : (g : Group) (t b c : ℕ) → t ≡ 0xC1 → b ≡ 2 → c ≡ group_opcode g → joined_key t b c ≡ group_key g
parts-key g t b c et eb ec = rw (et, eb, ec)

-- ---- an index and a register put together by shifts

pub index-h : (h l m : ℕ) → h < 2 → l < 2 → h * 4 % 4294967296 + l * 2 % 4294967296 + m ≡ h * 4 + l * 2 + m
index-h h l m hh hl = omega arith

pub index-s : (h l : ℕ) → h < 2 → h * 2 % 4294967296 + l ≡ h * 2 + l
index-s h l hh = omega arith

pub register-s : (m rm : ℕ) → m < 2 → m * 16 % 4294967296 + rm ≡ m * 16 + rm
register-s m rm hm = omega arith
