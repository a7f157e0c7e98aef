-- Decoding and writing undo one another. Assumes nothing.
-- `decode-encode`: writing the operation that a word decodes to gives the word.
-- `encode-decode`: the word that writing an operation gives is a word of 32 bits, and decodes to the operation.
-- `encode_injective`: two operations that write the same word are the same.
use Prim.Native.Nat.{ℕ, zero, suc, ◌<◌}
use mathlib.Core.Path.{◌≡◌, refl, sym, ap, ◌∙◌, subst}
use mathlib.Core.List.{List, ◌∷◌}
use mathlib.Core.Bool.{true}
use native.Mathlib.Omega.{arith}
use lib.ListN.{get_or, drop}
use Rattle.isa.specs.declared.types.Size.{Size}
use Rattle.isa.specs.declared.types.Form.{Form}
use Rattle.isa.specs.declared.types.Add.{Add}
use Rattle.isa.specs.declared.types.Mul.{Mul}
use Rattle.isa.specs.declared.types.MulIndexed.{MulIndexed}
use Rattle.isa.specs.declared.types.ByElement.{ByElement}
use Rattle.isa.specs.declared.types.Group.{Group}
use Rattle.isa.specs.declared.types.MulGroup.{MulGroup}
use Rattle.isa.specs.declared.types.Op.{Op}
use Rattle.isa.specs.declared.types.Decoded.{Decoded}
use Rattle.std.specs.Prelude.{Ok}
use Rattle.isa.specs.Field.{Row, field_value, field_values, row_word}
use Rattle.isa.specs.Table.{size, Q, i2, i1, ZmH, ZmS, scalar_row, vector_row, element_row_fields, cadd, sqcadd, cmla, sqrdcmlah, cmla_h, cmla_s, sqrdcmlah_h, sqrdcmlah_s, sqrdmlah_scalar, sqrdmlah_vector, sqrdmlsh_scalar, sqrdmlsh_vector, ZdnTwo, ZdnFour, sqdmulh_two, sqdmulh_four}
use Rattle.isa.specs.Decode.{table, decode_of, add_of, mul_of, indexed_of, element_of, vector_of, size_of, Reads, element_h, element_s, group_of}
use Rattle.isa.specs.Encode.{encode_of, write_checks, indexed_checks, element_checks, element_fields_of, form_word, half_or_single, by_size, group_checks}
use Rattle.isa.proofs.Fields.{sound, Of, Fit, of-written, of_lt, fields-written}
use Rattle.isa.proofs.Table.{◌⨾◌, row_read, by_row}
use Rattle.isa.proofs.Checks.{ChecksPassed, word-exact}
use Rattle.isa.proofs.Families.{IndexedAt, registers-in, no_such, add_back, add_read, mul-back, mul-read, indexed-back, indexed-read, element_h-back, element_s-back, element-is, element-fits, GroupAt, group-back, group-read}

same_op : (a b : Op) → Decoded.Operation a ≡ Decoded.Operation b → a ≡ b
same_op a b e = cc

not-reserved : (a : Op) → Decoded.Reserved ≡ Decoded.Operation a → ⊥
not-reserved a e = let z : ◌≡◌ {A = ℕ} 0 1 = cc in omega arith

not-outside : (a : Op) → Decoded.Outside ≡ Decoded.Operation a → ⊥
not-outside a e = let z : ◌≡◌ {A = ℕ} 0 1 = cc in omega arith

-- the indexed rows of CMLA and of SQRDCMLAH at each size
cmla-at-h : IndexedAt cmla_h cmla_s Size.H i2 ZmH cmla_h.base
cmla-at-h = record { has = refl; row = refl; limit = refl; last = refl; whole = refl }

cmla-at-s : IndexedAt cmla_h cmla_s Size.S i1 ZmS cmla_s.base
cmla-at-s = record { has = refl; row = refl; limit = refl; last = refl; whole = refl }

sqrdcmlah-at-h : IndexedAt sqrdcmlah_h sqrdcmlah_s Size.H i2 ZmH sqrdcmlah_h.base
sqrdcmlah-at-h = record { has = refl; row = refl; limit = refl; last = refl; whole = refl }

sqrdcmlah-at-s : IndexedAt sqrdcmlah_h sqrdcmlah_s Size.S i1 ZmS sqrdcmlah_s.base
sqrdcmlah-at-s = record { has = refl; row = refl; limit = refl; last = refl; whole = refl }

-- the rows of SQDMULH for each group
sqdmulh-at-two : GroupAt sqdmulh_two sqdmulh_four Group.Two ZdnTwo sqdmulh_two.base
sqdmulh-at-two = record { row = refl; room = refl; whole = refl }

sqdmulh-at-four : GroupAt sqdmulh_two sqdmulh_four Group.Four ZdnFour sqdmulh_four.base
sqdmulh-at-four = record { row = refl; room = refl; whole = refl }

-- ---- from a word to its operation and back

-- an operation that passes every check for the word
known : (w : ℕ) (a op : Op) → ChecksPassed (write_checks a) w → Decoded.Operation a ≡ Decoded.Operation op → encode_of op ≡ Ok w
known w a op p e = ap encode_of (sym (same_op a op e)) ∙ (word-exact a w).1 p

module _ (mk : ByElement → Op) (scalar vector : ℕ) (means : (a : ByElement) → write_checks (mk a) ≡ element_checks (scalar_row scalar) (vector_row vector) a) where
  element-back : (f : Form) (w n : ℕ) → field_value size w ≡ n → w ≡ form_word (scalar_row scalar) (vector_row vector) f (field_values element_row_fields w) → (op : Op) → element_of mk f w (size_of n) ≡ Decoded.Operation op → encode_of op ≡ Ok w
  element-back f w zero s e op k = absurd (not-reserved op k)
  element-back f w (suc zero) s e op k = known w (mk (element_h f w)) op (rw means (element_h-back scalar vector f w e s)) k
  element-back f w (suc (suc zero)) s e op k = known w (mk (element_s f w)) op (rw means (element_s-back scalar vector f w e s)) k
  element-back f w (suc (suc (suc n))) s e op k = absurd (not-reserved op k)

-- the word of a vector form, by Q
vector-form : (scalar vector q : ℕ) (vs : List ℕ) → q < 2 → row_word (vector_row vector) (q ∷ vs) ≡ form_word (scalar_row scalar) (vector_row vector) (vector_of q) vs
vector-form scalar vector zero vs h = refl
vector-form scalar vector (suc zero) vs h = refl
vector-form scalar vector (suc (suc q)) vs h = absurd (omega arith)

pub decode-encode : (w : ℕ) (op : Op) → decode_of w ≡ Decoded.Operation op → encode_of op ≡ Ok w
unfolding decode_of write_checks
decode-encode w op =
    let mlah = element-back Op.Sqrdmlah sqrdmlah_scalar.base sqrdmlah_vector.base (λ a. refl) in
    let mlsh = element-back Op.Sqrdmlsh sqrdmlsh_scalar.base sqrdmlsh_vector.base (λ a. refl) in
    let vector : (s v : ℕ) → Of (vector_row v) w → w ≡ form_word (scalar_row s) (vector_row v) (vector_of (field_value Q w)) (field_values element_row_fields w) = λ s v e. e ∙ vector-form s v (field_value Q w) (field_values element_row_fields w) (omega arith) in
    by_row table w (Decoded.Operation op) (encode_of op ≡ Ok w)
    ((λ e k. known w (Op.Cadd (add_of w)) op (add_back cadd.base w e) k) ⨾
    (λ e k. known w (Op.Sqcadd (add_of w)) op (add_back sqcadd.base w e) k) ⨾
    (λ e k. known w (Op.Cmla (mul_of w)) op (mul-back cmla.base w e) k) ⨾
    (λ e k. known w (Op.Sqrdcmlah (mul_of w)) op (mul-back sqrdcmlah.base w e) k) ⨾
    (λ e k. known w (Op.CmlaIndexed (indexed_of Size.H i2 ZmH w)) op (indexed-back cmla_h cmla_s Size.H i2 ZmH cmla_h.base w cmla-at-h e) k) ⨾
    (λ e k. known w (Op.CmlaIndexed (indexed_of Size.S i1 ZmS w)) op (indexed-back cmla_h cmla_s Size.S i1 ZmS cmla_s.base w cmla-at-s e) k) ⨾
    (λ e k. known w (Op.SqrdcmlahIndexed (indexed_of Size.H i2 ZmH w)) op (indexed-back sqrdcmlah_h sqrdcmlah_s Size.H i2 ZmH sqrdcmlah_h.base w sqrdcmlah-at-h e) k) ⨾
    (λ e k. known w (Op.SqrdcmlahIndexed (indexed_of Size.S i1 ZmS w)) op (indexed-back sqrdcmlah_h sqrdcmlah_s Size.S i1 ZmS sqrdcmlah_s.base w sqrdcmlah-at-s e) k) ⨾
    (λ e k. mlah (vector_of (field_value Q w)) w (field_value size w) refl (vector sqrdmlah_scalar.base sqrdmlah_vector.base e) op k) ⨾
    (λ e k. mlah Form.Scalar w (field_value size w) refl e op k) ⨾
    (λ e k. mlsh (vector_of (field_value Q w)) w (field_value size w) refl (vector sqrdmlsh_scalar.base sqrdmlsh_vector.base e) op k) ⨾
    (λ e k. mlsh Form.Scalar w (field_value size w) refl e op k) ⨾
    (λ e k. known w (Op.Sqdmulh (group_of Group.Two ZdnTwo w)) op (group-back sqdmulh_two sqdmulh_four Group.Two ZdnTwo sqdmulh_two.base w sqdmulh-at-two e) k) ⨾
    (λ e k. known w (Op.Sqdmulh (group_of Group.Four ZdnFour w)) op (group-back sqdmulh_two sqdmulh_four Group.Four ZdnFour sqdmulh_four.base w sqdmulh-at-four e) k) ⨾ tt)
    (λ none k. absurd (not-outside op k))

-- ---- from an operation to its word and back

module _ (mk : MulIndexed → Op) (h s : Row) (base_h base_s w : ℕ)
    (at_h : IndexedAt h s Size.H i2 ZmH base_h) (at-s : IndexedAt h s Size.S i1 ZmS base_s)
    (read-h : Of h w → decode_of w ≡ Decoded.Operation (mk (indexed_of Size.H i2 ZmH w)))
    (read-s : Of s w → decode_of w ≡ Decoded.Operation (mk (indexed_of Size.S i1 ZmS w)))
    (a : MulIndexed) (p : ChecksPassed (indexed_checks h s a) w) where
  indexed-reads : (z : Size) → z ≡ a.size → Reads w (mk a)
  indexed-reads Size.B e = absurd (no_such (ap half_or_single e ∙ p.size))
  indexed-reads Size.H e =
      let r = indexed-read h s Size.H i2 ZmH base_h w at_h a e p in
      let o : Of h w = rw at_h.row r.0 in
      (of_lt h (rw at_h.row at_h.whole) w o, read-h o ∙ ap (λ (x : MulIndexed). Decoded.Operation (mk x)) r.1)
  indexed-reads Size.S e =
      let r = indexed-read h s Size.S i1 ZmS base_s w at-s a e p in
      let o : Of s w = rw at-s.row r.0 in
      (of_lt s (rw at-s.row at-s.whole) w o, read-s o ∙ ap (λ (x : MulIndexed). Decoded.Operation (mk x)) r.1)
  indexed-reads Size.D e = absurd (no_such (ap half_or_single e ∙ p.size))

module _ (mk : ByElement → Op) (scalar vector w : ℕ)
    (sound-scalar : sound (scalar_row scalar) ≡ true) (sound-vector : sound (vector_row vector) ≡ true)
    (read-scalar : Of (scalar_row scalar) w → decode_of w ≡ element_of mk Form.Scalar w (size_of (field_value size w)))
    (read_vector : Of (vector_row vector) w → decode_of w ≡ element_of mk (vector_of (field_value Q w)) w (size_of (field_value size w)))
    (a : ByElement) (p : ChecksPassed (element_checks (scalar_row scalar) (vector_row vector) a) w) where
  fits : Fit element_row_fields (element_fields_of a)
  fits =
      let r = registers-in a.rm (by_size 15 31 a.size) a.rn a.rd p.registers in
      element-fits mk a.form a.rm a.index a.rn a.rd a.size p.size r.second-in r.n-in r.d-in p.index

  -- a vector form, by Q
  vector-reads : (q : ℕ) → q < 2 → row_word (vector_row vector) (q ∷ element_fields_of a) ≡ w → (vector_of q ≡ a.form) → Reads w (mk a)
  vector-reads q hq word form =
      let vs = q ∷ element_fields_of a in
      let o : Of (vector_row vector) w = subst (Of (vector_row vector)) word (of-written (vector_row vector) sound-vector vs (hq, fits)) in
      let e : field_values (Q ∷ element_row_fields) w ≡ vs = subst (λ (x : ℕ). field_values (Q ∷ element_row_fields) x ≡ vs) word (fields-written (vector_row vector) sound-vector vs (hq, fits)) in
      let f : vector_of (field_value Q w) ≡ a.form = ap (λ (xs : List ℕ). vector_of (get_or xs 0 0)) e ∙ form in (
        of_lt (vector_row vector) sound-vector w o,
        read_vector o ∙ ap (λ (x : Form). element_of mk x w (size_of (field_value size w))) f
            ∙ element-is mk a.form a.rm a.index a.rn a.rd a.size w p.size (ap (drop 1) e),
      )

  element-reads : (f : Form) → f ≡ a.form → form_word (scalar_row scalar) (vector_row vector) f (element_fields_of a) ≡ w → Reads w (mk a)
  element-reads Form.Scalar form word =
      let vs = element_fields_of a in
      let o : Of (scalar_row scalar) w = subst (Of (scalar_row scalar)) word (of-written (scalar_row scalar) sound-scalar vs fits) in
      let e : field_values element_row_fields w ≡ vs = subst (λ (x : ℕ). field_values element_row_fields x ≡ vs) word (fields-written (scalar_row scalar) sound-scalar vs fits) in (
        of_lt (scalar_row scalar) sound-scalar w o,
        read-scalar o ∙ ap (λ (x : Form). element_of mk x w (size_of (field_value size w))) form
            ∙ element-is mk a.form a.rm a.index a.rn a.rd a.size w p.size e,
      )
  element-reads Form.Vector64 form word = vector-reads 0 (omega arith) word form
  element-reads Form.Vector128 form word = vector-reads 1 (omega arith) word form

group_reads : (w : ℕ) (a : MulGroup) → ChecksPassed (group_checks sqdmulh_two sqdmulh_four a) w → (g : Group) → g ≡ a.group → Reads w (Op.Sqdmulh a)
group_reads w a p Group.Two e =
    let r = group-read sqdmulh_two sqdmulh_four Group.Two ZdnTwo sqdmulh_two.base w sqdmulh-at-two a e p in
    (of_lt sqdmulh_two refl w r.0, row_read w 12 r.0 ∙ ap (λ (x : MulGroup). Decoded.Operation (Op.Sqdmulh x)) r.1)
group_reads w a p Group.Four e =
    let r = group-read sqdmulh_two sqdmulh_four Group.Four ZdnFour sqdmulh_four.base w sqdmulh-at-four a e p in
    (of_lt sqdmulh_four refl w r.0, row_read w 13 r.0 ∙ ap (λ (x : MulGroup). Decoded.Operation (Op.Sqdmulh x)) r.1)

passed_reads : (w : ℕ) (op : Op) → ChecksPassed (write_checks op) w → Reads w op
unfolding write_checks
passed_reads w (Op.Cadd a) p =
    let r = add_read cadd.base w refl a p in
    (of_lt cadd refl w r.0, row_read w 0 r.0 ∙ ap (λ (x : Add). Decoded.Operation (Op.Cadd x)) r.1)
passed_reads w (Op.Sqcadd a) p =
    let r = add_read sqcadd.base w refl a p in
    (of_lt sqcadd refl w r.0, row_read w 1 r.0 ∙ ap (λ (x : Add). Decoded.Operation (Op.Sqcadd x)) r.1)
passed_reads w (Op.Cmla a) p =
    let r = mul-read cmla.base w refl a p in
    (of_lt cmla refl w r.0, row_read w 2 r.0 ∙ ap (λ (x : Mul). Decoded.Operation (Op.Cmla x)) r.1)
passed_reads w (Op.Sqrdcmlah a) p =
    let r = mul-read sqrdcmlah.base w refl a p in
    (of_lt sqrdcmlah refl w r.0, row_read w 3 r.0 ∙ ap (λ (x : Mul). Decoded.Operation (Op.Sqrdcmlah x)) r.1)
passed_reads w (Op.CmlaIndexed a) p = indexed-reads Op.CmlaIndexed cmla_h cmla_s cmla_h.base cmla_s.base w cmla-at-h cmla-at-s (row_read w 4) (row_read w 5) a p a.size refl
passed_reads w (Op.SqrdcmlahIndexed a) p = indexed-reads Op.SqrdcmlahIndexed sqrdcmlah_h sqrdcmlah_s sqrdcmlah_h.base sqrdcmlah_s.base w sqrdcmlah-at-h sqrdcmlah-at-s (row_read w 6) (row_read w 7) a p a.size refl
passed_reads w (Op.Sqrdmlah a) p = element-reads Op.Sqrdmlah sqrdmlah_scalar.base sqrdmlah_vector.base w refl refl (row_read w 9) (row_read w 8) a p a.form refl p.word
passed_reads w (Op.Sqrdmlsh a) p = element-reads Op.Sqrdmlsh sqrdmlsh_scalar.base sqrdmlsh_vector.base w refl refl (row_read w 11) (row_read w 10) a p a.form refl p.word
passed_reads w (Op.Sqdmulh a) p = group_reads w a p a.group refl

pub encode-decode : (op : Op) (w : ℕ) → encode_of op ≡ Ok w → Reads w op
encode-decode op w h = passed_reads w op ((word-exact op w).0 h)

pub encode_injective : (a b : Op) (w : ℕ) → encode_of a ≡ Ok w → encode_of b ≡ Ok w → a ≡ b
encode_injective a b w p q = same_op a b (sym (encode-decode a w p).1 ∙ (encode-decode b w q).1)
