-- The values of an operation that can be written make it again. Assumes nothing.
use Prim.Native.Nat.{ℕ, ◌<◌}
use mathlib.Core.Path.{◌≡◌, refl, sym, ap, ◌∙◌}
use mathlib.Core.Bool.{false}
use mathlib.Core.List.{[]}
use native.Mathlib.Omega.{arith}
use lib.Dec.{lit<}
use lib.ListN.{get_or}
use Rattle.isa.specs.declared.types.Size.{Size}
use Rattle.isa.specs.declared.types.Rotation.{Rotation}
use Rattle.isa.specs.declared.types.Form.{Form}
use Rattle.isa.specs.declared.types.MulIndexed.{MulIndexed}
use Rattle.isa.specs.declared.types.ByElement.{ByElement}
use Rattle.isa.specs.declared.types.Group.{Group}
use Rattle.isa.specs.declared.types.MulGroup.{MulGroup}
use Rattle.isa.specs.declared.types.Op.{Op}
use Rattle.isa.specs.Field.{Row}
use Rattle.isa.specs.Table.{cadd, sqcadd, cmla, sqrdcmlah, cmla_h, cmla_s, sqrdcmlah_h, sqrdcmlah_s, sqrdmlah_vector, sqrdmlah_scalar, sqrdmlsh_vector, sqrdmlsh_scalar}
use Rattle.isa.specs.Decode.{vector_of}
use Rattle.isa.specs.Encode.{WriteChecks, write_checks, half_or_single, by_size, indexed_checks, element_checks}
use Rattle.grammar.specs.Template.{Filled}
use Rattle.grammar.specs.Grammar.{variables, templates, pattern_count, by_form, form_bits, indexed_from, element_from, indexed_values, letter_a, letter_d, letter_e, letter_h, letter_i, letter_j, letter_k, letter_l, letter_m, letter_n, letter_p, letter_q, letter_r, pattern_of, values_of, element_values}
use Rattle.grammar.specs.Line.{Writable}
use Rattle.grammar.specs.Read.{make_at}
use Rattle.grammar.proofs.Guess.{differ}
use Rattle.grammar.proofs.Patterns.{Remakes, RemakesBy, is_set, add-good, add-again, mul-good, mul-again, indexed-in, indexed-good, indexed-again, element-in, element-good, element-again, group-in, group-good, group-again}

abbrev indexed : Size → ℕ → ℕ → ℕ → ℕ → Rotation → MulIndexed
indexed z zm index zn zda rot = record { size = z; zm = zm; index = index; zn = zn; zda = zda; rot = rot }

abbrev element : Size → ℕ → ℕ → ℕ → ℕ → Form → ByElement
element z rm index rn rd f = record { size = z; rm = rm; index = index; rn = rn; rd = rd; form = f }

-- ---- by the maker, and by what a filled template says of its letters

-- CMLA, SQRDCMLAH indexed: the patterns of H and of S
module _ (op : MulIndexed → Op) (h s : Row) (ph ps : ℕ) (checks : (a : MulIndexed) → write_checks (op a) ≡ indexed_checks h s a) (low_h : ph < pattern_count) (low_s : ps < pattern_count)
    (makes_h : (r : ℕ → ℕ) → make_at ph r ≡ op (indexed_from Size.H letter_l letter_j r)) (makes_s : (r : ℕ → ℕ) → make_at ps r ≡ op (indexed_from Size.S letter_h letter_k r))
    (filled_h : (r : ℕ → ℕ) → Filled variables (get_or templates ph []) r → (r letter_d < 32) × (r letter_n < 32) × (r letter_l < 8) × (r letter_j < 4) × (r letter_r < 4))
    (filled_s : (r : ℕ → ℕ) → Filled variables (get_or templates ps []) r → (r letter_d < 32) × (r letter_n < 32) × (r letter_h < 16) × (r letter_k < 2) × (r letter_r < 4)) where
  no-indexed : (a : MulIndexed) → Writable (op a) → half_or_single a.size ≡ false → ⊥
  no-indexed a w e = differ (sym w.size ∙ ap (λ (k : WriteChecks). k.size) (checks a) ∙ e)

  indexed-remakes : (z : Size) (zm index zn zda : ℕ) (rot : Rotation) → Writable (op (indexed z zm index zn zda rot))
      → RemakesBy (op (indexed z zm index zn zda rot)) (by_size ph ps z) (by_size (indexed_values letter_l letter_j) (indexed_values letter_h letter_k) z (indexed z zm index zn zda rot))
  unfolding variables
  indexed-remakes Size.B zm index zn zda rot w = absurd (no-indexed _ w refl)
  indexed-remakes Size.H zm index zn zda rot w =
      let a = indexed Size.H zm index zn zda rot in
      let p = indexed-in (op a) h s a (checks a) w in
      record {
        good = indexed-good letter_l letter_j a p (omega (arith, p.registers.first)) (omega (arith, p.index));
        within = low_h;
        again = λ r g t.
            let f = filled_h r t in
            makes_h r ∙ ap op (indexed-again letter_l letter_j a refl refl refl r g f.0 f.1 (omega (arith, f.2)) (omega (arith, f.3)) f.4);
      }
  indexed-remakes Size.S zm index zn zda rot w =
      let a = indexed Size.S zm index zn zda rot in
      let p = indexed-in (op a) h s a (checks a) w in
      record {
        good = indexed-good letter_h letter_k a p (omega (arith, p.registers.first)) (omega (arith, p.index));
        within = low_s;
        again = λ r g t.
            let f = filled_s r t in
            makes_s r ∙ ap op (indexed-again letter_h letter_k a refl refl refl r g f.0 f.1 (omega (arith, f.2)) (omega (arith, f.3)) f.4);
      }
  indexed-remakes Size.D zm index zn zda rot w = absurd (no-indexed _ w refl)

-- SQRDMLAH, SQRDMLSH: the patterns of a scalar and of vectors, of H and of S
module _ (op : ByElement → Op) (s v : Row) (psh pss pvh pvs : ℕ) (checks : (a : ByElement) → write_checks (op a) ≡ element_checks s v a)
    (low-sh : psh < pattern_count) (low-ss : pss < pattern_count) (low-vh : pvh < pattern_count) (low-vs : pvs < pattern_count)
    (makes-sh : (r : ℕ → ℕ) → make_at psh r ≡ op (element_from Size.H Form.Scalar letter_h letter_i r)) (makes-ss : (r : ℕ → ℕ) → make_at pss r ≡ op (element_from Size.S Form.Scalar letter_m letter_j r))
    (makes-vh : (r : ℕ → ℕ) → make_at pvh r ≡ op (element_from Size.H (vector_of (r letter_q)) letter_h letter_i r)) (makes-vs : (r : ℕ → ℕ) → make_at pvs r ≡ op (element_from Size.S (vector_of (r letter_p)) letter_m letter_j r))
    (filled-sh : (r : ℕ → ℕ) → Filled variables (get_or templates psh []) r → (r letter_d < 32) × (r letter_n < 32) × (r letter_h < 16) × (r letter_i < 8)) (filled-ss : (r : ℕ → ℕ) → Filled variables (get_or templates pss []) r → (r letter_d < 32) × (r letter_n < 32) × (r letter_m < 32) × (r letter_j < 4))
    (filled-vh : (r : ℕ → ℕ) → Filled variables (get_or templates pvh []) r → (r letter_d < 32) × (r letter_q < 2) × (r letter_n < 32) × (r letter_h < 16) × (r letter_i < 8)) (filled-vs : (r : ℕ → ℕ) → Filled variables (get_or templates pvs []) r → (r letter_d < 32) × (r letter_p < 2) × (r letter_n < 32) × (r letter_m < 32) × (r letter_j < 4)) where
  no-element : (a : ByElement) → Writable (op a) → half_or_single a.size ≡ false → ⊥
  no-element a w e = differ (sym w.size ∙ ap (λ (k : WriteChecks). k.size) (checks a) ∙ e)

  scalar_h : (rm index rn rd : ℕ) → Writable (op (element Size.H rm index rn rd Form.Scalar)) → RemakesBy (op (element Size.H rm index rn rd Form.Scalar)) psh (element_values letter_q letter_h letter_i (element Size.H rm index rn rd Form.Scalar))
  unfolding variables
  scalar_h rm index rn rd w =
      let a = element Size.H rm index rn rd Form.Scalar in
      let p = element-in (op a) s v a (checks a) w in
      record {
        good = element-good letter_q letter_h letter_i a p refl (omega (arith, p.registers.first)) (omega (arith, p.index));
        within = low-sh;
        again = λ r g t.
            let f = filled-sh r t in
            makes-sh r ∙ ap op (element-again letter_q letter_h letter_i a refl refl refl r g f.0 f.1 (omega (arith, f.2)) (omega (arith, f.3)) Form.Scalar refl);
      }

  scalar_s : (rm index rn rd : ℕ) → Writable (op (element Size.S rm index rn rd Form.Scalar)) → RemakesBy (op (element Size.S rm index rn rd Form.Scalar)) pss (element_values letter_p letter_m letter_j (element Size.S rm index rn rd Form.Scalar))
  unfolding variables
  scalar_s rm index rn rd w =
      let a = element Size.S rm index rn rd Form.Scalar in
      let p = element-in (op a) s v a (checks a) w in
      record {
        good = element-good letter_p letter_m letter_j a p refl (omega (arith, p.registers.first)) (omega (arith, p.index));
        within = low-ss;
        again = λ r g t.
            let f = filled-ss r t in
            makes-ss r ∙ ap op (element-again letter_p letter_m letter_j a refl refl refl r g f.0 f.1 (omega (arith, f.2)) (omega (arith, f.3)) Form.Scalar refl);
      }

  vector_h : (o : Form) → vector_of (form_bits o) ≡ o → (rm index rn rd : ℕ) → Writable (op (element Size.H rm index rn rd o)) → RemakesBy (op (element Size.H rm index rn rd o)) pvh (element_values letter_q letter_h letter_i (element Size.H rm index rn rd o))
  unfolding variables
  vector_h o back rm index rn rd w =
      let a = element Size.H rm index rn rd o in
      let p = element-in (op a) s v a (checks a) w in
      record {
        good = element-good letter_q letter_h letter_i a p refl (omega (arith, p.registers.first)) (omega (arith, p.index));
        within = low-vh;
        again = λ r g t.
            let f = filled-vh r t in
            makes-vh r ∙ ap op (element-again letter_q letter_h letter_i a refl refl refl r g f.0 f.2 (omega (arith, f.3)) (omega (arith, f.4)) (vector_of (r letter_q)) (ap vector_of (is_set r (element_values letter_q letter_h letter_i a) letter_q g (omega (arith, f.1))) ∙ back));
      }

  vector_s : (o : Form) → vector_of (form_bits o) ≡ o → (rm index rn rd : ℕ) → Writable (op (element Size.S rm index rn rd o)) → RemakesBy (op (element Size.S rm index rn rd o)) pvs (element_values letter_p letter_m letter_j (element Size.S rm index rn rd o))
  unfolding variables
  vector_s o back rm index rn rd w =
      let a = element Size.S rm index rn rd o in
      let p = element-in (op a) s v a (checks a) w in
      record {
        good = element-good letter_p letter_m letter_j a p refl (omega (arith, p.registers.first)) (omega (arith, p.index));
        within = low-vs;
        again = λ r g t.
            let f = filled-vs r t in
            makes-vs r ∙ ap op (element-again letter_p letter_m letter_j a refl refl refl r g f.0 f.2 (omega (arith, f.3)) (omega (arith, f.4)) (vector_of (r letter_p)) (ap vector_of (is_set r (element_values letter_p letter_m letter_j a) letter_p g (omega (arith, f.1))) ∙ back));
      }

  element-remakes : (z : Size) (o : Form) (rm index rn rd : ℕ) → Writable (op (element z rm index rn rd o))
      → RemakesBy (op (element z rm index rn rd o)) (by_form (by_size psh pss z) (by_size pvh pvs z) o) (by_size (element_values letter_q letter_h letter_i) (element_values letter_p letter_m letter_j) z (element z rm index rn rd o))
  element-remakes Size.B o rm index rn rd w = absurd (no-element _ w refl)
  element-remakes Size.H Form.Scalar rm index rn rd w = scalar_h rm index rn rd w
  element-remakes Size.H Form.Vector64 rm index rn rd w = vector_h Form.Vector64 refl rm index rn rd w
  element-remakes Size.H Form.Vector128 rm index rn rd w = vector_h Form.Vector128 refl rm index rn rd w
  element-remakes Size.S Form.Scalar rm index rn rd w = scalar_s rm index rn rd w
  element-remakes Size.S Form.Vector64 rm index rn rd w = vector_s Form.Vector64 refl rm index rn rd w
  element-remakes Size.S Form.Vector128 rm index rn rd w = vector_s Form.Vector128 refl rm index rn rd w
  element-remakes Size.D o rm index rn rd w = absurd (no-element _ w refl)

abbrev group : Group → Size → ℕ → ℕ → MulGroup
group g z zm zdn = record { size = z; zm = zm; zdn = zdn; group = g }

sqdmulh : (g : Group) (z : Size) (zm zdn : ℕ) → Writable (Op.Sqdmulh (group g z zm zdn)) → Remakes (Op.Sqdmulh (group g z zm zdn))
unfolding write_checks pattern_of values_of variables
sqdmulh Group.Two z zm zdn w =
    let a = group Group.Two z zm zdn in
    let p = group-in a refl w in
    record {
      good = group-good letter_a a p (omega (arith, p.first));
      within = lit< tt;
      again = λ r g f. ap Op.Sqdmulh (group-again letter_a a refl refl (omega (arith, p.start)) r g (omega (arith, f.0)) f.1.0 f.1.1.1.1.1.1.1.1.0);
    }
sqdmulh Group.Four z zm zdn w =
    let a = group Group.Four z zm zdn in
    let p = group-in a refl w in
    record {
      good = group-good letter_e a p (omega (arith, p.first));
      within = lit< tt;
      again = λ r g f. ap Op.Sqdmulh (group-again letter_e a refl refl (omega (arith, p.start)) r g (omega (arith, f.0)) f.1.0 f.1.1.1.1.1.1.1.1.0);
    }

pub remakes : (op : Op) → Writable op → Remakes op
unfolding write_checks pattern_of values_of variables
remakes (Op.Cadd a) w =
    record {
      good = add-good (Op.Cadd a) cadd a refl w;
      within = lit< tt;
      again = λ r g f. ap Op.Cadd (add-again (Op.Cadd a) cadd a refl w r g f.0 f.1.0 f.1.1.1.1.0 f.1.1.1.1.1.1.0);
    }
remakes (Op.Sqcadd a) w =
    record {
      good = add-good (Op.Sqcadd a) sqcadd a refl w;
      within = lit< tt;
      again = λ r g f. ap Op.Sqcadd (add-again (Op.Sqcadd a) sqcadd a refl w r g f.0 f.1.0 f.1.1.1.1.0 f.1.1.1.1.1.1.0);
    }
remakes (Op.Cmla a) w =
    record {
      good = mul-good (Op.Cmla a) cmla a refl w;
      within = lit< tt;
      again = λ r g f. ap Op.Cmla (mul-again (Op.Cmla a) cmla a refl w r g f.0 f.1.0 f.1.1.0 f.1.1.1.1.0 f.1.1.1.1.1.1.0);
    }
remakes (Op.Sqrdcmlah a) w =
    record {
      good = mul-good (Op.Sqrdcmlah a) sqrdcmlah a refl w;
      within = lit< tt;
      again = λ r g f. ap Op.Sqrdcmlah (mul-again (Op.Sqrdcmlah a) sqrdcmlah a refl w r g f.0 f.1.0 f.1.1.0 f.1.1.1.1.0 f.1.1.1.1.1.1.0);
    }
remakes (Op.CmlaIndexed a) w =
    indexed-remakes Op.CmlaIndexed cmla_h cmla_s 2 3 (λ a. refl) (lit< tt) (lit< tt) (λ r. refl) (λ r. refl)
    (λ r f. (f.0, f.1.0, f.1.1.0, f.1.1.1.0, f.1.1.1.1.0))
    (λ r f. (f.0, f.1.0, f.1.1.0, f.1.1.1.0, f.1.1.1.1.0))
    a.size a.zm a.index a.zn a.zda a.rot w
remakes (Op.SqrdcmlahIndexed a) w =
    indexed-remakes Op.SqrdcmlahIndexed sqrdcmlah_h sqrdcmlah_s 6 7 (λ a. refl) (lit< tt) (lit< tt) (λ r. refl) (λ r. refl)
    (λ r f. (f.0, f.1.0, f.1.1.0, f.1.1.1.0, f.1.1.1.1.0))
    (λ r f. (f.0, f.1.0, f.1.1.0, f.1.1.1.0, f.1.1.1.1.0))
    a.size a.zm a.index a.zn a.zda a.rot w
remakes (Op.Sqrdmlah a) w =
    element-remakes Op.Sqrdmlah sqrdmlah_scalar sqrdmlah_vector 8 9 10 11 (λ a. refl) (lit< tt) (lit< tt) (lit< tt) (lit< tt) (λ r. refl) (λ r. refl) (λ r. refl) (λ r. refl)
    (λ r f. (f.0, f.1.0, f.1.1.0, f.1.1.1.0))
    (λ r f. (f.0, f.1.0, f.1.1.0, f.1.1.1.0))
    (λ r f. (f.0, f.1.0, f.1.1.0, f.1.1.1.1.0, f.1.1.1.1.1.0))
    (λ r f. (f.0, f.1.0, f.1.1.0, f.1.1.1.1.0, f.1.1.1.1.1.0))
    a.size a.form a.rm a.index a.rn a.rd w
remakes (Op.Sqrdmlsh a) w =
    element-remakes Op.Sqrdmlsh sqrdmlsh_scalar sqrdmlsh_vector 12 13 14 15 (λ a. refl) (lit< tt) (lit< tt) (lit< tt) (lit< tt) (λ r. refl) (λ r. refl) (λ r. refl) (λ r. refl)
    (λ r f. (f.0, f.1.0, f.1.1.0, f.1.1.1.0))
    (λ r f. (f.0, f.1.0, f.1.1.0, f.1.1.1.0))
    (λ r f. (f.0, f.1.0, f.1.1.0, f.1.1.1.1.0, f.1.1.1.1.1.0))
    (λ r f. (f.0, f.1.0, f.1.1.0, f.1.1.1.1.0, f.1.1.1.1.1.0))
    a.size a.form a.rm a.index a.rn a.rd w
remakes (Op.Sqdmulh a) w = sqdmulh a.group a.size a.zm a.zdn w
