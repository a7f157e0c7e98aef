-- A word by the fixed bits and the fields of a row, for any row whose fields go down and are zero in its base (`sound`).
-- `fields-written`: a word that is written from numbers that fit has those numbers in its fields.
-- `fixed-matches`, `matches-fixed`: a word of 32 bits matches a row exactly when its fixed bits are the base's.
-- Assumes nothing.
use Prim.Native.Nat.{ℕ, zero, suc, ◌+◌, ◌-◌, ◌*◌, ◌/◌, ◌%◌, ◌^◌, ◌<◌, ◌≤◌}
use mathlib.Core.Path.{◌≡◌, refl, sym, ap, ap₂, ◌∙◌, subst}
use mathlib.Core.List.{List, [], ◌∷◌}
use mathlib.Core.Bool.{Bool, true, false, ◌&&◌}
use native.Mathlib.Omega.{arith}
use native.Mathlib.Nat.{mod-lt, mod-eq_of_lt, mod-one, add-mul, add_comm, div-one}
use borrow.Author.Tests.{leb-true, eqb-true}
use lib.Dec.{leb, eqb}
use lib.Arith.{digits_lt}
use lib.Pow.{pow-add, pow_pos, mod-pow-add, mod-mod-pow, field, high, low, shr-shr}
use Rattle.isa.specs.Field.{Field, Row, width, field_value, field_sum, field_values, row_word}

-- ---- sound rows

-- below bit `top`: the fields go down, and the base is zero in each
abbrev pub sound_below : ℕ → ℕ → List Field → Bool
sound_below top base [] = true
sound_below top base (f ∷ fs) = leb (width f + f.low) top && (eqb (field_value f base) 0 && sound_below f.low base fs)

abbrev pub sound : Row → Bool
sound r = leb r.base 4294967295 && sound_below 32 r.base r.fields

-- each number fits its field
abbrev pub Fit : List Field → List ℕ → Type 0
Fit [] [] = Unit {0}
Fit [] (v ∷ vs) = ⊥
Fit (f ∷ fs) [] = ⊥
Fit (f ∷ fs) (v ∷ vs) = (v < 2 ^ width f) × Fit fs vs

pub and_left : (a b : Bool) → (a && b) ≡ true → a ≡ true
and_left true b e = refl
and_left false b e = e

pub and_right : (a b : Bool) → (a && b) ≡ true → b ≡ true
and_right true b e = e
and_right false b e = let z : true ≡ false = sym e in cc

-- what the fields of any word hold fits
pub fields_fit : (fs : List Field) (w : ℕ) → Fit fs (field_values fs w)
fields_fit [] w = tt
fields_fit (f ∷ fs) w = (mod-lt (w / 2 ^ f.low) (pow_pos (width f)), fields_fit fs w)

-- ---- one field

-- a number below bit g + k + l: what stands above the field at l, of k bits, the field, and what stands below
parts : (x g k l : ℕ) → x % 2 ^ ((g + k) + l) ≡ ((x / 2 ^ l / 2 ^ k % 2 ^ g) * 2 ^ k + x / 2 ^ l % 2 ^ k) * 2 ^ l + x % 2 ^ l
parts x g k l = mod-pow-add x (g + k) l ∙ ap (λ (d : ℕ). d * 2 ^ l + x % 2 ^ l) (mod-pow-add (x / 2 ^ l) g k)

regroup : (a z v b r p : ℕ) → z ≡ 0 → (a + z) * b + r + (v * b + p) ≡ (a + v) * b + (r + p)
regroup a z v b r p e = simp (e, add-mul) (omega arith)

-- the base with a number in the field and p below it
base-parts : (base g k l v p : ℕ) → base / 2 ^ l % 2 ^ k ≡ 0 → base % 2 ^ ((g + k) + l) + (v * 2 ^ l + p) ≡ ((base / 2 ^ l / 2 ^ k % 2 ^ g) * 2 ^ k + v) * 2 ^ l + (base % 2 ^ l + p)
base-parts base g k l v p z =
    ap (λ (x : ℕ). x + (v * 2 ^ l + p)) (parts base g k l)
    ∙ regroup ((base / 2 ^ l / 2 ^ k % 2 ^ g) * 2 ^ k) (base / 2 ^ l % 2 ^ k) v (2 ^ l) (base % 2 ^ l) p z

-- a word that is the base with v in the field and p below it has v there, the base's bits above, and p below
record FieldRead (w base g k l v p : ℕ) : Type 0 where
  below : w % 2 ^ l ≡ base % 2 ^ l + p
  here : w / 2 ^ l % 2 ^ k ≡ v
  above : w / 2 ^ l / 2 ^ k % 2 ^ g ≡ base / 2 ^ l / 2 ^ k % 2 ^ g

field-read : (w base g k l v p : ℕ) → base / 2 ^ l % 2 ^ k ≡ 0 → base % 2 ^ l + p < 2 ^ l → v < 2 ^ k → w % 2 ^ ((g + k) + l) ≡ base % 2 ^ ((g + k) + l) + (v * 2 ^ l + p) → FieldRead w base g k l v p
field-read w base g k l v p z hp hv e =
    let gap = base / 2 ^ l / 2 ^ k % 2 ^ g in
    let whole : w % 2 ^ ((g + k) + l) ≡ (gap * 2 ^ k + v) * 2 ^ l + (base % 2 ^ l + p) = e ∙ base-parts base g k l v p z in
    let upper : w / 2 ^ l % 2 ^ (g + k) ≡ gap * 2 ^ k + v = sym (field w (g + k) l) ∙ ap (λ (x : ℕ). x / 2 ^ l) whole ∙ high (gap * 2 ^ k + v) l hp in
    record {
      below = sym (mod-mod-pow w (g + k) l) ∙ ap (λ (x : ℕ). x % 2 ^ l) whole ∙ low (gap * 2 ^ k + v) l hp;
      here = sym (mod-mod-pow (w / 2 ^ l) g k) ∙ ap (λ (x : ℕ). x % 2 ^ k) upper ∙ low gap k hv;
      above = sym (field (w / 2 ^ l) g k) ∙ ap (λ (x : ℕ). x / 2 ^ k) upper ∙ high gap k hv;
    }

-- the other way: a word with the base's bits above its field and p below is the base with its own field
field-built : (w base g k l p : ℕ) → base / 2 ^ l % 2 ^ k ≡ 0 → w / 2 ^ l / 2 ^ k % 2 ^ g ≡ base / 2 ^ l / 2 ^ k % 2 ^ g → w % 2 ^ l ≡ base % 2 ^ l + p → w % 2 ^ ((g + k) + l) ≡ base % 2 ^ ((g + k) + l) + ((w / 2 ^ l % 2 ^ k) * 2 ^ l + p)
field-built w base g k l p z above below =
    parts w g k l
    ∙ ap₂ (λ (x y : ℕ). (x * 2 ^ k + w / 2 ^ l % 2 ^ k) * 2 ^ l + y) above below
    ∙ sym (base-parts base g k l (w / 2 ^ l % 2 ^ k) p z)

-- ---- all fields

at_top : (top k l : ℕ) → k + l ≤ top → top ≡ ((top - (k + l)) + k) + l
at_top top k l h = omega arith

-- n bits of a word from `low` on are those of the base; where n is 0 there is nothing to say
abbrev pub SameBits : ℕ → ℕ → ℕ → ℕ → Type 0
SameBits zero low base w = Unit {0}
SameBits (suc n) low base w = w / 2 ^ low % 2 ^ suc n ≡ base / 2 ^ low % 2 ^ suc n

-- the bits below `top` that are in no field are those of the base
abbrev pub FixedBelow : ℕ → ℕ → ℕ → List Field → Type 0
FixedBelow top base w [] = SameBits top 0 base w
FixedBelow top base w (f ∷ fs) = SameBits (top - (width f + f.low)) (width f + f.low) base w × FixedBelow f.low base w fs

same_bits : (n low base w : ℕ) → SameBits n low base w → w / 2 ^ low % 2 ^ n ≡ base / 2 ^ low % 2 ^ n
same_bits zero low base w s = mod-one (w / 2 ^ low) ∙ sym (mod-one (base / 2 ^ low))
same_bits (suc n) low base w s = s

bits-same : (n low base w : ℕ) → w / 2 ^ low % 2 ^ n ≡ base / 2 ^ low % 2 ^ n → SameBits n low base w
bits-same zero low base w e = tt
bits-same (suc n) low base w e = e

-- the bits above a field, in one division and in two
two_steps : (x k l : ℕ) → x / 2 ^ l / 2 ^ k ≡ x / 2 ^ (k + l)
two_steps x k l = shr-shr x l k ∙ ap (λ (n : ℕ). x / 2 ^ n) (add_comm l k)

module _ (base : ℕ) where
  -- the parts of `sound_below` at a field
  fits-top : (top : ℕ) (f : Field) (fs : List Field) → sound_below top base (f ∷ fs) ≡ true → width f + f.low ≤ top
  fits-top top f fs s = leb-true (width f + f.low) top (and_left _ _ s)

  zero-here : (top : ℕ) (f : Field) (fs : List Field) → sound_below top base (f ∷ fs) ≡ true → field_value f base ≡ 0
  zero-here top f fs s = eqb-true (field_value f base) 0 (and_left (eqb (field_value f base) 0) (sound_below f.low base fs) (and_right (leb (width f + f.low) top) _ s))

  sound-rest : (top : ℕ) (f : Field) (fs : List Field) → sound_below top base (f ∷ fs) ≡ true → sound_below f.low base fs ≡ true
  sound-rest top f fs s = and_right (eqb (field_value f base) 0) (sound_below f.low base fs) (and_right (leb (width f + f.low) top) _ s)

  -- what is written below a bit stays below it
  stays-below : (top : ℕ) (fs : List Field) (vs : List ℕ) → sound_below top base fs ≡ true → Fit fs vs → base % 2 ^ top + field_sum fs vs < 2 ^ top
  stays-below top [] [] s h = omega (arith, mod-lt base (pow_pos top))
  stays-below top [] (v ∷ vs) s h = absurd h
  stays-below top (f ∷ fs) [] s h = absurd h
  stays-below top (f ∷ fs) (v ∷ vs) s h =
      let k = width f in
      let l = f.low in
      let g = top - (k + l) in
      let less : ((base / 2 ^ l / 2 ^ k % 2 ^ g) * 2 ^ k + v) * 2 ^ l + (base % 2 ^ l + field_sum fs vs) < (2 ^ g * 2 ^ k) * 2 ^ l =
      digits_lt (digits_lt (mod-lt (base / 2 ^ l / 2 ^ k) (pow_pos g)) h.0) (stays-below l fs vs (sound-rest top f fs s) h.1) in
      subst (λ (n : ℕ). base % 2 ^ n + (v * 2 ^ l + field_sum fs vs) < 2 ^ n) (sym (at_top top k l (fits-top top f fs s)))
      (rw (base-parts base g k l v (field_sum fs vs) (zero-here top f fs s), pow-add 2 (g + k) l, pow-add 2 g k) less)

  -- a word written from numbers that fit has them in its fields, and the base's bits elsewhere
  reads : (top w : ℕ) (fs : List Field) (vs : List ℕ) → sound_below top base fs ≡ true → Fit fs vs → w % 2 ^ top ≡ base % 2 ^ top + field_sum fs vs → (field_values fs w ≡ vs) × FixedBelow top base w fs
  reads top w [] [] s h e = (refl, bits-same top 0 base w (rw (div-one w, div-one base) (e ∙ (omega arith))))
  reads top w [] (v ∷ vs) s h e = absurd h
  reads top w (f ∷ fs) [] s h e = absurd h
  reads top w (f ∷ fs) (v ∷ vs) s h e =
      let k = width f in
      let l = f.low in
      let g = top - (k + l) in
      let rest = sound-rest top f fs s in
      let r = field-read w base g k l v (field_sum fs vs) (zero-here top f fs s) (stays-below l fs vs rest h.1) h.0
      (subst (λ (n : ℕ). w % 2 ^ n ≡ base % 2 ^ n + (v * 2 ^ l + field_sum fs vs)) (at_top top k l (fits-top top f fs s)) e) in
      let more = reads l w fs vs rest h.1 r.below in
      (ap₂ (λ (x : ℕ) (xs : List ℕ). x ∷ xs) r.here more.0, (bits-same g (k + l) base w (rw (← two_steps w k l, ← two_steps base k l) r.above), more.1))

  -- a word with the base's bits elsewhere is the base with its own fields
  built : (top w : ℕ) (fs : List Field) → sound_below top base fs ≡ true → FixedBelow top base w fs → w % 2 ^ top ≡ base % 2 ^ top + field_sum fs (field_values fs w)
  built top w [] s h = (rw (div-one w, div-one base) at (same_bits top 0 base w h)) ∙ (omega arith)
  built top w (f ∷ fs) s h =
      let k = width f in
      let l = f.low in
      let g = top - (k + l) in
      let above : w / 2 ^ l / 2 ^ k % 2 ^ g ≡ base / 2 ^ l / 2 ^ k % 2 ^ g = rw (two_steps w k l, two_steps base k l) (same_bits g (k + l) base w h.0) in
      subst (λ (n : ℕ). w % 2 ^ n ≡ base % 2 ^ n + ((w / 2 ^ l % 2 ^ k) * 2 ^ l + field_sum fs (field_values fs w))) (sym (at_top top k l (fits-top top f fs s)))
      (field-built w base g k l (field_sum fs (field_values fs w)) (zero-here top f fs s) above (built l w fs (sound-rest top f fs s) h.1))

-- ---- rows

-- the word matches the row
abbrev pub Of : Row → ℕ → Type 0
Of r w = w ≡ row_word r (field_values r.fields w)

-- the bits of the word that are in no field of the row are those of its base
abbrev pub Fixed : Row → ℕ → Type 0
Fixed r w = FixedBelow 32 r.base w r.fields

module _ (r : Row) (s : sound r ≡ true) where
  base-fits : r.base % 2 ^ 32 ≡ r.base
  base-fits = mod-eq_of_lt (let h = leb-true r.base 4294967295 (and_left _ _ s) in omega arith)

  sound-fields : sound_below 32 r.base r.fields ≡ true
  sound-fields = and_right (leb r.base 4294967295) _ s

  pub written-lt : (vs : List ℕ) → Fit r.fields vs → row_word r vs < 2 ^ 32
  written-lt vs h = rw base-fits at (stays-below r.base 32 r.fields vs sound-fields h)

  read_back : (vs : List ℕ) → Fit r.fields vs → (field_values r.fields (row_word r vs) ≡ vs) × Fixed r (row_word r vs)
  read_back vs h =
      reads r.base 32 (row_word r vs) r.fields vs sound-fields h
      (mod-eq_of_lt (written-lt vs h) ∙ ap (λ (b : ℕ). b + field_sum r.fields vs) (sym base-fits))

  pub fields-written : (vs : List ℕ) → Fit r.fields vs → field_values r.fields (row_word r vs) ≡ vs
  fields-written vs h = (read_back vs h).0

  pub of-written : (vs : List ℕ) → Fit r.fields vs → Of r (row_word r vs)
  of-written vs h = ap (row_word r) (sym (fields-written vs h))

  pub of_lt : (w : ℕ) → Of r w → w < 2 ^ 32
  of_lt w e = rw (sym e) at (written-lt (field_values r.fields w) (fields_fit r.fields w))

  pub matches-fixed : (w : ℕ) → Of r w → Fixed r w
  matches-fixed w e = subst (Fixed r) (sym e) (read_back (field_values r.fields w) (fields_fit r.fields w)).1

  pub fixed-matches : (w : ℕ) → w < 2 ^ 32 → Fixed r w → Of r w
  fixed-matches w h f = sym (mod-eq_of_lt h) ∙ built r.base 32 w r.fields sound-fields f ∙ ap (λ (b : ℕ). b + field_sum r.fields (field_values r.fields w)) base-fits
