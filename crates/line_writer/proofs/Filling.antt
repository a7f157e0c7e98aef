-- Writing a line: the values of an operation in an array, a template filled, and a text copied. Assumes nothing.
use Prim.Native.Nat.{ℕ, zero, suc, ◌+◌, ◌-◌, ◌/◌, ◌%◌, ◌≤◌, ◌<◌}
use mathlib.Core.Path.{◌≡◌, refl, sym, ap, ◌∙◌, subst, fun_ext}
use mathlib.Core.List.{List, [], ◌∷◌, ◌++◌, map, append_assoc, append-nil}
use mathlib.Core.Logic.{◌⊎◌, ⊎_elim}
use native.Mathlib.Omega.{arith}
use native.Mathlib.Decide.{ℕ_discrete}
use borrow.Author.Tests.{eq-eqb, ne_eqb}
use lib.ListN.{length, get_or, set, take, drop, replicate, length-set, length-append, drop_of_length-le}
use lib.Seq.{drop-cons, take-suc, take-set-le, get_or-set_same, get_or-set_other}
use Rattle.isa.specs.declared.types.Size.{Size}
use Rattle.isa.specs.declared.types.MulIndexed.{MulIndexed}
use Rattle.isa.specs.declared.types.ByElement.{ByElement}
use Rattle.isa.specs.declared.types.Group.{Group}
use Rattle.isa.specs.declared.types.MulGroup.{MulGroup}
use Rattle.isa.specs.Register.{by_group, group_count}
use Rattle.grammar.specs.Template.{Item, byte, var, text_of, fill, bind}
use Rattle.grammar.specs.Grammar.{alphabet, unused, slot_of, variables, item_of, letter_count, line_max, letter_a, letter_e, letter_h, letter_i, letter_j, letter_k, letter_l, letter_m, letter_p, letter_q, no_values, indexed_values, element_values}
use Rattle.grammar.specs.Packed.{unpack, text_bytes}
use Rattle.letters.proofs.Items.{item-letter}
use Rattle.line_writer.specs.Fill.{values_from, Few, indexed_by, element_by, group_with, group_by, item_text}

-- ---- values

pub set-from : (vs : List ℕ) (x v : ℕ) (e : ℕ → ℕ) → x < length vs → values_from vs ≡ e → values_from (set vs x v) ≡ bind x v e
set-from vs x v e h k =
    fun_ext (λ y.
    elim (ℕ_discrete y x) [
      | yes p ↦ ap (values_from (set vs x v)) p ∙ get_or-set_same vs x v 0 h ∙ sym (rw (eq-eqb y x p))
      | no n ↦ get_or-set_other vs x y v 0 n ∙ ap (λ (f : ℕ → ℕ). f y) k ∙ sym (rw (ne_eqb y x n))
    ])

zeros : (n y : ℕ) → values_from (replicate n 0) y ≡ 0
zeros zero y = refl
zeros (suc n) zero = refl
zeros (suc n) (suc y) = zeros n y

none_from : values_from (replicate letter_count 0) ≡ no_values
none_from = fun_ext (λ y. zeros letter_count y)

-- an array of so many places, with values at some of them
pub record Holds (vs : List ℕ) (e : ℕ → ℕ) : Type 0 where
  pub sized : length vs ≡ letter_count
  pub is : values_from vs ≡ e

pub holds-none : Holds (replicate letter_count 0) no_values
holds-none = record { sized = refl; is = none_from }

pub holds-set : {vs : List ℕ} {e : ℕ → ℕ} (x : ℕ) {v w : ℕ} → x < letter_count → v ≡ w → Holds vs e → Holds (set vs x v) (bind x w e)
holds-set {vs} {e} x {v} {w} h k p =
    record {
      sized = length-set vs x v ∙ p.sized;
      is = set-from vs x v e (omega (arith, p.sized)) p.is ∙ ap (λ (z : ℕ). bind x z e) k;
    }

-- ---- one item, at the end of a text in an array

take-here : (l : List ℕ) (i a : ℕ) → i < length l → take (suc i) (set l i a) ≡ take i l ++ (a ∷ [])
take-here l i a h =
    take-suc (set l i a) i 0 (omega (arith, length-set l i a))
    ∙ ap (λ (s : List ℕ). s ++ (get_or (set l i a) i 0 ∷ [])) (take-set-le i l i a (omega arith))
    ∙ ap (λ (z : ℕ). take i l ++ (z ∷ [])) (get_or-set_same l i a 0 h)

pub pushes-byte : (c : ℕ) (l : List ℕ) (at : ℕ) → at < length l → take (at + 1) (set l at c) ≡ take at l ++ (c ∷ [])
pushes-byte c l at h =
    let next : at + 1 ≡ suc at = omega arith in
    ap (λ (n : ℕ). take n (set l at c)) next ∙ take-here l at c h

-- up to three bytes, all three of which are stored
module _ (l : List ℕ) (at p : ℕ) (h : at + 2 < length l) where
  abbrev a : ℕ
  a = p % 256

  abbrev b : ℕ
  b = p / 256 % 256

  abbrev c : ℕ
  c = p / 256 / 256 % 256

  abbrev one : List ℕ
  one = set l at a

  abbrev two : List ℕ
  two = set one (at + 1) b

  abbrev three : List ℕ
  three = set two (at + 2) c

  sized-one : length one ≡ length l
  sized-one = length-set l at a

  sized-two : length two ≡ length l
  sized-two = length-set one (at + 1) b ∙ sized-one

  -- what the three stores leave, up to each
  to_one : take (suc at) one ≡ take at l ++ (a ∷ [])
  to_one = take-here l at a (omega arith)

  to-two : take (suc (suc at)) two ≡ take at l ++ (a ∷ b ∷ [])
  to-two =
      let e : at + 1 ≡ suc at = omega arith in
      ap (λ (n : ℕ). take (suc n) two) (sym e)
      ∙ take-here one (at + 1) b (omega (arith, sized-one))
      ∙ ap (λ (n : ℕ). take n one ++ (b ∷ [])) e
      ∙ ap (λ (s : List ℕ). s ++ (b ∷ [])) to_one
      ∙ append_assoc (take at l) (a ∷ []) (b ∷ [])

  to-three : take (suc (suc (suc at))) three ≡ take at l ++ (a ∷ b ∷ c ∷ [])
  to-three =
      let e : at + 2 ≡ suc (suc at) = omega arith in
      ap (λ (n : ℕ). take (suc n) three) (sym e)
      ∙ take-here two (at + 2) c (omega (arith, sized-two))
      ∙ ap (λ (n : ℕ). take n two ++ (c ∷ [])) e
      ∙ ap (λ (s : List ℕ). s ++ (c ∷ [])) to-two
      ∙ append_assoc (take at l) (a ∷ b ∷ []) (c ∷ [])

  up_to : (n : ℕ) → n ≤ 3 → take (at + n) three ≡ take at l ++ unpack n p
  unfolding unpack
  up_to zero k =
      let e : at + 0 ≡ at = omega arith in
      ap (λ (n : ℕ). take n three) e
      ∙ take-set-le at two (at + 2) c (omega arith) ∙ take-set-le at one (at + 1) b (omega arith) ∙ take-set-le at l at a (omega arith)
      ∙ sym (append-nil (take at l))
  up_to (suc zero) k =
      let e : at + 1 ≡ suc at = omega arith in
      ap (λ (n : ℕ). take n three) e
      ∙ take-set-le (suc at) two (at + 2) c (omega arith) ∙ take-set-le (suc at) one (at + 1) b (omega arith)
      ∙ to_one
  up_to (suc (suc zero)) k =
      let e : at + 2 ≡ suc (suc at) = omega arith in
      ap (λ (n : ℕ). take n three) e ∙ take-set-le (suc (suc at)) two (at + 2) c (omega arith) ∙ to-two
  up_to (suc (suc (suc zero))) k =
      let e : at + 3 ≡ suc (suc (suc at)) = omega arith in
      ap (λ (n : ℕ). take n three) e ∙ to-three
  up_to (suc (suc (suc (suc n)))) k = absurd (omega arith)

  pub pushes-text : p / 16777216 ≤ 3 → take (at + p / 16777216) three ≡ take at l ++ text_bytes p
  unfolding text_bytes
  pushes-text k = up_to (p / 16777216) k

-- the text of a letter, as the code looked it up
pub letter-said : (c : ℕ) (vs : List ℕ) (y p : ℕ) → (97 ≤ c) × (c ≤ 122) → y ≡ slot_of (c - 97) → text_bytes p ≡ text_of (get_or alphabet (c - 97) unused) (values_from vs y) → text_bytes p ≡ item_text (item_of c) (values_from vs)
letter-said c vs y p h e t = t ∙ ap (λ (z : ℕ). text_of (get_or alphabet (c - 97) unused) (values_from vs z)) e ∙ ap (λ (i : Item). item_text i (values_from vs)) (item-letter c h.0 h.1)

-- ---- a template

fill-item : (i : Item) (t : List Item) (e : ℕ → ℕ) → fill variables (i ∷ t) e ≡ item_text i e ++ fill variables t e
unfolding variables
fill-item (byte b) t e = refl
fill-item (var x) t e = refl

abbrev pub filled : List ℕ → List ℕ → List ℕ
filled t vs = fill variables (map item_of t) (values_from vs)

-- the bytes so far, and what is left to write
pub record Filling (t vs line : List ℕ) (k : ℕ) : Type 0 where
  pub within : k ≤ length t
  pub held : line ++ filled (drop k t) vs ≡ filled t vs

pub filling-starts : (t vs : List ℕ) → Filling t vs [] 0
filling-starts t vs = record { within = omega arith; held = refl }

module _ {t vs line : List ℕ} {k : ℕ} (f : Filling t vs line k) (h : k < length t) where
  abbrev text : List ℕ
  text = item_text (item_of (get_or t k 0)) (values_from vs)

  abbrev rest : List ℕ
  rest = filled (drop (suc k) t) vs

  here : line ++ (text ++ rest) ≡ filled t vs
  here = ap (λ (u : List ℕ). line ++ u) (sym (ap (λ (u : List ℕ). filled u vs) (drop-cons t k 0 h) ∙ fill-item (item_of (get_or t k 0)) (map item_of (drop (suc k) t)) (values_from vs))) ∙ f.held

  pub filling-fits : length (filled t vs) ≤ line_max → length line + length text ≤ line_max
  filling-fits n = omega (arith, ap length here, length-append line (text ++ rest), length-append text rest)

  pub filling-on : Filling t vs (line ++ text) (k + 1)
  filling-on =
      let one : suc k ≡ k + 1 = omega arith in
      record { within = omega arith; held = ap (λ (n : ℕ). (line ++ text) ++ filled (drop n t) vs) (sym one) ∙ append_assoc line text rest ∙ here }

pub filling-ends : {t vs line : List ℕ} {k : ℕ} → Filling t vs line k → length t ≤ k → line ≡ filled t vs
filling-ends {t} {vs} {line} {k} f h =
    let none : filled (drop k t) vs ≡ [] = ap (λ (u : List ℕ). filled u vs) (drop_of_length-le t h) in
    sym (append-nil line) ∙ ap (λ (s : List ℕ). line ++ s) (sym none) ∙ f.held

-- ---- by the size

pub few-same : {e f : ℕ → ℕ} → e ≡ f → Few e → Few f
few-same {e} {f} k p = subst (λ (g : ℕ → ℕ). Few g) k p

-- B and H, S and D
pub indexed-half : (a : MulIndexed) → (a.size ≡ Size.B) ⊎ (a.size ≡ Size.H) → indexed_by a ≡ indexed_values letter_l letter_j a
indexed-half a e = ⊎_elim (λ b. rw b) (λ h. rw h) e

pub indexed-single : (a : MulIndexed) → (a.size ≡ Size.S) ⊎ (a.size ≡ Size.D) → indexed_by a ≡ indexed_values letter_h letter_k a
indexed-single a e = ⊎_elim (λ s. rw s) (λ d. rw d) e

pub element-half : (a : ByElement) → (a.size ≡ Size.B) ⊎ (a.size ≡ Size.H) → element_by a ≡ element_values letter_q letter_h letter_i a
element-half a e = ⊎_elim (λ b. rw b) (λ h. rw h) e

pub element-single : (a : ByElement) → (a.size ≡ Size.S) ⊎ (a.size ≡ Size.D) → element_by a ≡ element_values letter_p letter_m letter_j a
element-single a e = ⊎_elim (λ s. rw s) (λ d. rw d) e

pub group-by : (a : MulGroup) (g : Group) → a.group ≡ g → group_by a ≡ group_with (by_group letter_a letter_e g) (a.zdn / group_count g) a
group-by a g e = ap (λ (h : Group). group_with (by_group letter_a letter_e h) (a.zdn / group_count h) a) e
