-- Templates that have no line in common_prefix, by a test that is computed: they go alike, item by item, up to two bytes that differ, or to letters that cannot have one text.
use Prim.Native.Nat.{ℕ, zero, suc, ◌+◌, ◌/◌, ◌%◌, ◌≤◌, ◌<◌}
use mathlib.Core.Path.{◌≡◌, refl, sym, ap, ◌∙◌, subst}
use mathlib.Core.Bool.{Bool, true, false, ◌&&◌, ◌||◌, not}
use mathlib.Core.List.{List, [], ◌∷◌, ◌++◌}
use native.Mathlib.Omega.{arith}
use native.Mathlib.Decide.{ℕ_discrete, dec_le}
use borrow.Author.Tests.{eqb-true, eq-eqb, not-true}
use lib.Dec.{eqb}
use lib.ListN.{length, get_or, take, length-append}
use lib.Seq.{take-append_seam, take_at}
use Rattle.grammar.specs.Template.{Item, byte, var, Choices, numbers, texts, Variables, decimal, text_of, count, fill, Filled}
use Rattle.grammar.specs.Follow.{is_digit}
use Rattle.grammar.proofs.Guess.{and-true, both_true, differ, digit-is, decimal-one, by-tens, sound_choices, numbers-low}
use Rattle.grammar.proofs.Follow.{follows, ends_number, clear}

-- ---- one byte

abbrev pub single : List (List ℕ) → Bool
single [] = true
single (w ∷ ws) = eqb (length w) 1 && single ws

abbrev pub alike : Choices → Choices → Bool
alike (numbers ns) (numbers ms) = true
alike (numbers ns) (texts ws) = false
alike (texts ws) (numbers ns) = false
alike (texts ws) (texts us) = single ws && single us

abbrev pub one_byte : Choices → Bool
one_byte (numbers ns) = false
one_byte (texts ws) = single ws

-- ---- pairs of letters: two that share their slots with two before, and never have the texts of both pairs alike

abbrev pub same_text : List ℕ → List ℕ → Bool
same_text [] [] = true
same_text [] (b ∷ t) = false
same_text (a ∷ s) [] = false
same_text (a ∷ s) (b ∷ t) = eqb a b && same_text s t

abbrev pub all_below : (ℕ → Bool) → ℕ → Bool
all_below p zero = true
all_below p (suc n) = p n && all_below p n

abbrev pub both : Variables → ℕ → ℕ → ℕ → ℕ → ℕ → ℕ → Bool
both vs x y x' y' v w = same_text (text_of (vs.choices x) v) (text_of (vs.choices y) w) && same_text (text_of (vs.choices x') v) (text_of (vs.choices y') w)

abbrev pub clash : Variables → ℕ → ℕ → ℕ → ℕ → Bool
clash vs x y x' y' =
    eqb (vs.slot x) (vs.slot x') && (eqb (vs.slot y) (vs.slot y') && all_below (λ v. all_below (λ w. not (both vs x y x' y' v w)) (count (vs.choices y))) (count (vs.choices x)))

abbrev pub clashes : Variables → ℕ → ℕ → List (ℕ × ℕ) → Bool
clashes vs x y [] = false
clashes vs x y (p ∷ ps) = clash vs x y p.0 p.1 || clashes vs x y ps

-- alike up to two bytes that differ, or up to two letters that clash with two before
abbrev pub apart_for : Variables → List (ℕ × ℕ) → List Item → List Item → Bool
apart_for vs ps [] u = false
apart_for vs ps (byte a ∷ t) [] = false
apart_for vs ps (byte a ∷ t) (byte b ∷ u) = not (eqb a b) || apart_for vs ps t u
apart_for vs ps (byte a ∷ t) (var y ∷ u) = one_byte (vs.choices y) && apart_for vs ps t u
apart_for vs ps (var x ∷ t) [] = false
apart_for vs ps (var x ∷ t) (byte b ∷ u) = one_byte (vs.choices x) && apart_for vs ps t u
apart_for vs ps (var x ∷ t) (var y ∷ u) = alike (vs.choices x) (vs.choices y) && (clashes vs x y ps || apart_for vs ((x, y) ∷ ps) t u)

abbrev pub apart : Variables → List Item → List Item → Bool
apart vs t u = apart_for vs [] t u

or-true : (a b : Bool) → (a || b) ≡ true → (a ≡ false → b ≡ true)
or-true true b h e = absurd (differ e)
or-true false b h e = h

single-at : (ws : List (List ℕ)) (v : ℕ) → single ws ≡ true → v < length ws → length (get_or ws v []) ≡ 1
single-at [] v h k = absurd (omega arith)
single-at (w ∷ ws) zero h k = eqb-true (length w) 1 (and-true (eqb (length w) 1) (single ws) h).0
single-at (w ∷ ws) (suc v) h k = single-at ws v (and-true (eqb (length w) 1) (single ws) h).1 (omega arith)

one_at : (k : Choices) (v : ℕ) → one_byte k ≡ true → v < count k → length (text_of k v) ≡ 1
one_at (numbers ns) v h f = absurd (differ (sym h))
one_at (texts ws) v h f = single-at ws v h f

-- texts of one byte in front: what is behind them is the same
behind-one : (w w' s s' : List ℕ) → length w ≡ 1 → length w' ≡ 1 → w ++ s ≡ w' ++ s' → s ≡ s'
behind-one [] w' s s' h k e = absurd (omega arith)
behind-one (a ∷ b ∷ w) w' s s' h k e = absurd (omega arith)
behind-one (a ∷ []) [] s s' h k e = absurd (omega arith)
behind-one (a ∷ []) (b ∷ c ∷ w') s s' h k e = absurd (omega arith)
behind-one (a ∷ []) (b ∷ []) s s' h k e = cc

-- ---- numbers

-- no digit in front
abbrev NoDigit : List ℕ → Type 0
NoDigit s = (d : ℕ) (u : List ℕ) → s ≡ d ∷ u → is_digit d ≡ true → ⊥

-- one digit against two
one-two : (a : ℕ) (s : List ℕ) (b e : ℕ) (s' : List ℕ) → e ≤ 9 → NoDigit s → ◌≡◌ {A = List ℕ} (a ∷ s) (b ∷ (48 + e) ∷ s') → ⊥
one-two a s b e s' h n p = n (48 + e) s' (cc) (digit-is e h)

behind-number : (n m : ℕ) (s s' : List ℕ) → n ≤ 99 → m ≤ 99 → NoDigit s → NoDigit s' → decimal n ++ s ≡ decimal m ++ s' → s ≡ s'
behind-number n m s s' h k f g e =
    elim (dec_le 10 n) [
      | yes i ↦
          let p = by-tens n (n / 10) h refl (omega arith) in
          elim (dec_le 10 m) [
            | yes j ↦
                let q = by-tens m (m / 10) k refl (omega arith) in
                let z : ◌≡◌ {A = List ℕ} ((48 + n / 10) ∷ (48 + n % 10) ∷ s) ((48 + m / 10) ∷ (48 + m % 10) ∷ s') = rw (p, q) at e in
                cc
            | no j ↦
                let q = decimal-one m (omega arith) in
                let z : ◌≡◌ {A = List ℕ} ((48 + n / 10) ∷ (48 + n % 10) ∷ s) ((48 + m) ∷ s') = rw (p, q) at e in
                absurd (one-two (48 + m) s' (48 + n / 10) (n % 10) s (omega arith) g (sym z))
          ]
      | no i ↦
          let p = decimal-one n (omega arith) in
          elim (dec_le 10 m) [
            | yes j ↦
                let q = by-tens m (m / 10) k refl (omega arith) in
                let z : ◌≡◌ {A = List ℕ} ((48 + n) ∷ s) ((48 + m / 10) ∷ (48 + m % 10) ∷ s') = rw (p, q) at e in
                absurd (one-two (48 + n) s (48 + m / 10) (m % 10) s' (omega arith) f z)
            | no j ↦
                let q = decimal-one m (omega arith) in
                let z : ◌≡◌ {A = List ℕ} ((48 + n) ∷ s) ((48 + m) ∷ s') = rw (p, q) at e in
                cc
          ]
    ]

ends-no-digit : (vs : Variables) (t : List Item) (e : ℕ → ℕ) → ends_number t ≡ true → NoDigit (fill vs t e)
ends-no-digit vs [] e h d u p i = let z : ◌≡◌ {A = ℕ} 0 1 = cc in omega arith
ends-no-digit vs (byte b ∷ t) e h d u p i =
    let z : b ≡ d = cc in
    differ (sym i ∙ ap is_digit (sym z) ∙ not-true (is_digit b) h)
ends-no-digit vs (var x ∷ t) e h d u p i = differ (sym h)

-- ---- pairs of letters

abbrev Met : Variables → (ℕ → ℕ) → (ℕ → ℕ) → List (ℕ × ℕ) → Type 0
Met vs e f [] = Unit {0}
Met vs e f (p ∷ ps) = (text_of (vs.choices p.0) (e (vs.slot p.0)) ≡ text_of (vs.choices p.1) (f (vs.slot p.1))) × Met vs e f ps

same-own : (s t : List ℕ) → s ≡ t → same_text s t ≡ true
same-own s t e = subst (λ (u : List ℕ). same_text s u ≡ true) e (own s)
  where
    own : (u : List ℕ) → same_text u u ≡ true
    own [] = refl
    own (a ∷ u) = both_true (eqb a a) (same_text u u) (eq-eqb a a refl) (own u)

pub all-at : (p : ℕ → Bool) (n v : ℕ) → all_below p n ≡ true → v < n → p v ≡ true
all-at p zero v h k = absurd (omega arith)
all-at p (suc n) v h k =
    let q = and-true (p n) (all_below p n) h in
    elim (ℕ_discrete v n) [
      | yes e ↦ ap p e ∙ q.0
      | no f ↦ all-at p n v q.1 (omega arith)
    ]

no-clash : (vs : Variables) (x y x' y' v w : ℕ) → clash vs x y x' y' ≡ true → v < count (vs.choices x) → w < count (vs.choices y) → text_of (vs.choices x) v ≡ text_of (vs.choices y) w → text_of (vs.choices x') v ≡ text_of (vs.choices y') w → ⊥
no-clash vs x y x' y' v w c h k s t =
    let rest = and-true (eqb (vs.slot y) (vs.slot y')) (all_below (λ i. all_below (λ j. not (both vs x y x' y' i j)) (count (vs.choices y))) (count (vs.choices x))) (and-true (eqb (vs.slot x) (vs.slot x')) _ c).1 in
    let here = all-at (λ i. all_below (λ j. not (both vs x y x' y' i j)) (count (vs.choices y))) (count (vs.choices x)) v rest.1 h in
    let there = all-at (λ j. not (both vs x y x' y' v j)) (count (vs.choices y)) w here k in
    differ (sym (both_true _ _ (same-own (text_of (vs.choices x) v) (text_of (vs.choices y) w) s) (same-own (text_of (vs.choices x') v) (text_of (vs.choices y') w) t)) ∙ not-true (both vs x y x' y' v w) there)

no-clashes : (vs : Variables) (x y : ℕ) (ps : List (ℕ × ℕ)) (e f : ℕ → ℕ) → e (vs.slot x) < count (vs.choices x) → f (vs.slot y) < count (vs.choices y)
    → text_of (vs.choices x) (e (vs.slot x)) ≡ text_of (vs.choices y) (f (vs.slot y)) → Met vs e f ps → clashes vs x y ps ≡ false
no-clashes vs x y [] e f h k s m = refl
no-clashes vs x y (p ∷ ps) e f h k s m = go (clash vs x y p.0 p.1) refl (no-clashes vs x y ps e f h k s m.1)
  where
    go : (b : Bool) → clash vs x y p.0 p.1 ≡ b → clashes vs x y ps ≡ false → clashes vs x y (p ∷ ps) ≡ false
    go false c later = rw c later
    go true c later =
        let one = and-true (eqb (vs.slot x) (vs.slot p.0)) _ c in
        let two = and-true (eqb (vs.slot y) (vs.slot p.1)) _ one.1 in
        let i : vs.slot x ≡ vs.slot p.0 = eqb-true (vs.slot x) (vs.slot p.0) one.0 in
        let j : vs.slot y ≡ vs.slot p.1 = eqb-true (vs.slot y) (vs.slot p.1) two.0 in
        absurd (no-clash vs x y p.0 p.1 (e (vs.slot x)) (f (vs.slot y)) c h k s
        (ap (λ (n : ℕ). text_of (vs.choices p.0) (e n)) i ∙ m.0 ∙ ap (λ (n : ℕ). text_of (vs.choices p.1) (f n)) (sym j)))

cancel : (a b s : List ℕ) → a ++ s ≡ b ++ s → a ≡ b
cancel a b s e =
    let n : length b ≡ length a = omega (arith, ap length e, length-append a s, length-append b s) in
    sym (take-append_seam a s) ∙ ap (take (length a)) e ∙ take_at b s (length a) n

-- ---- two items

module _ (vs : Variables) (sound : (x : ℕ) → sound_choices (vs.choices x) ≡ true) where
  behind : (k l : Choices) (t u : List Item) (e f : ℕ → ℕ) (v w : ℕ) → alike k l ≡ true → sound_choices k ≡ true → sound_choices l ≡ true → v < count k → w < count l
      → follows k t ≡ true → follows l u ≡ true → text_of k v ++ fill vs t e ≡ text_of l w ++ fill vs u f → fill vs t e ≡ fill vs u f
  behind (numbers ns) (numbers ms) t u e f v w a p q h i m n z =
      behind-number (get_or ns v 0) (get_or ms w 0) (fill vs t e) (fill vs u f) (numbers-low ns p v h) (numbers-low ms q w i) (ends-no-digit vs t e m) (ends-no-digit vs u f n) z
  behind (numbers ns) (texts us) t u e f v w a p q h i m n z = absurd (differ (sym a))
  behind (texts ws) (numbers ms) t u e f v w a p q h i m n z = absurd (differ (sym a))
  behind (texts ws) (texts us) t u e f v w a p q h i m n z =
      let s = and-true (single ws) (single us) a in
      behind-one (get_or ws v []) (get_or us w []) (fill vs t e) (fill vs u f) (single-at ws v s.0 h) (single-at us w s.1 i) z

  no-common-for : (ps : List (ℕ × ℕ)) (t u : List Item) (e f : ℕ → ℕ) → Met vs e f ps → apart_for vs ps t u ≡ true → clear vs t ≡ true → clear vs u ≡ true → Filled vs t e → Filled vs u f → fill vs t e ≡ fill vs u f → ⊥
  no-common-for ps [] u e f m a c d p q z = differ (sym a)
  no-common-for ps (byte x ∷ t) [] e f m a c d p q z = differ (sym a)
  no-common-for ps (byte x ∷ t) (byte y ∷ u) e f m a c d p q z =
      let k : x ≡ y = cc in
      let l : fill vs t e ≡ fill vs u f = cc in
      no-common-for ps t u e f m (or-true (not (eqb x y)) (apart_for vs ps t u) a (ap not (eq-eqb x y k))) c d p q l
  no-common-for ps (byte x ∷ t) (var y ∷ u) e f m a c d p q z =
      let k = and-true (one_byte (vs.choices y)) (apart_for vs ps t u) a in
      let g = and-true (follows (vs.choices y) u) (clear vs u) d in
      no-common-for ps t u e f m k.1 c g.1 p q.1 (behind-one (x ∷ []) (text_of (vs.choices y) (f (vs.slot y))) _ _ refl (one_at (vs.choices y) _ k.0 q.0) z)
  no-common-for ps (var x ∷ t) [] e f m a c d p q z = differ (sym a)
  no-common-for ps (var x ∷ t) (byte y ∷ u) e f m a c d p q z =
      let k = and-true (one_byte (vs.choices x)) (apart_for vs ps t u) a in
      let g = and-true (follows (vs.choices x) t) (clear vs t) c in
      no-common-for ps t u e f m k.1 g.1 d p.1 q (behind-one (text_of (vs.choices x) (e (vs.slot x))) (y ∷ []) _ _ (one_at (vs.choices x) _ k.0 p.0) refl z)
  no-common-for ps (var x ∷ t) (var y ∷ u) e f m a c d p q z =
      let k = and-true (alike (vs.choices x) (vs.choices y)) (clashes vs x y ps || apart_for vs ((x, y) ∷ ps) t u) a in
      let g = and-true (follows (vs.choices x) t) (clear vs t) c in
      let h = and-true (follows (vs.choices y) u) (clear vs u) d in
      let rest : fill vs t e ≡ fill vs u f = behind (vs.choices x) (vs.choices y) t u e f _ _ k.0 (sound x) (sound y) p.0 q.0 g.0 h.0 z in
      let texts : text_of (vs.choices x) (e (vs.slot x)) ≡ text_of (vs.choices y) (f (vs.slot y)) =
      cancel (text_of (vs.choices x) (e (vs.slot x))) (text_of (vs.choices y) (f (vs.slot y))) (fill vs t e) (z ∙ ap (λ (s : List ℕ). text_of (vs.choices y) (f (vs.slot y)) ++ s) (sym rest)) in
      no-common-for ((x, y) ∷ ps) t u e f (texts, m)
      (or-true (clashes vs x y ps) (apart_for vs ((x, y) ∷ ps) t u) k.1 (no-clashes vs x y ps e f p.0 q.0 texts m))
      g.1 h.1 p.1 q.1 rest

  pub no-common : (t u : List Item) (e f : ℕ → ℕ) → apart vs t u ≡ true → clear vs t ≡ true → clear vs u ≡ true → Filled vs t e → Filled vs u f → fill vs t e ≡ fill vs u f → ⊥
  no-common t u e f a c d p q z = no-common-for [] t u e f tt a c d p q z
