-- The value that is guessed goes furthest along with a text: `best`. Assumes nothing.
use Prim.Native.Nat.{ℕ, zero, suc, ◌+◌, ◌-◌, ◌*◌, ◌/◌, ◌%◌, ◌≤◌, ◌<◌}
use mathlib.Core.Path.{◌≡◌, refl, sym, ap, ◌∙◌}
use mathlib.Core.Bool.{Bool, true, false, ◌&&◌, not}
use mathlib.Core.List.{List, [], ◌∷◌}
use mathlib.Core.Logic.{◌⊎◌, inl, inr}
use native.Mathlib.Omega.{arith}
use native.Mathlib.Decide.{ℕ_discrete, dec_le}
use borrow.Author.Tests.{eq-eqb, ne_eqb, le-leb, lt-ltb, le-ltb, leb-true, ltb-true, eqb-false, not-true}
use lib.Dec.{eqb, leb}
use lib.ListN.{length, get_or, drop}
use Rattle.grammar.specs.Template.{Choices, numbers, texts, decimal, text_of, count}
use Rattle.grammar.specs.Follow.{common_prefix, is_digit, place_of, place_of_tens, found, tens, one_digit, two_digits, guess_number, starting_with, guess_text, guess}
use Rattle.grammar.proofs.Prefix.{common-same, common-other, common-none, common-nil}

-- ---- tests

pub and-true : (a b : Bool) → (a && b) ≡ true → (a ≡ true) × (b ≡ true)
and-true true b h = (refl, h)
and-true false b h = absurd (let z : ◌≡◌ {A = ℕ} 0 1 = cc in omega arith)

pub both_true : (a b : Bool) → a ≡ true → b ≡ true → (a && b) ≡ true
both_true a b p q = rw (p, q)

pub differ : true ≡ false → ⊥
differ e = let z : ◌≡◌ {A = ℕ} 0 1 = cc in omega arith

-- ---- choices that can be read: numbers below 100, each once; texts that a first byte tells apart

abbrev pub lacks : ℕ → List ℕ → Bool
lacks n [] = true
lacks n (x ∷ ns) = not (eqb x n) && lacks n ns

abbrev pub once : List ℕ → Bool
once [] = true
once (n ∷ ns) = leb n 99 && (lacks n ns && once ns)

abbrev pub fresh : ℕ → List (List ℕ) → Bool
fresh a [] = true
fresh a (w ∷ ws) = not (eqb (get_or w 0 0) a) && fresh a ws

abbrev pub distinct : List (List ℕ) → Bool
distinct [] = true
distinct (w ∷ ws) = leb 1 (length w) && (fresh (get_or w 0 0) ws && distinct ws)

abbrev pub separate : Choices → Bool
separate (numbers ns) = once ns
separate (texts ws) = distinct ws

-- and there are some, and less than `unset`
abbrev pub sound_choices : Choices → Bool
sound_choices k = separate k && (leb 1 (count k) && leb (count k) 99)

abbrev pub IsNumber : Choices → Type 0
IsNumber (numbers ns) = Unit {0}
IsNumber (texts ws) = ⊥

-- another text of the choices: it leaves the text s before its end, and no later than the guess; or it is a number's first digit, and a digit follows
pub data Other (k : Choices) (s w w' : List ℕ) : Type 0 where
  worse : common_prefix w' s < length w' → common_prefix w' s ≤ common_prefix w s → Other k s w w'
  inside : IsNumber k → common_prefix w' s ≡ length w' → length w' ≤ length w → common_prefix w s ≡ length w
      → (d : ℕ) (u : List ℕ) → drop (length w') s ≡ d ∷ u → is_digit d ≡ true → Other k s w w'

-- ---- numbers

pub decimal-one : (n : ℕ) → n < 10 → decimal n ≡ (48 + n) ∷ []
unfolding decimal
decimal-one n h = rw (lt-ltb n 10 h)

pub decimal-two : (f e : ℕ) → 1 ≤ f → e ≤ 9 → decimal (f * 10 + e) ≡ (48 + f) ∷ (48 + e) ∷ []
unfolding decimal
decimal-two f e h k =
    let p : (f * 10 + e) / 10 ≡ f = omega arith in
    let q : (f * 10 + e) % 10 ≡ e = omega arith in
    rw (le-ltb (f * 10 + e) 10 (omega arith), p, q)

pub digit-is : (e : ℕ) → e ≤ 9 → is_digit (48 + e) ≡ true
digit-is e h = both_true _ _ (le-leb 48 (48 + e) (omega arith)) (le-leb (48 + e) 57 (omega arith))

once-parts : (n : ℕ) (ns : List ℕ) → once (n ∷ ns) ≡ true → (n ≤ 99) × (lacks n ns ≡ true) × (once ns ≡ true)
once-parts n ns h =
    let p = and-true (leb n 99) (lacks n ns && once ns) h in
    let q = and-true (lacks n ns) (once ns) p.1 in
    (leb-true n 99 p.0, q.0, q.1)

once-low : (ns : List ℕ) → once ns ≡ true → (v : ℕ) → v < length ns → get_or ns v 0 ≤ 99
once-low [] h v k = absurd (omega arith)
once-low (n ∷ ns) h zero k = (once-parts n ns h).0
once-low (n ∷ ns) h (suc v) k = once-low ns (once-parts n ns h).2 v (omega arith)

lacks-at : (n : ℕ) (ns : List ℕ) → lacks n ns ≡ true → (v : ℕ) → v < length ns → get_or ns v 0 ≡ n → ⊥
lacks-at n [] h v k e = omega arith
lacks-at n (x ∷ ns) h zero k e = eqb-false x n (not-true _ (and-true (not (eqb x n)) (lacks n ns) h).0) e
lacks-at n (x ∷ ns) h (suc v) k e = lacks-at n ns (and-true (not (eqb x n)) (lacks n ns) h).1 v (omega arith) e

-- a number that is there is at its place
pub place_is : (ns : List ℕ) → once ns ≡ true → (v : ℕ) → v < length ns → place_of (get_or ns v 0) ns ≡ v
unfolding place_of
place_is [] h v k = absurd (omega arith)
place_is (n ∷ ns) h zero k = rw (eq-eqb n n refl)
place_is (n ∷ ns) h (suc v) k =
    let p = once-parts n ns h in
    rw (ne_eqb n (get_or ns v 0) (λ e. lacks-at n ns p.1 v (omega arith) (sym e))) (ap suc (place_is ns p.2 v (omega arith)))

-- at a place that was found stands what was looked for
pub place-has : (n : ℕ) (ns : List ℕ) → place_of n ns < length ns → get_or ns (place_of n ns) 0 ≡ n
unfolding place_of
place-has n [] h = absurd (omega arith)
place-has n (x ∷ ns) h =
    elim (ℕ_discrete x n) [
      | yes e ↦ rw (eq-eqb x n e) e
      | no e ↦ let q = ne_eqb x n e in rw q (place-has n ns (omega (arith, (rw q at h))))
    ]

tens-has : (f : ℕ) (ns : List ℕ) → place_of_tens f ns < length ns → get_or ns (place_of_tens f ns) 0 / 10 ≡ f
unfolding place_of_tens
tens-has f [] h = absurd (omega arith)
tens-has f (x ∷ ns) h =
    elim (ℕ_discrete (x / 10) f) [
      | yes e ↦ rw (eq-eqb (x / 10) f e) e
      | no e ↦ let q = ne_eqb (x / 10) f e in rw q (tens-has f ns (omega (arith, (rw q at h))))
    ]

-- a number with these tens is there: so one is found
tens-found : (f : ℕ) (ns : List ℕ) (v : ℕ) → v < length ns → get_or ns v 0 / 10 ≡ f → place_of_tens f ns < length ns
unfolding place_of_tens
tens-found f [] v h k = absurd (omega arith)
tens-found f (x ∷ ns) zero h k = rw (eq-eqb (x / 10) f k) (omega arith)
tens-found f (x ∷ ns) (suc v) h k =
    elim (ℕ_discrete (x / 10) f) [
      | yes e ↦ rw (eq-eqb (x / 10) f e) (omega arith)
      | no e ↦ rw (ne_eqb (x / 10) f e) (omega (arith, tens-found f ns v (omega arith) k))
    ]

module _ (ns : List ℕ) where
  -- the number at a place is this one
  abbrev At : ℕ → ℕ → Type 0
  At p n = (p < length ns) × (get_or ns p 0 ≡ n)

  data Second (f b : ℕ) (s : List ℕ) : Type 0 where
    taken : (e : ℕ) → b ≡ 48 + e → e ≤ 9 → 1 ≤ f → two_digits ns f (b ∷ s) ≡ place_of (f * 10 + e) ns → At (place_of (f * 10 + e) ns) (f * 10 + e) → Second f b s
    left : ((e : ℕ) → b ≡ 48 + e → e ≤ 9 → 1 ≤ f → place_of (f * 10 + e) ns < length ns → ⊥) → two_digits ns f (b ∷ s) ≡ one_digit ns f → Second f b s

  second : (f b : ℕ) (s : List ℕ) → Second f b s
  unfolding two_digits
  second f b s = go (is_digit b && (leb 1 f && found (place_of (f * 10 + (b - 48)) ns) ns)) refl
    where
      go : (t : Bool) → (is_digit b && (leb 1 f && found (place_of (f * 10 + (b - 48)) ns) ns)) ≡ t → Second f b s
      go true h =
          let p = and-true (is_digit b) (leb 1 f && found (place_of (f * 10 + (b - 48)) ns) ns) h in
          let q = and-true (leb 1 f) (found (place_of (f * 10 + (b - 48)) ns) ns) p.1 in
          let d = and-true (leb 48 b) (leb b 57) p.0 in
          let lo : 48 ≤ b = leb-true 48 b d.0 in
          let hi : b ≤ 57 = leb-true b 57 d.1 in
          let k = ltb-true (place_of (f * 10 + (b - 48)) ns) (length ns) q.1 in
          taken (b - 48) (omega arith) (omega arith) (leb-true 1 f q.0) (rw h) (k, place-has (f * 10 + (b - 48)) ns k)
      go false h =
          left
          (λ e i j k l.
          let n : b - 48 ≡ e = omega arith in
          let digit : is_digit b ≡ true = rw i (digit-is e j) in
          let within : found (place_of (f * 10 + (b - 48)) ns) ns ≡ true = rw n (lt-ltb (place_of (f * 10 + e) ns) (length ns) l) in
          differ (sym (both_true (is_digit b) _ digit (both_true (leb 1 f) _ (le-leb 1 f k) within)) ∙ h))
          (rw h)

  data First (f : ℕ) : Type 0 where
    one : At (one_digit ns f) f → First f
    more : (place_of f ns < length ns → ⊥) → 1 ≤ f → one_digit ns f < length ns → get_or ns (one_digit ns f) 0 / 10 ≡ f → First f
    none : (place_of f ns < length ns → ⊥) → (1 ≤ f → place_of_tens f ns < length ns → ⊥) → one_digit ns f ≡ 0 → First f

  first : (f : ℕ) → First f
  unfolding one_digit tens
  first f =
      elim (dec_le (suc (place_of f ns)) (length ns)) [
        | yes h ↦ one (rw (lt-ltb (place_of f ns) (length ns) h) (h, place-has f ns h))
        | no h ↦ go h (leb 1 f && found (place_of_tens f ns) ns) refl
      ]
    where
      go : (place_of f ns < length ns → ⊥) → (t : Bool) → (leb 1 f && found (place_of_tens f ns) ns) ≡ t → First f
      go h true k =
          let p = and-true (leb 1 f) (found (place_of_tens f ns) ns) k in
          let q = ltb-true (place_of_tens f ns) (length ns) p.1 in
          let z = le-ltb (place_of f ns) (length ns) (omega arith) in
          more h (leb-true 1 f p.0) (rw (z, k) q) (rw (z, k) (tens-has f ns q))
      go h false k =
          none h (λ i l. differ (sym (both_true (leb 1 f) (found (place_of_tens f ns) ns) (le-leb 1 f i) (lt-ltb (place_of_tens f ns) (length ns) l)) ∙ k))
          (rw (le-ltb (place_of f ns) (length ns) (omega arith), k))

  guess-first : (f : ℕ) (s : List ℕ) → f ≤ 9 → guess_number ns ((48 + f) ∷ s) ≡ two_digits ns f s
  unfolding guess_number
  guess-first f s h =
      let p : 48 + f - 48 ≡ f = omega arith in
      rw (digit-is f h, p)

  two-end : (f : ℕ) → two_digits ns f [] ≡ one_digit ns f
  unfolding two_digits
  two-end f = refl

-- a text whose first byte is another
off : (k : Choices) (s w : List ℕ) (a : ℕ) (w' : List ℕ) → ((u : List ℕ) → s ≡ a ∷ u → ⊥) → Other k s w (a ∷ w')
off k [] w a w' h = worse (omega (arith, common-none (a ∷ w'))) (omega (arith, common-none (a ∷ w')))
off k (b ∷ s) w a w' h =
    let e : common_prefix (a ∷ w') (b ∷ s) ≡ 0 = common-other a b w' s (λ p. h s (ap (λ (x : ℕ). x ∷ s) (sym p))) in
    worse (omega arith) (omega arith)

at_one : (a : ℕ) (w u : List ℕ) → 1 ≤ common_prefix (a ∷ w) (a ∷ u)
at_one a w u = omega (arith, common-same a w u)

just-one : (a : ℕ) (u : List ℕ) → common_prefix (a ∷ []) (a ∷ u) ≡ 1
just-one a u = common-same a [] u ∙ ap suc (common-nil u)

-- a number of two digits, by its tens
pub by-tens : (n f : ℕ) → n ≤ 99 → n / 10 ≡ f → 1 ≤ f → decimal n ≡ (48 + f) ∷ (48 + n % 10) ∷ []
by-tens n f l h k =
    let e : n ≡ f * 10 + n % 10 = omega arith in
    ap decimal e ∙ decimal-two f (n % 10) k (omega arith)

module _ (ns : List ℕ) (good : once ns ≡ true) where
  abbrev Best : ℕ → List ℕ → Type 0
  Best v s = (v ≡ guess_number ns s) ⊎ Other (numbers ns) s (decimal (get_or ns (guess_number ns s) 0)) (decimal (get_or ns v 0))

  -- the value of one digit, where it is there, is the one that is found
  one-is : (v f : ℕ) → v < length ns → get_or ns v 0 ≡ f → v ≡ one_digit ns f
  unfolding one_digit
  one-is v f h k =
      let p : place_of f ns ≡ v = rw k at (place_is ns good v h) in
      sym (rw (p, lt-ltb v (length ns) h))

  -- one digit, and the text begins with it
  one-here : (v f : ℕ) (s : List ℕ) → v < length ns → get_or ns v 0 ≡ f → f ≤ 9 → Best v ((48 + f) ∷ s)
  one-here v f [] h i k = inl (sym (guess-first ns f [] k ∙ two-end ns f ∙ sym (one-is v f h i)))
  one-here v f (b ∷ s) h i k =
      let g = guess-first ns f (b ∷ s) k in
      elim (second ns f b s) [
        | taken e j l o t at ↦
            let w : decimal (get_or ns (guess_number ns ((48 + f) ∷ b ∷ s)) 0) ≡ (48 + f) ∷ (48 + e) ∷ [] = ap (λ (z : ℕ). decimal (get_or ns z 0)) (g ∙ t) ∙ ap decimal at.1 ∙ decimal-two f e o l in
            let w' : decimal (get_or ns v 0) ≡ (48 + f) ∷ [] = ap decimal i ∙ decimal-one f (omega arith) in
            let c : common_prefix ((48 + f) ∷ (48 + e) ∷ []) ((48 + f) ∷ b ∷ s) ≡ 2 = rw j (common-same (48 + f) _ _ ∙ ap suc (just-one (48 + e) s)) in
            inr (rw (w, w') (inside tt (just-one (48 + f) (b ∷ s)) (omega arith) c b s refl (rw j (digit-is e l))))
        | left no_more t ↦ inl (sym (g ∙ t ∙ sym (one-is v f h i)))
      ]

  -- the guess takes the text's first digit, where some number of two digits begins with it
  along_one : (v f : ℕ) (u : List ℕ) → v < length ns → get_or ns v 0 / 10 ≡ f → 1 ≤ f → 1 ≤ common_prefix (decimal (get_or ns (one_digit ns f) 0)) ((48 + f) ∷ u)
  along_one v f u h i k =
      elim (first ns f) [
        | one at ↦ rw (at.1, decimal-one f (omega (arith, once-low ns good v h))) (at_one (48 + f) [] u)
        | more n o l t ↦ rw (by-tens (get_or ns (one_digit ns f) 0) f (once-low ns good (one_digit ns f) l) t o) (at_one (48 + f) _ u)
        | none n o z ↦ absurd (o k (tens-found f ns v h i))
      ]

  along : (v f : ℕ) (s : List ℕ) → v < length ns → get_or ns v 0 / 10 ≡ f → 1 ≤ f → f ≤ 9 → 1 ≤ common_prefix (decimal (get_or ns (guess_number ns ((48 + f) ∷ s)) 0)) ((48 + f) ∷ s)
  along v f [] h i k l = rw (guess-first ns f [] l ∙ two-end ns f) (along_one v f [] h i k)
  along v f (b ∷ s) h i k l =
      elim (second ns f b s) [
        | taken e j m o t at ↦ rw (guess-first ns f (b ∷ s) l ∙ t, at.1, decimal-two f e o m) (at_one (48 + f) _ (b ∷ s))
        | left no_more t ↦ rw (guess-first ns f (b ∷ s) l ∙ t) (along_one v f (b ∷ s) h i k)
      ]

  -- two digits, and the text begins with the first
  two_here : (v f e : ℕ) (s : List ℕ) → v < length ns → get_or ns v 0 ≡ f * 10 + e → 1 ≤ f → f ≤ 9 → e ≤ 9 → Best v ((48 + f) ∷ s)
  two_here v f e [] h i k l m =
      let c : common_prefix ((48 + f) ∷ (48 + e) ∷ []) ((48 + f) ∷ []) ≡ 1 = common-same (48 + f) _ [] ∙ ap suc (common-none _) in
      let d = along v f [] h (omega arith) k l in
      inr (rw (i, decimal-two f e k m) (worse (omega arith) (omega arith)))
  two_here v f e (b ∷ s) h i k l m =
      elim (ℕ_discrete (48 + e) b) [
        | yes same ↦
            let p : place_of (f * 10 + e) ns ≡ v = rw i at (place_is ns good v h) in
            elim (second ns f b s) [
              | taken x j q o t at ↦
                  let z : x ≡ e = omega arith in
                  inl (sym (guess-first ns f (b ∷ s) l ∙ t ∙ ap (λ (y : ℕ). place_of (f * 10 + y) ns) z ∙ p))
              | left no_more t ↦ absurd (no_more e (sym same) m k (omega arith))
            ]
        | no differs ↦
            let c : common_prefix ((48 + f) ∷ (48 + e) ∷ []) ((48 + f) ∷ b ∷ s) ≡ 1 = common-same (48 + f) _ _ ∙ ap suc (common-other (48 + e) b [] s differs) in
            let d = along v f (b ∷ s) h (omega arith) k l in
            inr (rw (i, decimal-two f e k m) (worse (omega arith) (omega arith)))
      ]

  -- by the first byte of the text
  by_byte : (v f : ℕ) (w s : List ℕ) → decimal (get_or ns v 0) ≡ (48 + f) ∷ w → ((u : List ℕ) → Best v ((48 + f) ∷ u)) → Best v s
  by_byte v f w [] e k = inr (rw e (off (numbers ns) [] _ (48 + f) w (λ u p. let z : ◌≡◌ {A = ℕ} 0 1 = cc in omega arith)))
  by_byte v f w (b ∷ s) e k =
      elim (ℕ_discrete b (48 + f)) [
        | yes same ↦ rw same (k s)
        | no differs ↦ inr (rw e (off (numbers ns) (b ∷ s) _ (48 + f) w (λ u p. differs (cc))))
      ]

  best-number : (v : ℕ) (s : List ℕ) → v < length ns → Best v s
  best-number v s h =
      let n : ℕ = get_or ns v 0 in
      let low = once-low ns good v h in
      elim (dec_le 10 n) [
        | yes k ↦
            by_byte v (n / 10) ((48 + n % 10) ∷ []) s (by-tens n (n / 10) low refl (omega arith))
            (λ u. two_here v (n / 10) (n % 10) u h (omega arith) (omega arith) (omega arith) (omega arith))
        | no k ↦ by_byte v n [] s (decimal-one n (omega arith)) (λ u. one-here v n u h refl (omega arith))
      ]

-- ---- texts

distinct-parts : (w : List ℕ) (ws : List (List ℕ)) → distinct (w ∷ ws) ≡ true → (1 ≤ length w) × (fresh (get_or w 0 0) ws ≡ true) × (distinct ws ≡ true)
distinct-parts w ws h =
    let p = and-true (leb 1 (length w)) (fresh (get_or w 0 0) ws && distinct ws) h in
    let q = and-true (fresh (get_or w 0 0) ws) (distinct ws) p.1 in
    (leb-true 1 (length w) p.0, q.0, q.1)

fresh_at : (v : ℕ) (ws : List (List ℕ)) (a : ℕ) → fresh a ws ≡ true → v < length ws → get_or (get_or ws v []) 0 0 ≡ a → ⊥
fresh_at v [] a h k e = omega arith
fresh_at zero (w ∷ ws) a h k e = eqb-false (get_or w 0 0) a (not-true _ (and-true (not (eqb (get_or w 0 0) a)) (fresh a ws) h).0) e
fresh_at (suc v) (w ∷ ws) a h k e = fresh_at v ws a (and-true (not (eqb (get_or w 0 0) a)) (fresh a ws) h).1 (omega arith) e

starts-at : (v : ℕ) (ws : List (List ℕ)) → distinct ws ≡ true → v < length ws → starting_with (get_or (get_or ws v []) 0 0) ws ≡ v
unfolding starting_with
starts-at v [] h k = absurd (omega arith)
starts-at zero (w ∷ ws) h k = rw (eq-eqb (get_or w 0 0) (get_or w 0 0) refl)
starts-at (suc v) (w ∷ ws) h k =
    let p = distinct-parts w ws h in
    rw (ne_eqb (get_or w 0 0) (get_or (get_or ws v []) 0 0) (λ e. fresh_at v ws (get_or w 0 0) p.1 (omega arith) (sym e))) (ap suc (starts-at v ws p.2 (omega arith)))

pub text-long : (v : ℕ) (ws : List (List ℕ)) → distinct ws ≡ true → v < length ws → 1 ≤ length (get_or ws v [])
text-long v [] h k = absurd (omega arith)
text-long zero (w ∷ ws) h k = (distinct-parts w ws h).0
text-long (suc v) (w ∷ ws) h k = text-long v ws (distinct-parts w ws h).2 (omega arith)

best-text : (ws : List (List ℕ)) → distinct ws ≡ true → (v : ℕ) (s : List ℕ) → v < length ws
    → (v ≡ guess_text ws s) ⊎ Other (texts ws) s (get_or ws (guess_text ws s) []) (get_or ws v [])
unfolding guess_text
best-text ws h v [] k = inr (worse (omega (arith, common-none (get_or ws v []), text-long v ws h k)) (omega (arith, common-none (get_or ws v []))))
best-text ws h v (a ∷ s) k = go (get_or ws v []) refl (text-long v ws h k)
  where
    go : (w : List ℕ) → get_or ws v [] ≡ w → 1 ≤ length w → (v ≡ guess_text ws (a ∷ s)) ⊎ Other (texts ws) (a ∷ s) (get_or ws (guess_text ws (a ∷ s)) []) (get_or ws v [])
    go [] e l = absurd (omega arith)
    go (b ∷ w) e l =
        elim (ℕ_discrete a b) [
          | yes same ↦
              let p : starting_with a ws ≡ v = ap (λ (x : ℕ). starting_with x ws) (same ∙ ap (λ (x : List ℕ). get_or x 0 0) (sym e)) ∙ starts-at v ws h k in
              inl (sym (rw (p, lt-ltb v (length ws) k)))
          | no differs ↦ inr (rw e (off (texts ws) (a ∷ s) _ b w (λ u p. differs (cc))))
        ]

-- ---- both choices

pub best : (k : Choices) → sound_choices k ≡ true → (v : ℕ) (s : List ℕ) → v < count k → (v ≡ guess k s) ⊎ Other k s (text_of k (guess k s)) (text_of k v)
best (numbers ns) h v s f = best-number ns (and-true (once ns) (leb 1 (length ns) && leb (length ns) 99) h).0 v s f
best (texts ws) h v s f = best-text ws (and-true (distinct ws) (leb 1 (length ws) && leb (length ws) 99) h).0 v s f

pub choices-parts : (k : Choices) → sound_choices k ≡ true → (1 ≤ count k) × (count k ≤ 99)
choices-parts k h =
    let p = and-true (separate k) (leb 1 (count k) && leb (count k) 99) h in
    let q = and-true (leb 1 (count k)) (leb (count k) 99) p.1 in
    (leb-true 1 (count k) q.0, leb-true (count k) 99 q.1)

first_fits : (ns : List ℕ) (f : ℕ) → 1 ≤ length ns → one_digit ns f < length ns
first_fits ns f h =
    elim (first ns f) [
      | one at ↦ at.0
      | more n o l t ↦ l
      | none n o z ↦ rw z h
    ]

two_fits : (ns : List ℕ) (f : ℕ) (s : List ℕ) → 1 ≤ length ns → two_digits ns f s < length ns
two_fits ns f [] h = rw (two-end ns f) (first_fits ns f h)
two_fits ns f (b ∷ s) h =
    elim (second ns f b s) [
      | taken e i j o t at ↦ rw t at.0
      | left no_more t ↦ rw t (first_fits ns f h)
    ]

guess-number-fits : (ns : List ℕ) (s : List ℕ) → 1 ≤ length ns → guess_number ns s < length ns
unfolding guess_number
guess-number-fits ns [] h = h
guess-number-fits ns (a ∷ s) h = go (is_digit a) refl
  where
    go : (t : Bool) → is_digit a ≡ t → guess_number ns (a ∷ s) < length ns
    go true k = rw k (two_fits ns (a - 48) s h)
    go false k = rw k h

guess-text-fits : (ws : List (List ℕ)) (s : List ℕ) → 1 ≤ length ws → guess_text ws s < length ws
unfolding guess_text
guess-text-fits ws [] h = h
guess-text-fits ws (a ∷ s) h = go (dec_le (suc (starting_with a ws)) (length ws))
  where
    go : Dec (starting_with a ws < length ws) → guess_text ws (a ∷ s) < length ws
    go (yes k) = rw (lt-ltb _ _ k) k
    go (no k) = rw (le-ltb (starting_with a ws) (length ws) (omega arith)) h

pub guess-fits : (k : Choices) → sound_choices k ≡ true → (s : List ℕ) → guess k s < count k
guess-fits (numbers ns) h s = guess-number-fits ns s (choices-parts (numbers ns) h).0
guess-fits (texts ws) h s = guess-text-fits ws s (choices-parts (texts ws) h).0

pub numbers-low : (ns : List ℕ) → sound_choices (numbers ns) ≡ true → (v : ℕ) → v < length ns → get_or ns v 0 ≤ 99
numbers-low ns h v k = once-low ns (and-true (once ns) (leb 1 (length ns) && leb (length ns) 99) h).0 v k

pub sound-texts : (ws : List (List ℕ)) → sound_choices (texts ws) ≡ true → distinct ws ≡ true
sound-texts ws h = (and-true (distinct ws) (leb 1 (length ws) && leb (length ws) 99) h).0
