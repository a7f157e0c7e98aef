-- The code's tables hold the alphabet, and the digits that the code looks at give the number that is meant. Assumes nothing.
use Prim.Native.Nat.{ℕ, zero, suc, ◌+◌, ◌-◌, ◌*◌, ◌/◌, ◌%◌, ◌^◌, ◌≤◌, ◌<◌}
use mathlib.Core.Path.{◌≡◌, refl, sym, ap, ◌∙◌, subst}
use mathlib.Core.Bool.{Bool, true, false, ◌&&◌}
use Rattle.std.specs.Prelude.{cond, Option, Some, None}
use mathlib.Core.List.{List, [], ◌∷◌, map}
use native.Mathlib.Omega.{arith}
use native.Mathlib.Nat.{zero-add}
use native.Mathlib.Decide.{ℕ_discrete, dec_le}
use borrow.Author.Tests.{eq-eqb, ne_eqb, le-leb, lt-leb, lt-ltb, le-ltb, leb-true, ltb-true, ltb-false, eqb-true}
use lib.Dec.{eqb, leb, ltb}
use lib.ListN.{length, get_or, drop, drop_of_length-le}
use lib.Seq.{drop-cons}
use Rattle.grammar.specs.Template.{Choices, numbers, texts, decimal, text_of, count, pick_number}
use Rattle.grammar.specs.Follow.{is_digit, place_of, place_of_tens, found, tens, one_digit, two_digits, guess_number, starting_with, guess_text, guess, common_prefix}
use Rattle.grammar.specs.Grammar.{progression, below, unused, alphabet, letter_count}
use Rattle.grammar.specs.Packed.{unpack, text_bytes, RowOf, Row, first_of, shift_of, count_of, packed_texts, numbers_of, texts_of, digit_of, placed, placed_two}
use Rattle.grammar.proofs.Prefix.{common-same, common-other, common-none, common-nil}
use Rattle.grammar.proofs.Guess.{and-true, differ, once, sound_choices, place_is, place-has, text-long, sound-texts}
use Rattle.grammar.proofs.Apart.{all-at}
use Rattle.grammar.proofs.Alphabet.{sound-letter}
use Rattle.grammar.proofs.Patterns.{◌⨾◌, each_at}

-- ---- numbers a step apart

pub progression-length : (i k n : ℕ) → length (progression i k n) ≡ n
progression-length i k zero = refl
progression-length i k (suc n) = ap suc (progression-length (i + k) k n)

progression-at : (i k n v : ℕ) → v < n → get_or (progression i k n) v 0 ≡ i + v * k
progression-at i k zero v h = absurd (omega arith)
progression-at i k (suc n) zero h = omega arith
progression-at i k (suc n) (suc v) h =
    let e : suc v * k ≡ k + v * k = omega arith in
    progression-at (i + k) k n v (omega arith) ∙ omega arith

digit_low : (b : ℕ) → is_digit b ≡ true → (48 ≤ b) × (b ≤ 57)
digit_low b h =
    let p = and-true (leb 48 b) (leb b 57) h in
    (leb-true 48 b p.0, leb-true b 57 p.1)

-- ---- the digits that the code looks at

pub digit-past : (s : List ℕ) (at : ℕ) → length s ≤ at → digit_of (drop at s) ≡ None
unfolding digit_of
digit-past s at h = rw (drop_of_length-le s h)

digit-here : (s : List ℕ) (at : ℕ) → at < length s → digit_of (drop at s) ≡ cond (is_digit (get_or s at 0)) (Some (get_or s at 0 - 48)) None
unfolding digit_of
digit-here s at h = rw (drop-cons s at 0 h)

pub digit-below : (s : List ℕ) (at : ℕ) → at < length s → get_or s at 0 < 48 → digit_of (drop at s) ≡ None
digit-below s at h k = digit-here s at h ∙ rw (lt-leb 48 (get_or s at 0) k)

pub digit-above : (s : List ℕ) (at : ℕ) → at < length s → 57 < get_or s at 0 → digit_of (drop at s) ≡ None
digit-above s at h k = digit-here s at h ∙ rw (le-leb 48 (get_or s at 0) (omega arith), lt-leb (get_or s at 0) 57 k)

pub digit-there : (s : List ℕ) (at : ℕ) → at < length s → 48 ≤ get_or s at 0 → get_or s at 0 ≤ 57 → digit_of (drop at s) ≡ Some (get_or s at 0 - 48)
digit-there s at h k l = digit-here s at h ∙ rw (le-leb 48 (get_or s at 0) k, le-leb (get_or s at 0) 57 l)

some-same : (a b : ℕ) → Some a ≡ Some b → a ≡ b
some-same a b e = cc

some_none : (a : ℕ) → Some a ≡ None → ⊥
some_none a e = cc

module _ (ns : List ℕ) (f : ℕ) (u : List ℕ) where
  abbrev none : Option ℕ
  none = None

  either : (t : Bool) → cond t none none ≡ none
  either true = refl
  either false = refl

  pub two-zero : f ≡ 0 → None ≡ placed_two ns f u
  unfolding placed_two
  two-zero h = sym (rw (eq-eqb f 0 h))

  pub two_none : digit_of u ≡ None → None ≡ placed_two ns f u
  unfolding placed_two
  two_none h = sym (rw h (either (eqb f 0)))

  pub two-placed : (e : ℕ) → digit_of u ≡ Some e → (f ≡ 0 → ⊥) → placed (f * 10 + e) ns ≡ placed_two ns f u
  unfolding placed_two
  two-placed e h n = sym (rw (ne_eqb f 0 n, h))

-- ---- the number that digits mean

module _ (ns : List ℕ) where
  pub placed-there : (m : ℕ) → place_of m ns < length ns → placed m ns ≡ Some (place_of m ns)
  unfolding placed
  placed-there m h = rw (lt-ltb (place_of m ns) (length ns) h)

  pub placed-not : (m : ℕ) → length ns ≤ place_of m ns → placed m ns ≡ None
  unfolding placed
  placed-not m h = rw (le-ltb (place_of m ns) (length ns) h)

  -- a number that is placed is there
  found-placed : (m v : ℕ) → placed m ns ≡ Some v → (found (place_of m ns) ns ≡ true) × (v ≡ place_of m ns)
  found-placed m v e =
      elim (dec_le (suc (place_of m ns)) (length ns)) [
        | yes h ↦ (lt-ltb (place_of m ns) (length ns) h, some-same v (place_of m ns) (sym e ∙ placed-there m h))
        | no h ↦ absurd (some_none v (sym e ∙ placed-not m (omega arith)))
      ]

  not_found : (m : ℕ) → placed m ns ≡ None → found (place_of m ns) ns ≡ false
  not_found m e =
      elim (dec_le (suc (place_of m ns)) (length ns)) [
        | yes h ↦ absurd (some_none (place_of m ns) (sym (placed-there m h) ∙ e))
        | no h ↦ le-ltb (place_of m ns) (length ns) (omega arith)
      ]

  -- the first digit
  number-first : (u : List ℕ) (f : ℕ) → digit_of u ≡ Some f → (guess_number ns u ≡ two_digits ns f (drop 1 u)) × (get_or u 0 0 ≡ 48 + f) × (f ≤ 9)
  unfolding guess_number digit_of
  number-first [] f e = absurd (some_none f (sym e))
  number-first (b ∷ u) f e = go (is_digit b) refl
    where
      go : (t : Bool) → is_digit b ≡ t → (guess_number ns (b ∷ u) ≡ two_digits ns f u) × (b ≡ 48 + f) × (f ≤ 9)
      go true t =
          let d = digit_low b t in
          let z : f ≡ b - 48 = some-same f (b - 48) (sym e ∙ rw t) in
          (rw (t, z), omega (arith, d.0), omega (arith, d.1))
      go false t = absurd (some_none f (sym e ∙ rw t))

  pub number-none : (u : List ℕ) → digit_of u ≡ None → 0 ≡ guess_number ns u
  unfolding guess_number digit_of
  number-none [] e = refl
  number-none (b ∷ u) e = go (is_digit b) refl
    where
      go : (t : Bool) → is_digit b ≡ t → 0 ≡ guess_number ns (b ∷ u)
      go true t = absurd (some_none (b - 48) (sym (rw t) ∙ e))
      go false t = sym (rw t)

  -- the second
  second_none : (f : ℕ) (u : List ℕ) → placed_two ns f u ≡ None → two_digits ns f u ≡ one_digit ns f
  unfolding two_digits digit_of
  second_none f [] e = refl
  second_none f (b ∷ u) e = go (is_digit b) refl
    where
      go : (t : Bool) → is_digit b ≡ t → two_digits ns f (b ∷ u) ≡ one_digit ns f
      go false t = rw t
      go true t =
          elim (ℕ_discrete f 0) [
            | yes z ↦ rw (t, z)
            | no z ↦ rw (t, le-leb 1 f (omega arith), not_found (f * 10 + (b - 48)) (two-placed ns f (b ∷ u) (b - 48) (rw t) z ∙ e))
          ]

  second-there : (f v : ℕ) (u : List ℕ) → placed_two ns f u ≡ Some v → v ≡ two_digits ns f u
  unfolding two_digits digit_of
  second-there f v [] e = absurd (some_none v (sym e ∙ sym (two_none ns f [] refl)))
  second-there f v (b ∷ u) e = go (is_digit b) refl
    where
      go : (t : Bool) → is_digit b ≡ t → v ≡ two_digits ns f (b ∷ u)
      go false t = absurd (some_none v (sym e ∙ sym (two_none ns f (b ∷ u) (rw t))))
      go true t =
          elim (ℕ_discrete f 0) [
            | yes z ↦ absurd (some_none v (sym e ∙ sym (two-zero ns f (b ∷ u) z)))
            | no z ↦
                let there = found-placed (f * 10 + (b - 48)) v (two-placed ns f (b ∷ u) (b - 48) (rw t) z ∙ e) in
                there.1 ∙ sym (rw (t, le-leb 1 f (omega arith), there.0))
          ]

-- ---- a number that begins with a digit, and is not the digit alone

decimal-first : (n : ℕ) → (n < 10 → get_or (decimal n) 0 0 ≡ 48 + n) × (10 ≤ n → get_or (decimal n) 0 0 ≡ 48 + n / 10)
unfolding decimal
decimal-first n = (λ h. rw (lt-ltb n 10 h), λ h. rw (le-ltb n 10 h))

-- the number is none of them
abbrev Lacks : ℕ → List ℕ → Type 0
Lacks f ns = length ns ≤ place_of f ns

lacks-on : (f n : ℕ) (ns : List ℕ) → Lacks f (n ∷ ns) → (n ≡ f → ⊥) × Lacks f ns
unfolding place_of
lacks-on f n ns h =
    elim (ℕ_discrete n f) [
      | yes e ↦ absurd (omega (arith, (rw (eq-eqb n f e) at h)))
      | no e ↦ (e, omega (arith, (rw (ne_eqb n f e) at h)))
    ]

starts-tens : (f : ℕ) (ns : List ℕ) → Lacks f ns → 1 ≤ f → starting_with (48 + f) (map decimal ns) ≡ place_of_tens f ns
unfolding starting_with place_of_tens
starts-tens f [] h o = refl
starts-tens f (n ∷ ns) h o =
    let l = lacks-on f n ns h in
    let later = starts-tens f ns l.1 o in
    elim (ℕ_discrete (n / 10) f) [
      | yes e ↦ rw (eq-eqb (n / 10) f e, eq-eqb (get_or (decimal n) 0 0) (48 + f) ((decimal-first n).1 (omega arith) ∙ ap (λ (z : ℕ). 48 + z) e))
      | no e ↦ rw (ne_eqb (n / 10) f e, ne_eqb (get_or (decimal n) 0 0) (48 + f) (other l.0 e)) (ap suc later)
    ]
  where
    other : (n ≡ f → ⊥) → (n / 10 ≡ f → ⊥) → get_or (decimal n) 0 0 ≡ 48 + f → ⊥
    other p q z =
        elim (dec_le 10 n) [
          | yes k ↦ q (omega (arith, (decimal-first n).1 k))
          | no k ↦ p (omega (arith, (decimal-first n).0 (omega arith)))
        ]

starts-zero : (ns : List ℕ) → Lacks 0 ns → starting_with 48 (map decimal ns) ≡ length (map decimal ns)
unfolding starting_with
starts-zero [] h = refl
starts-zero (n ∷ ns) h =
    let l = lacks-on 0 n ns h in
    let later = starts-zero ns l.1 in
    rw (ne_eqb (get_or (decimal n) 0 0) 48 (other l.0)) (ap suc later)
  where
    other : (n ≡ 0 → ⊥) → get_or (decimal n) 0 0 ≡ 48 → ⊥
    other p z =
        elim (dec_le 10 n) [
          | yes k ↦ omega (arith, (decimal-first n).1 k)
          | no k ↦ p (omega (arith, (decimal-first n).0 (omega arith)))
        ]

map-length : (ns : List ℕ) → length (map decimal ns) ≡ length ns
map-length [] = refl
map-length (n ∷ ns) = ap suc (map-length ns)

tens-starts : (ns : List ℕ) (f : ℕ) → Lacks f ns → tens ns f ≡ guess_text (map decimal ns) ((48 + f) ∷ [])
unfolding tens guess_text
tens-starts ns zero h = sym (rw (le-ltb (starting_with 48 (map decimal ns)) (length (map decimal ns)) (omega (arith, starts-zero ns h))))
tens-starts ns (suc f) h = rw (le-leb 1 (suc f) (omega arith), starts-tens (suc f) ns h (omega arith), map-length ns)

-- ---- what the code's tests give

module _ (ns : List ℕ) (u : List ℕ) (f : ℕ) (first : digit_of u ≡ Some f) where
  pub number-two : (v : ℕ) → placed_two ns f (drop 1 u) ≡ Some v → v ≡ guess_number ns u
  number-two v e = second-there ns f v (drop 1 u) e ∙ sym (number-first ns u f first).0

  module _ (two : placed_two ns f (drop 1 u) ≡ None) where
    one : guess_number ns u ≡ one_digit ns f
    one = (number-first ns u f first).0 ∙ second_none ns f (drop 1 u) two

    pub number-one : (v : ℕ) → placed f ns ≡ Some v → v ≡ guess_number ns u
    unfolding one_digit
    number-one v e =
        let there = found-placed ns f v e in
        there.1 ∙ sym (one ∙ rw there.0)

    pub number-left : placed f ns ≡ None → guess_text (map decimal ns) (get_or u 0 0 ∷ []) ≡ guess_number ns u
    unfolding one_digit
    number-left e =
        let there = not_found ns f e in
        ap (λ (b : ℕ). guess_text (map decimal ns) (b ∷ [])) (number-first ns u f first).1
        ∙ sym (one ∙ rw there (tens-starts ns f (ltb-false (place_of f ns) (length ns) there)))

-- ---- the tables

abbrev same_text : List ℕ → List ℕ → Bool
same_text [] [] = true
same_text [] (b ∷ t) = false
same_text (a ∷ s) [] = false
same_text (a ∷ s) (b ∷ t) = eqb a b && same_text s t

same_text-equal : (s t : List ℕ) → same_text s t ≡ true → s ≡ t
same_text-equal [] [] h = refl
same_text-equal [] (b ∷ t) h = absurd (differ (sym h))
same_text-equal (a ∷ s) [] h = absurd (differ (sym h))
same_text-equal (a ∷ s) (b ∷ t) h =
    let p = and-true (eqb a b) (same_text s t) h in
    let e : a ≡ b = eqb-true a b p.0 in
    let f : s ≡ t = same_text-equal s t p.1 in
    cc

-- the texts of texts stand one after the other
abbrev texts_from : ℕ → List (List ℕ) → Bool
texts_from f [] = true
texts_from f (w ∷ ws) = ltb f 46 && (same_text (text_bytes (get_or packed_texts f 0)) w && texts_from (suc f) ws)

texts-at : (f : ℕ) (ws : List (List ℕ)) → texts_from f ws ≡ true → (v : ℕ) → v < length ws → (f + v < 46) × (text_bytes (get_or packed_texts (f + v) 0) ≡ get_or ws v [])
texts-at f [] h v k = absurd (omega arith)
texts-at f (w ∷ ws) h zero k =
    let e : f + 0 ≡ f = omega arith in
    let p = and-true (ltb f 46) (same_text (text_bytes (get_or packed_texts f 0)) w && texts_from (suc f) ws) h in
    let q = and-true (same_text (text_bytes (get_or packed_texts f 0)) w) (texts_from (suc f) ws) p.1 in
    rw e (ltb-true f 46 p.0, same_text-equal (text_bytes (get_or packed_texts f 0)) w q.0)
texts-at f (w ∷ ws) h (suc v) k =
    let e : f + suc v ≡ suc f + v = omega arith in
    let p = and-true (ltb f 46) (same_text (text_bytes (get_or packed_texts f 0)) w && texts_from (suc f) ws) h in
    let q = and-true (same_text (text_bytes (get_or packed_texts f 0)) w) (texts_from (suc f) ws) p.1 in
    rw e (texts-at (suc f) ws q.1 v (omega arith))

-- and those of numbers
abbrev numbers_from : ℕ → ℕ → Bool
numbers_from i zero = true
numbers_from i (suc n) = same_text (text_bytes (get_or packed_texts i 0)) (decimal i) && numbers_from (suc i) n

numbers-at : (i n : ℕ) → numbers_from i n ≡ true → (v : ℕ) → v < n → text_bytes (get_or packed_texts (i + v) 0) ≡ decimal (i + v)
numbers-at i zero h v k = absurd (omega arith)
numbers-at i (suc n) h zero k =
    let e : i + 0 ≡ i = omega arith in
    rw e (same_text-equal (text_bytes (get_or packed_texts i 0)) (decimal i) (and-true (same_text (text_bytes (get_or packed_texts i 0)) (decimal i)) (numbers_from (suc i) n) h).0)
numbers-at i (suc n) h (suc v) k =
    let e : i + suc v ≡ suc i + v = omega arith in
    rw e (numbers-at (suc i) n (and-true (same_text (text_bytes (get_or packed_texts i 0)) (decimal i)) (numbers_from (suc i) n) h).1 v (omega arith))

numbers-stand : numbers_from 0 32 ≡ true
unfolding text_bytes unpack decimal
numbers-stand = refl

-- a letter of the tables: its texts stand from its first place on; those of numbers are texts of the numbers from 0 on
pub record Letter (k : Choices) (f h n : ℕ) : Type 0 where
  pub count : count k ≡ n
  pub few : n ≤ 32
  pub within : (v : ℕ) → v < n → f + v * 2 ^ h < 46
  pub text : (v : ℕ) → v < n → text_bytes (get_or packed_texts (f + v * 2 ^ h) 0) ≡ text_of k v
  pub number : f < 32 → k ≡ numbers (progression f (2 ^ h) n)
  pub listed : 32 ≤ f → (ws : List (List ℕ)) × (k ≡ texts ws)

text-letter : (f : ℕ) (ws : List (List ℕ)) → 32 ≤ f → length ws ≤ 32 → texts_from f ws ≡ true → Letter (texts ws) f 0 (length ws)
text-letter f ws n few h =
    let next : (v : ℕ) → f + v ≡ f + v * 2 ^ 0 = λ v. omega arith in
    record {
      count = refl;
      few = few;
      within = λ v k. rw (← next v) (texts-at f ws h v k).0;
      text = λ v k. rw (← next v) (texts-at f ws h v k).1;
      number = λ e. absurd (omega arith);
      listed = λ e. (ws, refl);
    }

number-letter : (f h n : ℕ) → f < 32 → n ≤ 32 → ((v : ℕ) → v < n → f + v * 2 ^ h < 32) → Letter (numbers (progression f (2 ^ h) n)) f h n
number-letter f h n first few low =
    record {
      count = progression-length f (2 ^ h) n;
      few = few;
      within = λ v k. omega (arith, low v k);
      text = λ v k. (rw (zero-add (f + v * 2 ^ h)) at (numbers-at 0 32 numbers-stand (f + v * 2 ^ h) (low v k))) ∙ ap decimal (sym (progression-at f (2 ^ h) n v k));
      number = λ e. refl;
      listed = λ e. absurd (omega arith);
    }

abbrev LetterAt : ℕ → Type 0
LetterAt x = Letter (get_or alphabet x unused) (first_of x) (shift_of x) (count_of x)

abbrev number-below : (n : ℕ) → n ≤ 32 → Letter (below n) 0 0 n
number-below n h = number-letter 0 0 n (omega arith) h (λ v k. omega arith)

pub letter_at : (x : ℕ) → x < letter_count → LetterAt x
unfolding text_bytes unpack
letter_at x h =
    let one = number-below 1 (omega arith) in
    let all = number-below 32 (omega arith) in
    let eight = number-below 8 (omega arith) in
    let e : 0 + x ≡ x = omega arith in
    subst LetterAt e
    (each_at LetterAt 0 letter_count
    (number-letter 0 1 16 (omega arith) (omega arith) (λ v k. omega arith) ⨾ number-letter 1 1 16 (omega arith) (omega arith) (λ v k. omega arith) ⨾ one ⨾ all
    ⨾ number-letter 0 2 8 (omega arith) (omega arith) (λ v k. omega arith) ⨾ number-letter 3 2 8 (omega arith) (omega arith) (λ v k. omega arith) ⨾ one
    ⨾ number-below 16 (omega arith) ⨾ eight ⨾ number-below 4 (omega arith) ⨾ number-below 2 (omega arith) ⨾ eight ⨾ all ⨾ all ⨾ one
    ⨾ text-letter 44 _ (omega arith) (omega arith) refl ⨾ text-letter 42 _ (omega arith) (omega arith) refl ⨾ text-letter 32 _ (omega arith) (omega arith) refl
    ⨾ text-letter 36 _ (omega arith) (omega arith) refl ⨾ text-letter 38 _ (omega arith) (omega arith) refl ⨾ one ⨾ one ⨾ one ⨾ one ⨾ one ⨾ one ⨾ tt) x h)

shift_small : (x : ℕ) → x < letter_count → shift_of x < 3
shift_small x h = ltb-true (shift_of x) 3 (all-at (λ y. ltb (shift_of y) 3) letter_count x refl h)

pub row-good : {x row : ℕ} → RowOf x row → Row row
row-good {x} p = rw p.is (record { near = shift_small x p.low; within = (letter_at x p.low).within })

-- a value's text, by the row that the code looked up
module _ {x row : ℕ} (v : ℕ) (p : RowOf x row) where
  pub row_count : count (get_or alphabet x unused) ≡ row / 65536 % 256
  row_count = rw p.is (letter_at x p.low).count

  pub text-stands : {packed : ℕ} → v < row / 65536 % 256 → packed ≡ get_or packed_texts (row % 256 + v * 2 ^ (row / 256 % 256)) 0 → text_bytes packed ≡ text_of (get_or alphabet x unused) v
  text-stands h e = ap text_bytes (rw p.is at e) ∙ (letter_at x p.low).text v (rw p.is at h)

-- ---- the place of a number among those of a letter

steps-off : (h d v : ℕ) → h < 3 → d < 256 → (d / 2 ^ h * 2 ^ h % 256 ≡ d → ⊥) → d ≡ v * 2 ^ h → ⊥
steps-off zero d v k l n e = n (omega arith)
steps-off (suc zero) d v k l n e = n (omega arith)
steps-off (suc (suc zero)) d v k l n e = n (omega arith)
steps-off (suc (suc (suc h))) d v k l n e = omega arith

steps-past : (h d v n : ℕ) → h < 3 → n ≤ d / 2 ^ h → v < n → d ≡ v * 2 ^ h → ⊥
steps-past zero d v n k l o e = omega arith
steps-past (suc zero) d v n k l o e = omega arith
steps-past (suc (suc zero)) d v n k l o e = omega arith
steps-past (suc (suc (suc h))) d v n k l o e = omega arith

steps_on : (h d : ℕ) → h < 3 → d < 256 → d / 2 ^ h * 2 ^ h % 256 ≡ d → d / 2 ^ h * 2 ^ h ≡ d
steps_on zero d k l e = omega arith
steps_on (suc zero) d k l e = omega arith
steps_on (suc (suc zero)) d k l e = omega arith
steps_on (suc (suc (suc h))) d k l e = absurd (omega arith)

-- as the code takes it: how far the number is behind the first, in steps
module _ (x m : ℕ) (low : x < letter_count) (number : first_of x < 32) where
  abbrev first : ℕ
  first = first_of x

  abbrev step : ℕ
  step = 2 ^ shift_of x

  abbrev pub Placed : Option ℕ → Type 0
  Placed r = r ≡ placed m (numbers_of (get_or alphabet x unused))

  the-numbers : numbers_of (get_or alphabet x unused) ≡ progression first step (count_of x)
  the-numbers = ap numbers_of ((letter_at x low).number number)

  each-once : once (progression first step (count_of x)) ≡ true
  each-once = (and-true (once (progression first step (count_of x))) _ (rw ((letter_at x low).number number) at (sound-letter x))).0

  not_there : ((v : ℕ) → v < count_of x → m ≡ first + v * step → ⊥) → Placed None
  not_there n =
      let ns : List ℕ = progression first step (count_of x) in
      let many = progression-length first step (count_of x) in
      rw the-numbers
      (elim (dec_le (suc (place_of m ns)) (length ns)) [
        | yes h ↦ absurd (n (place_of m ns) (omega arith) (sym (place-has m ns h) ∙ progression-at first step (count_of x) (place_of m ns) (omega arith)))
        | no h ↦ sym (placed-not ns m (omega arith))
      ])

  pub place-low : m < first → Placed None
  place-low h = not_there (λ v k e. omega arith)

  pub place-off : first ≤ m → m < 256 → ((m - first) / step * step % 256 ≡ m - first → ⊥) → Placed None
  place-off h k n = not_there (λ v l e. steps-off (shift_of x) (m - first) v (shift_small x low) (omega arith) n (omega arith))

  pub place-past : first ≤ m → count_of x ≤ (m - first) / step → Placed None
  place-past h k = not_there (λ v l e. steps-past (shift_of x) (m - first) v (count_of x) (shift_small x low) k l (omega arith))

  pub place_at : first ≤ m → m < 256 → (m - first) / step * step % 256 ≡ m - first → (m - first) / step < count_of x → Placed (Some ((m - first) / step))
  place_at h k e l =
      let v : ℕ = (m - first) / step in
      let ns : List ℕ = progression first step (count_of x) in
      let many = progression-length first step (count_of x) in
      let is : get_or ns v 0 ≡ m = progression-at first step (count_of x) v l ∙ omega (arith, steps_on (shift_of x) (m - first) (shift_small x low) (omega arith) e) in
      let at : place_of m ns ≡ v = rw is at (place_is ns each-once v (omega arith)) in
      rw the-numbers (sym (placed-there ns m (omega arith) ∙ ap Some at))

-- ---- texts by their first byte

first_byte : (n p : ℕ) → 1 ≤ length (unpack n p) → get_or (unpack n p) 0 0 ≡ p % 256
unfolding unpack
first_byte zero p h = absurd (omega arith)
first_byte (suc n) p h = refl

-- no text before this one begins with the byte
pub record Seeking (ws : List (List ℕ)) (b i : ℕ) : Type 0 where
  pub within : i ≤ length ws
  pub later : starting_with b ws ≡ i + starting_with b (drop i ws)

pub seeking-starts : (ws : List (List ℕ)) (b : ℕ) → Seeking ws b 0
seeking-starts ws b = record { within = omega arith; later = omega arith }

seek : (ws : List (List ℕ)) (b i : ℕ) → i < length ws → starting_with b (drop i ws) ≡ pick_number (eqb (get_or (get_or ws i []) 0 0) b) 0 (suc (starting_with b (drop (suc i) ws)))
unfolding starting_with
seek ws b i h = rw (drop-cons ws i [] h)

pub seeking-on : (ws : List (List ℕ)) (b i : ℕ) → Seeking ws b i → i < length ws → (get_or (get_or ws i []) 0 0 ≡ b → ⊥) → Seeking ws b (i + 1)
seeking-on ws b i k h n =
    let e : starting_with b (drop i ws) ≡ suc (starting_with b (drop (suc i) ws)) = seek ws b i h ∙ rw (ne_eqb (get_or (get_or ws i []) 0 0) b n) in
    let y : i + 1 ≡ suc i = omega arith in
    let z : drop (i + 1) ws ≡ drop (suc i) ws = ap (λ (j : ℕ). drop j ws) y in
    record { within = omega arith; later = omega (arith, k.later, e, ap (starting_with b) z) }

pub seeking-found : (ws : List (List ℕ)) (b i : ℕ) (u : List ℕ) → Seeking ws b i → i < length ws → get_or (get_or ws i []) 0 0 ≡ b → i ≡ guess_text ws (b ∷ u)
unfolding guess_text
seeking-found ws b i u k h e =
    let z : starting_with b (drop i ws) ≡ 0 = seek ws b i h ∙ rw (eq-eqb (get_or (get_or ws i []) 0 0) b e) in
    let p : starting_with b ws ≡ i = omega (arith, k.later) in
    sym (rw (p, lt-ltb i (length ws) h))

pub seeking-ends : (ws : List (List ℕ)) (b i : ℕ) (u : List ℕ) → Seeking ws b i → length ws ≤ i → 0 ≡ guess_text ws (b ∷ u)
unfolding guess_text
seeking-ends ws b i u k h = sym (rw (le-ltb (starting_with b ws) (length ws) (omega (arith, k.later))))

-- ---- a text, byte by byte

pub record Going (text : ℕ) (s : List ℕ) (at rest i : ℕ) : Type 0 where
  pub within : i ≤ text / 16777216
  pub inside : at + i ≤ length s
  pub later : common_prefix (text_bytes text) (drop at s) ≡ i + common_prefix (unpack (text / 16777216 - i) rest) (drop (at + i) s)

pub going-starts : (text : ℕ) (s : List ℕ) (at : ℕ) → at ≤ length s → Going text s at text 0
unfolding text_bytes
going-starts text s at h =
    let z : at + 0 ≡ at = omega arith in
    let y : text / 16777216 - 0 ≡ text / 16777216 = omega arith in
    record { within = omega arith; inside = omega arith; later = rw (z, y) (omega arith) }

pub going-past : (text : ℕ) (s : List ℕ) (at rest i : ℕ) → Going text s at rest i → length s ≤ at + i → i ≡ common_prefix (text_bytes text) (drop at s)
going-past text s at rest i g h =
    let z : drop (at + i) s ≡ [] = drop_of_length-le s h in
    omega (arith, g.later, ap (common_prefix (unpack (text / 16777216 - i) rest)) z, common-none (unpack (text / 16777216 - i) rest))

unpack-on : (n i p : ℕ) → i < n → unpack (n - i) p ≡ p % 256 ∷ unpack (n - (i + 1)) (p / 256)
unfolding unpack
unpack-on n i p h =
    let z : n - i ≡ suc (n - (i + 1)) = omega arith in
    rw z

going-one : (text : ℕ) (s : List ℕ) (at rest i : ℕ) → Going text s at rest i → i < text / 16777216 → at + i < length s
    → common_prefix (text_bytes text) (drop at s) ≡ i + common_prefix (rest % 256 ∷ unpack (text / 16777216 - (i + 1)) (rest / 256)) (get_or s (at + i) 0 ∷ drop (suc (at + i)) s)
going-one text s at rest i g h k =
    g.later ∙ ap (λ (w : List ℕ). i + common_prefix w (drop (at + i) s)) (unpack-on (text / 16777216) i rest h)
    ∙ ap (λ (u : List ℕ). i + common_prefix (rest % 256 ∷ unpack (text / 16777216 - (i + 1)) (rest / 256)) u) (drop-cons s (at + i) 0 k)

pub going-off : (text : ℕ) (s : List ℕ) (at rest i : ℕ) → Going text s at rest i → i < text / 16777216 → at + i < length s → (get_or s (at + i) 0 ≡ rest % 256 → ⊥) → i ≡ common_prefix (text_bytes text) (drop at s)
going-off text s at rest i g h k n =
    omega (arith, going-one text s at rest i g h k, common-other (rest % 256) (get_or s (at + i) 0) (unpack (text / 16777216 - (i + 1)) (rest / 256)) (drop (suc (at + i)) s) (λ e. n (sym e)))

pub going_on : (text : ℕ) (s : List ℕ) (at rest i : ℕ) → Going text s at rest i → i < text / 16777216 → at + i < length s → get_or s (at + i) 0 ≡ rest % 256 → Going text s at (rest / 256) (i + 1)
going_on text s at rest i g h k e =
    let w : List ℕ = unpack (text / 16777216 - (i + 1)) (rest / 256) in
    let u : List ℕ = drop (suc (at + i)) s in
    let y : at + (i + 1) ≡ suc (at + i) = omega arith in
    let z : drop (at + (i + 1)) s ≡ u = ap (λ (j : ℕ). drop j s) y in
    let same : common_prefix (rest % 256 ∷ w) (get_or s (at + i) 0 ∷ u) ≡ suc (common_prefix w u) = ap (λ (x : ℕ). common_prefix (rest % 256 ∷ w) (x ∷ u)) e ∙ common-same (rest % 256) w u in
    record { within = omega arith; inside = omega arith; later = omega (arith, going-one text s at rest i g h k, same, ap (common_prefix w) z) }

pub going-ends : (text : ℕ) (s : List ℕ) (at rest i : ℕ) → Going text s at rest i → text / 16777216 ≤ i → text / 16777216 ≡ common_prefix (text_bytes text) (drop at s)
unfolding unpack
going-ends text s at rest i g h =
    let z : text / 16777216 - i ≡ 0 = omega arith in
    omega (arith, g.later, g.within, ap (λ (n : ℕ). common_prefix (unpack n rest) (drop (at + i) s)) z, common-nil (drop (at + i) s))

unpack-length : (n p : ℕ) → length (unpack n p) ≡ n
unfolding unpack
unpack-length zero p = refl
unpack-length (suc n) p = ap suc (unpack-length n (p / 256))

pub text-length : (text : ℕ) → length (text_bytes text) ≡ text / 16777216
unfolding text_bytes
text-length text = unpack-length (text / 16777216) text

-- ---- the loop over a letter's texts

text-there : (ns : List ℕ) (v : ℕ) → v < length ns → get_or (map decimal ns) v [] ≡ decimal (get_or ns v 0)
text-there [] v h = absurd (omega arith)
text-there (n ∷ ns) zero h = refl
text-there (n ∷ ns) (suc v) h = text-there ns v (omega arith)

texts-length : (k : Choices) → length (texts_of k) ≡ count k
texts-length (numbers ns) = map-length ns
texts-length (texts ws) = refl

one-long : (n : ℕ) → 1 ≤ length (decimal n)
unfolding decimal
one-long n =
    elim (dec_le 10 n) [
      | yes h ↦ rw (le-ltb n 10 h) (omega arith)
      | no h ↦ rw (lt-ltb n 10 (omega arith)) (omega arith)
    ]

-- a value's text, which has a first byte
text-is : (k : Choices) (v : ℕ) → sound_choices k ≡ true → v < count k → (get_or (texts_of k) v [] ≡ text_of k v) × (1 ≤ length (text_of k v))
text-is (numbers ns) v s h = (text-there ns v h, one-long (get_or ns v 0))
text-is (texts ws) v s h = (refl, text-long v ws (sound-texts ws s) h)

module _ (x b v : ℕ) (low : x < letter_count) where
  abbrev pub Looking : Type 0
  Looking = Seeking (texts_of (get_or alphabet x unused)) b v

  texts-many : length (texts_of (get_or alphabet x unused)) ≡ count_of x
  texts-many = texts-length (get_or alphabet x unused) ∙ (letter_at x low).count

  -- the first byte of the text that stands for the value
  head-is : (p : ℕ) → text_bytes p ≡ text_of (get_or alphabet x unused) v → v < count_of x → get_or (get_or (texts_of (get_or alphabet x unused)) v []) 0 0 ≡ p % 256
  unfolding text_bytes
  head-is p e h =
      let t = text-is (get_or alphabet x unused) v (sound-letter x) (omega (arith, (letter_at x low).count)) in
      ap (λ (w : List ℕ). get_or w 0 0) (t.0 ∙ sym e) ∙ first_byte (p / 16777216) p (rw e t.1)

  module _ (l : Looking) (p : ℕ) (is : text_bytes p ≡ text_of (get_or alphabet x unused) v) (h : v < count_of x) where
    pub looking-on : (p % 256 ≡ b → ⊥) → Seeking (texts_of (get_or alphabet x unused)) b (v + 1)
    looking-on n = seeking-on (texts_of (get_or alphabet x unused)) b v l (omega (arith, texts-many)) (λ q. n (sym (head-is p is h) ∙ q))

    pub looking-found : p % 256 ≡ b → v ≡ guess_text (texts_of (get_or alphabet x unused)) (b ∷ [])
    looking-found e = seeking-found (texts_of (get_or alphabet x unused)) b v [] l (omega (arith, texts-many)) (head-is p is h ∙ e)

  pub looking-ends : Looking → count_of x ≤ v → 0 ≡ guess_text (texts_of (get_or alphabet x unused)) (b ∷ [])
  looking-ends l h = seeking-ends (texts_of (get_or alphabet x unused)) b v [] l (omega (arith, texts-many))

pub looking-starts : (x b : ℕ) → Seeking (texts_of (get_or alphabet x unused)) b 0
looking-starts x b = seeking-starts (texts_of (get_or alphabet x unused)) b

-- the other bytes do not matter to a text
pub guess-text-first : (k : Choices) (b : ℕ) (u : List ℕ) → (ws : List (List ℕ)) × (k ≡ texts ws) → guess_text (texts_of k) (b ∷ []) ≡ guess k (b ∷ u)
unfolding guess_text
guess-text-first k b u p = ap (λ (z : Choices). guess_text (texts_of z) (b ∷ [])) p.1 ∙ ap (λ (z : Choices). guess z (b ∷ u)) (sym p.1)

-- where nothing is left every guess is the first
pub guess-none : (k : Choices) → 0 ≡ guess k []
unfolding guess_number guess_text
guess-none (numbers ns) = refl
guess-none (texts ws) = refl

-- a letter of numbers
pub guess-is : (x : ℕ) (u : List ℕ) → x < letter_count → first_of x < 32 → guess_number (numbers_of (get_or alphabet x unused)) u ≡ guess (get_or alphabet x unused) u
guess-is x u low number =
    let e = (letter_at x low).number number in
    ap (λ (k : Choices). guess_number (numbers_of k) u) e ∙ ap (λ (k : Choices). guess k u) (sym e)

pub numbers-texts : (x : ℕ) → x < letter_count → first_of x < 32 → texts_of (get_or alphabet x unused) ≡ map decimal (numbers_of (get_or alphabet x unused))
numbers-texts x low number =
    let e = (letter_at x low).number number in
    ap texts_of e ∙ ap (λ (k : Choices). map decimal (numbers_of k)) (sym e)
