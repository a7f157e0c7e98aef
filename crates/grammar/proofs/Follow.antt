-- Reading by a template is exact: `upper`, `complete`, `sound`, `lower`. Assumes nothing.
use Prim.Native.Nat.{ℕ, zero, suc, ◌+◌, ◌≤◌, ◌<◌}
use mathlib.Core.Path.{◌≡◌, refl, sym, ap, ◌∙◌, subst}
use mathlib.Core.Bool.{Bool, true, false, ◌&&◌, not}
use mathlib.Core.List.{List, [], ◌∷◌, ◌++◌}
use mathlib.Core.Logic.{◌⊎◌, inl, inr, ⊎_elim}
use native.Mathlib.Omega.{arith}
use native.Mathlib.Decide.{ℕ_discrete}
use borrow.Author.Tests.{eq-eqb, ne_eqb, not-true}
use lib.Dec.{eqb}
use lib.ListN.{length, get_or, drop}
use lib.Seq.{drop-append_seam}
use Rattle.grammar.specs.Template.{Item, byte, var, Choices, numbers, texts, Variables, text_of, count, fill, Filled, pick_number, bind}
use Rattle.grammar.specs.Follow.{common_prefix, is_digit, guess, unset, Followed, further, stuck, value_of, follow, Fixed}
use Rattle.grammar.proofs.Prefix.{common-same, common-other, common-none, common-nil, common-le, common-short, common-long, common-all, common-own}
use Rattle.grammar.proofs.Guess.{and-true, differ, sound_choices, IsNumber, Other, worse, inside, best, guess-fits}

-- ---- templates that can be read: behind a number stands a byte that is no digit, or nothing

abbrev pub ends_number : List Item → Bool
ends_number [] = true
ends_number (byte b ∷ t) = not (is_digit b)
ends_number (var x ∷ t) = false

abbrev pub follows : Choices → List Item → Bool
follows (numbers ns) t = ends_number t
follows (texts ws) t = true

abbrev pub clear : Variables → List Item → Bool
clear vs [] = true
clear vs (byte b ∷ t) = clear vs t
clear vs (var x ∷ t) = follows (vs.choices x) t && clear vs t

-- ---- values of slots, below the number that each slot has

abbrev pub Good : (ℕ → ℕ) → (ℕ → ℕ) → Type 0
Good most e = (y : ℕ) → e y < most y

-- values for some slots
abbrev pub Partly : (ℕ → ℕ) → (ℕ → ℕ) → Type 0
Partly most r = (y : ℕ) → (r y ≡ unset) ⊎ (r y < most y)

-- where a slot has a value, it is that one
abbrev pub Agrees : (ℕ → ℕ) → (ℕ → ℕ) → Type 0
Agrees r e = (y : ℕ) → (r y ≡ unset) ⊎ (r y ≡ e y)

-- variables that can be read: sound choices, and variables of one slot have as many values
pub record Readable (vs : Variables) (most : ℕ → ℕ) : Type 0 where
  pub sound : (x : ℕ) → sound_choices (vs.choices x) ≡ true
  pub counts : (x : ℕ) → count (vs.choices x) ≡ most (vs.slot x)
  pub some : (y : ℕ) → 1 ≤ most y
  pub few : (y : ℕ) → most y ≤ 99

pub bind-here : (y v : ℕ) (r : ℕ → ℕ) → bind y v r y ≡ v
bind-here y v r = rw (eq-eqb y y refl)

pub bind-there : (y v : ℕ) (r : ℕ → ℕ) (z : ℕ) → (z ≡ y → ⊥) → bind y v r z ≡ r z
bind-there y v r z h = rw (ne_eqb z y h)

agrees-bind : (y v : ℕ) (r e : ℕ → ℕ) → Agrees r e → v ≡ e y → Agrees (bind y v r) e
agrees-bind y v r e a h z =
    elim (ℕ_discrete z y) [
      | yes p ↦ inr (ap (bind y v r) p ∙ bind-here y v r ∙ h ∙ ap e (sym p))
      | no n ↦ rw (bind-there y v r z n) (a z)
    ]

pub partly-bind : (most : ℕ → ℕ) (y v : ℕ) (r : ℕ → ℕ) → Partly most r → v < most y → Partly most (bind y v r)
partly-bind most y v r p f z =
    elim (ℕ_discrete z y) [
      | yes e ↦ inr (subst (λ (i : ℕ). bind y v r i < most i) (sym e) (rw (bind-here y v r) f))
      | no n ↦ rw (bind-there y v r z n) (p z)
    ]

bound-is : (y v : ℕ) (r e : ℕ → ℕ) → v ≤ 99 → Agrees (bind y v r) e → e y ≡ v
bound-is y v r e low a = ⊎_elim (λ u. absurd (omega (arith, u, bind-here y v r))) (λ k. sym k ∙ bind-here y v r) (a y)

first_of : (a b : ℕ) (s t : List ℕ) → ◌≡◌ {A = List ℕ} (a ∷ s) (b ∷ t) → a ≡ b
first_of a b s t e = cc

rest_of : (a b : ℕ) (s t : List ℕ) → ◌≡◌ {A = List ℕ} (a ∷ s) (b ∷ t) → s ≡ t
rest_of a b s t e = cc

no_text : (a : ℕ) (s : List ℕ) → ◌≡◌ {A = List ℕ} [] (a ∷ s) → ⊥
no_text a s e = let z : ◌≡◌ {A = ℕ} 0 1 = cc in omega arith

module _ (vs : Variables) (most : ℕ → ℕ) (readable : Readable vs most) where
  -- ---- one variable

  -- the value that a variable has, once the text s was looked at, and its text
  abbrev pub value : ℕ → (ℕ → ℕ) → List ℕ → ℕ
  value x r s = value_of (vs.choices x) (r (vs.slot x)) s

  abbrev pub said : ℕ → (ℕ → ℕ) → List ℕ → List ℕ
  said x r s = text_of (vs.choices x) (value x r s)

  abbrev pub next : ℕ → (ℕ → ℕ) → List ℕ → ℕ → ℕ
  next x r s = bind (vs.slot x) (value x r s) r

  low : (y v : ℕ) → v < most y → v ≤ 99
  low y v h = omega (arith, readable.few y)

  value-guessed : (x : ℕ) (r : ℕ → ℕ) (s : List ℕ) → r (vs.slot x) ≡ unset → value x r s ≡ guess (vs.choices x) s
  value-guessed x r s h = rw (eq-eqb (r (vs.slot x)) unset h)

  value-kept : (x v : ℕ) (r : ℕ → ℕ) (s : List ℕ) → r (vs.slot x) ≡ v → v ≤ 99 → value x r s ≡ v
  value-kept x v r s h k = rw (ne_eqb (r (vs.slot x)) unset (λ e. omega arith)) h

  pub value-fits : (x : ℕ) (r : ℕ → ℕ) (s : List ℕ) → Partly most r → value x r s < most (vs.slot x)
  value-fits x r s p =
      ⊎_elim (λ u. rw (value-guessed x r s u, ← readable.counts x) (guess-fits (vs.choices x) (readable.sound x) s))
      (λ f. rw (value-kept x (r (vs.slot x)) r s refl (low (vs.slot x) (r (vs.slot x)) f)) f)
      (p (vs.slot x))

  -- the value that the variable has in some line, beside the one that is read
  versus : (x : ℕ) (r e : ℕ → ℕ) (s : List ℕ) → Good most e → Agrees r e
      → (e (vs.slot x) ≡ value x r s) ⊎ Other (vs.choices x) s (said x r s) (text_of (vs.choices x) (e (vs.slot x)))
  versus x r e s g a =
      let y : ℕ = vs.slot x in
      ⊎_elim (λ u. rw (value-guessed x r s u) (best (vs.choices x) (readable.sound x) (e y) s (rw (readable.counts x) (g y))))
      (λ k. inl (sym (value-kept x (e y) r s k (low y (e y) (g y)))))
      (a y)

  pub follow-on : (x : ℕ) (t : List Item) (r : ℕ → ℕ) (s : List ℕ) → common_prefix (said x r s) s ≡ length (said x r s)
      → follow vs (var x ∷ t) r s ≡ further (length (said x r s)) (follow vs t (next x r s) (drop (length (said x r s)) s))
  unfolding follow
  follow-on x t r s h = rw (eq-eqb _ _ h)

  pub follow-off : (x : ℕ) (t : List Item) (r : ℕ → ℕ) (s : List ℕ) → (common_prefix (said x r s) s ≡ length (said x r s) → ⊥)
      → follow vs (var x ∷ t) r s ≡ stuck (common_prefix (said x r s) s) (next x r s)
  unfolding follow
  follow-off x t r s h = rw (ne_eqb _ _ h)

  pub follow-byte : (b : ℕ) (t : List Item) (r : ℕ → ℕ) (a : ℕ) (s : List ℕ) → a ≡ b → follow vs (byte b ∷ t) r (a ∷ s) ≡ further 1 (follow vs t r s)
  unfolding follow
  follow-byte b t r a s h = rw (eq-eqb a b h)

  pub follow-other : (b : ℕ) (t : List Item) (r : ℕ → ℕ) (a : ℕ) (s : List ℕ) → (a ≡ b → ⊥) → follow vs (byte b ∷ t) r (a ∷ s) ≡ stuck 0 r
  unfolding follow
  follow-other b t r a s h = rw (ne_eqb a b h)

  -- a text that has another byte where the template has a fixed one stops there, or before
  pub fixed-stop : (t : List Item) (q b : ℕ) (r : ℕ → ℕ) (s : List ℕ) → Fixed t q b → (get_or s q 0 ≡ b → ⊥) → ((follow vs t r s).whole ≡ false) × ((follow vs t r s).reach ≤ q)
  unfolding follow
  fixed-stop [] q b r s f n = absurd f
  fixed-stop (var x ∷ t) q b r s f n = absurd f
  fixed-stop (byte a ∷ t) q b r [] f n = (refl, omega arith)
  fixed-stop (byte a ∷ t) zero b r (d ∷ s) f n = rw (follow-other a t r d s (λ e. n (e ∙ f))) (refl, omega arith)
  fixed-stop (byte a ∷ t) (suc q) b r (d ∷ s) f n =
      elim (ℕ_discrete d a) [
        | yes h ↦
            let o = fixed-stop t q b r s f n in
            rw (follow-byte a t r d s h) (o.0, omega (arith, o.1))
        | no h ↦ rw (follow-other a t r d s h) (refl, omega arith)
      ]

  reach-said : (x : ℕ) (t : List Item) (r : ℕ → ℕ) (s : List ℕ) → common_prefix (said x r s) s ≤ (follow vs (var x ∷ t) r s).reach
  reach-said x t r s =
      elim (ℕ_discrete (common_prefix (said x r s) s) (length (said x r s))) [
        | yes h ↦ rw (follow-on x t r s h) (omega arith)
        | no h ↦ rw (follow-off x t r s h) (omega arith)
      ]

  -- behind a number no line has a digit
  no_digit : (k : Choices) (t : List Item) (e : ℕ → ℕ) → IsNumber k → follows k t ≡ true → (d : ℕ) (u : List ℕ) → is_digit d ≡ true → common_prefix (fill vs t e) (d ∷ u) ≡ 0
  no_digit (numbers ns) [] e i f d u h = common-nil (d ∷ u)
  no_digit (numbers ns) (byte b ∷ t) e i f d u h = common-other b d _ u (λ p. differ (sym h ∙ ap is_digit (sym p) ∙ not-true (is_digit b) f))
  no_digit (numbers ns) (var x ∷ t) e i f d u h = absurd (differ (sym f))
  no_digit (texts ws) t e i f d u h = absurd i

  -- ---- no line of the template goes further

  pub upper : (t : List Item) (r e : ℕ → ℕ) (s : List ℕ) → clear vs t ≡ true → Good most e → Agrees r e → common_prefix (fill vs t e) s ≤ (follow vs t r s).reach
  upper [] r e s c g a = rw (common-nil s) (omega arith)
  upper (byte b ∷ t) r e [] c g a = rw (common-none (b ∷ fill vs t e)) (omega arith)
  upper (byte b ∷ t) r e (d ∷ s) c g a =
      elim (ℕ_discrete d b) [
        | yes h ↦ rw (follow-byte b t r d s h, h, common-same b (fill vs t e) s) (omega (arith, upper t r e s c g a))
        | no h ↦ rw (common-other b d (fill vs t e) s (λ p. h (sym p))) (omega arith)
      ]
  upper (var x ∷ t) r e s c g a =
      let w : List ℕ = said x r s in
      let w' : List ℕ = text_of (vs.choices x) (e (vs.slot x)) in
      let u : List ℕ = fill vs t e in
      let parts = and-true (follows (vs.choices x) t) (clear vs t) c in
      let far = reach-said x t r s in
      elim (versus x r e s g a) [
        | inl same ↦
            let k : w' ≡ w = ap (text_of (vs.choices x)) same in
            elim (ℕ_discrete (common_prefix w s) (length w)) [
              | yes h ↦ rw (k, follow-on x t r s h, common-long w u s h) (omega (arith, upper t (next x r s) e (drop (length w) s) parts.1 g (agrees-bind (vs.slot x) _ r e a (sym same))))
              | no h ↦ rw (k, common-short w u s (omega (arith, common-le w s))) far
            ]
        | inr (worse below no-better) ↦ rw (common-short w' u s below) (omega arith)
        | inr (inside num ends less full d v behind digit) ↦
            let z : common_prefix u (drop (length w') s) ≡ 0 = rw behind (no_digit (vs.choices x) t e num parts.0 d v digit) in
            rw (common-long w' u s ends, z) (omega arith)
      ]

  -- ---- a line of the template is read whole, with its own values

  pub record Reads (t : List Item) (r e : ℕ → ℕ) (s : List ℕ) : Type 0 where
    pub whole : (follow vs t r s).whole ≡ true
    pub values : Agrees (follow vs t r s).values e

  pub complete : (t : List Item) (r e : ℕ → ℕ) (s : List ℕ) → clear vs t ≡ true → Good most e → Agrees r e → fill vs t e ≡ s → Reads t r e s
  unfolding follow
  complete [] r e [] c g a h = record { whole = refl; values = a }
  complete [] r e (d ∷ s) c g a h = absurd (no_text d s h)
  complete (byte b ∷ t) r e [] c g a h = absurd (no_text b _ (sym h))
  complete (byte b ∷ t) r e (d ∷ s) c g a h =
      let q = follow-byte b t r d s (sym (first_of b d _ s h)) in
      let o = complete t r e s c g a (rest_of b d _ s h) in
      record { whole = rw q o.whole; values = rw q o.values }
  complete (var x ∷ t) r e s c g a h =
      let w : List ℕ = said x r s in
      let w' : List ℕ = text_of (vs.choices x) (e (vs.slot x)) in
      let u : List ℕ = fill vs t e in
      let parts = and-true (follows (vs.choices x) t) (clear vs t) c in
      let own : common_prefix w' s ≡ length w' = subst (λ (z : List ℕ). common_prefix w' z ≡ length w') h (common-own w' u) in
      let behind : drop (length w') s ≡ u = subst (λ (z : List ℕ). drop (length w') z ≡ u) h (drop-append_seam w' u) in
      elim (versus x r e s g a) [
        | inl same ↦
            let k : w' ≡ w = ap (text_of (vs.choices x)) same in
            let o = complete t (next x r s) e (drop (length w) s) parts.1 g (agrees-bind (vs.slot x) _ r e a (sym same)) (sym behind ∙ ap (λ (z : List ℕ). drop (length z) s) k) in
            let q = follow-on x t r s (subst (λ (z : List ℕ). common_prefix z s ≡ length z) k own) in
            record { whole = rw q o.whole; values = rw q o.values }
        | inr (worse below no-better) ↦ absurd (omega arith)
        | inr (inside num ends less full d v after digit) ↦
            let z : common_prefix u (d ∷ v) ≡ 0 = no_digit (vs.choices x) t e num parts.0 d v digit in
            let y : u ≡ d ∷ v = sym behind ∙ after in
            absurd (omega (arith, z, ap (λ (l : List ℕ). common_prefix l (d ∷ v)) y ∙ common-same d v v))
      ]

  -- ---- what is read whole is the template with the values

  still : (x : ℕ) (r : ℕ → ℕ) (s : List ℕ) (y v : ℕ) → r y ≡ v → v ≤ 99 → next x r s y ≡ v
  still x r s y v h k =
      elim (ℕ_discrete y (vs.slot x)) [
        | yes p ↦ ap (next x r s) p ∙ bind-here (vs.slot x) _ r ∙ value-kept x v r s (ap r (sym p) ∙ h) k
        | no p ↦ bind-there (vs.slot x) _ r y p ∙ h
      ]

  -- a slot keeps its value
  kept : (t : List Item) (r : ℕ → ℕ) (s : List ℕ) (y v : ℕ) → r y ≡ v → v ≤ 99 → (follow vs t r s).values y ≡ v
  unfolding follow
  kept [] r [] y v h k = h
  kept [] r (a ∷ s) y v h k = h
  kept (byte b ∷ t) r [] y v h k = h
  kept (byte b ∷ t) r (a ∷ s) y v h k =
      elim (ℕ_discrete a b) [
        | yes p ↦ rw (follow-byte b t r a s p) (kept t r s y v h k)
        | no p ↦ rw (follow-other b t r a s p) h
      ]
  kept (var x ∷ t) r s y v h k =
      let o : next x r s y ≡ v = still x r s y v h k in
      elim (ℕ_discrete (common_prefix (said x r s) s) (length (said x r s))) [
        | yes p ↦ rw (follow-on x t r s p) (kept t (next x r s) (drop (length (said x r s)) s) y v o k)
        | no p ↦ rw (follow-off x t r s p) o
      ]

  pub record Made (t : List Item) (e : ℕ → ℕ) (s : List ℕ) : Type 0 where
    pub text : fill vs t e ≡ s
    pub filled : Filled vs t e

  pub sound : (t : List Item) (r : ℕ → ℕ) (s : List ℕ) → Partly most r → (follow vs t r s).whole ≡ true → Made t (follow vs t r s).values s
  unfolding follow
  sound [] r [] p h = record { text = refl; filled = tt }
  sound [] r (a ∷ s) p h = absurd (differ (sym h))
  sound (byte b ∷ t) r [] p h = absurd (differ (sym h))
  sound (byte b ∷ t) r (a ∷ s) p h =
      elim (ℕ_discrete a b) [
        | yes k ↦
            let q = follow-byte b t r a s k in
            let o = sound t r s p (ap (λ (z : Followed). z.whole) (sym q) ∙ h) in
            rw (q, k) (record { text = ap (λ (z : List ℕ). b ∷ z) o.text; filled = o.filled })
        | no k ↦ absurd (differ (sym (ap (λ (z : Followed). z.whole) (sym (follow-other b t r a s k)) ∙ h)))
      ]
  sound (var x ∷ t) r s p h =
      let v : ℕ = value x r s in
      let w : List ℕ = said x r s in
      elim (ℕ_discrete (common_prefix w s) (length w)) [
        | yes k ↦
            let q = follow-on x t r s k in
            let f = value-fits x r s p in
            let o = sound t (next x r s) (drop (length w) s) (partly-bind most (vs.slot x) v r p f) (ap (λ (z : Followed). z.whole) (sym q) ∙ h) in
            let has : (follow vs t (next x r s) (drop (length w) s)).values (vs.slot x) ≡ v = kept t (next x r s) (drop (length w) s) (vs.slot x) v (bind-here (vs.slot x) v r) (low (vs.slot x) v f) in
            rw q (record { text = rw (has, o.text) (common-all w s k); filled = (rw (has, readable.counts x) f, o.filled) })
        | no k ↦ absurd (differ (sym (ap (λ (z : Followed). z.whole) (sym (follow-off x t r s k)) ∙ h)))
      ]

  -- ---- some line of the template goes as far

  pub record Line (t : List Item) (r : ℕ → ℕ) (s : List ℕ) (n : ℕ) : Type 0 where
    pub values : ℕ → ℕ
    pub good : Good most values
    pub agrees : Agrees r values
    pub goes : common_prefix (fill vs t values) s ≡ n

  -- the first value for the slots that have none
  abbrev all : (ℕ → ℕ) → ℕ → ℕ
  all r y = pick_number (eqb (r y) unset) 0 (r y)

  all_set : (r : ℕ → ℕ) (y v : ℕ) → r y ≡ v → v ≤ 99 → all r y ≡ v
  all_set r y v h k = rw (ne_eqb (r y) unset (λ e. omega arith)) h

  some : (t : List Item) (r : ℕ → ℕ) (s : List ℕ) (n : ℕ) → Partly most r → common_prefix (fill vs t (all r)) s ≡ n → Line t r s n
  some t r s n p h =
      record {
        values = all r;
        good = λ y. ⊎_elim (λ u. rw (eq-eqb (r y) unset u) (readable.some y)) (λ f. rw (all_set r y (r y) refl (low y (r y) f)) f) (p y);
        agrees = λ y. ⊎_elim (λ u. inl u) (λ f. inr (sym (all_set r y (r y) refl (low y (r y) f)))) (p y);
        goes = h;
      }

  unbind : (x : ℕ) (r e : ℕ → ℕ) (s : List ℕ) → Partly most r → Agrees (next x r s) e → Agrees r e
  unbind x r e s p a z =
      let y : ℕ = vs.slot x in
      elim (ℕ_discrete z y) [
        | yes q ↦
            ⊎_elim (λ u. inl (ap r q ∙ u))
            (λ f. let keep = value-kept x (r y) r s refl (low y (r y) f) in
            inr (ap r q ∙ sym (bound-is y (r y) r e (low y (r y) f) (rw keep at a)) ∙ ap e (sym q)))
            (p y)
        | no n ↦ rw (bind-there y (value x r s) r z n) at (a z)
      ]

  pub lower : (t : List Item) (r : ℕ → ℕ) (s : List ℕ) → Partly most r → Line t r s (follow vs t r s).reach
  unfolding follow
  lower [] r [] p = some [] r [] 0 p (common-nil [])
  lower [] r (a ∷ s) p = some [] r (a ∷ s) 0 p (common-nil (a ∷ s))
  lower (byte b ∷ t) r [] p = some (byte b ∷ t) r [] 0 p (common-none (b ∷ fill vs t (all r)))
  lower (byte b ∷ t) r (a ∷ s) p =
      elim (ℕ_discrete a b) [
        | yes k ↦
            let o = lower t r s p in
            rw (follow-byte b t r a s k, k) (record { values = o.values; good = o.good; agrees = o.agrees; goes = omega (arith, common-same b (fill vs t o.values) s, o.goes) })
        | no k ↦ rw (follow-other b t r a s k) (some (byte b ∷ t) r (a ∷ s) 0 p (common-other b a (fill vs t (all r)) s (λ e. k (sym e))))
      ]
  lower (var x ∷ t) r s p =
      let y : ℕ = vs.slot x in
      let v : ℕ = value x r s in
      let w : List ℕ = said x r s in
      let f = value-fits x r s p in
      let here = bind-here y v r in
      elim (ℕ_discrete (common_prefix w s) (length w)) [
        | yes k ↦
            let o = lower t (next x r s) (drop (length w) s) (partly-bind most y v r p f) in
            let e = o.values in
            let has : e y ≡ v = bound-is y v r e (low y v f) o.agrees in
            rw (follow-on x t r s k) (record {
              values = e;
              good = o.good;
              agrees = unbind x r e s p o.agrees;
              goes = rw has (common-long w (fill vs t e) s k ∙ ap (λ (n : ℕ). length w + n) o.goes);
            })
        | no k ↦
            let q = some (var x ∷ t) (next x r s) s (common_prefix w s) (partly-bind most y v r p f)
            (ap (λ (z : ℕ). common_prefix (text_of (vs.choices x) z ++ fill vs t (all (next x r s))) s) (all_set (next x r s) y v here (low y v f))
            ∙ common-short w _ s (omega (arith, common-le w s))) in
            rw (follow-off x t r s k) (record { values = q.values; good = q.good; agrees = unbind x r q.values s p q.agrees; goes = q.goes })
      ]
