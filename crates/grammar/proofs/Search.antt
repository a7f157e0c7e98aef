-- Reading by a list of templates is exact. Assumes nothing.
use Prim.Native.Nat.{ℕ, zero, suc, ◌+◌, ◌≤◌, ◌<◌, max}
use mathlib.Core.Path.{◌≡◌, refl, sym, ap, ◌∙◌, subst}
use mathlib.Core.Bool.{Bool, true, false, ◌&&◌}
use mathlib.Core.List.{List, [], ◌∷◌}
use mathlib.Core.Logic.{◌⊎◌, inl, inr, ⊎_elim}
use native.Mathlib.Omega.{arith}
use native.Mathlib.Decide.{dec_le}
use lib.ListN.{length, get_or}
use Rattle.grammar.specs.Template.{Item, byte, var, Variables, fill, Filled}
use Rattle.grammar.specs.Follow.{follow}
use Rattle.grammar.specs.Search.{read, unread, blank, search}
use Rattle.grammar.proofs.Guess.{and-true}
use Rattle.grammar.proofs.Follow.{clear, Good, Partly, Agrees, Readable, complete, Made, sound}
use Rattle.grammar.proofs.Apart.{apart, no-common}

-- ---- templates that can be read, no two of which have a line in common

abbrev pub clear_all : Variables → List (List Item) → Bool
clear_all vs [] = true
clear_all vs (t ∷ ts) = clear vs t && clear_all vs ts

abbrev pub apart_from : Variables → List Item → List (List Item) → Bool
apart_from vs t [] = true
apart_from vs t (u ∷ us) = apart vs t u && apart_from vs t us

abbrev pub apart_all : Variables → List (List Item) → Bool
apart_all vs [] = true
apart_all vs (t ∷ ts) = apart_from vs t ts && apart_all vs ts

pub clear_at : (vs : Variables) (ts : List (List Item)) (p : ℕ) → clear_all vs ts ≡ true → p < length ts → clear vs (get_or ts p []) ≡ true
clear_at vs [] p c h = absurd (omega arith)
clear_at vs (t ∷ ts) zero c h = (and-true (clear vs t) (clear_all vs ts) c).0
clear_at vs (t ∷ ts) (suc p) c h = clear_at vs ts p (and-true (clear vs t) (clear_all vs ts) c).1 (omega arith)

apart-at : (vs : Variables) (t : List Item) (ts : List (List Item)) (p : ℕ) → apart_from vs t ts ≡ true → p < length ts → apart vs t (get_or ts p []) ≡ true
apart-at vs t [] p c h = absurd (omega arith)
apart-at vs t (u ∷ us) zero c h = (and-true (apart vs t u) (apart_from vs t us) c).0
apart-at vs t (u ∷ us) (suc p) c h = apart-at vs t us p (and-true (apart vs t u) (apart_from vs t us) c).1 (omega arith)

pub filled-good : (vs : Variables) (most : ℕ → ℕ) → Readable vs most → (t : List Item) (e : ℕ → ℕ) → Good most e → Filled vs t e
filled-good vs most o [] e g = tt
filled-good vs most o (byte b ∷ t) e g = filled-good vs most o t e g
filled-good vs most o (var x ∷ t) e g = (rw (o.counts x) (g (vs.slot x)), filled-good vs most o t e g)

pub blank-partly : (most : ℕ → ℕ) → Partly most blank
blank-partly most y = inl refl

pub blank-agrees : (e : ℕ → ℕ) → Agrees blank e
blank-agrees e y = inl refl

same_read : (i j : ℕ) (r r' : ℕ → ℕ) → read i r ≡ read j r' → (i ≡ j) × (r ≡ r')
same_read i j r r' e = (cc, cc)

same-unread : (n m : ℕ) → unread n ≡ unread m → n ≡ m
same-unread n m e = cc

not-both : (i : ℕ) (r : ℕ → ℕ) (n : ℕ) → read i r ≡ unread n → ⊥
not-both i r n e = let z : ◌≡◌ {A = ℕ} 0 1 = cc in omega arith

max-is : (a b : ℕ) → (max a b ≡ a) ⊎ (max a b ≡ b)
max-is a b = elim (dec_le a b) [ yes h ↦ inr (omega arith) | no h ↦ inl (omega arith) ]

max-swap : (k a c : ℕ) → max (max k a) c ≡ max (max k c) a
max-swap k a c = omega arith

max-past : (k l a c : ℕ) → max k c ≡ max l c → max (max k a) c ≡ max (max l a) c
max-past k l a c e = max-swap k a c ∙ ap (λ (n : ℕ). max n a) e ∙ max-swap l c a

module _ (vs : Variables) (most : ℕ → ℕ) (readable : Readable vs most) where
  pub search-hit : (t : List Item) (ts : List (List Item)) (s : List ℕ) (i k : ℕ) → (follow vs t blank s).whole ≡ true → search vs (t ∷ ts) s i k ≡ read i (follow vs t blank s).values
  unfolding search
  search-hit t ts s i k h = rw h

  pub search-miss : (t : List Item) (ts : List (List Item)) (s : List ℕ) (i k : ℕ) → (follow vs t blank s).whole ≡ false → search vs (t ∷ ts) s i k ≡ search vs ts s (suc i) (max k (follow vs t blank s).reach)
  unfolding search
  search-miss t ts s i k h = rw h

  -- how far one of the templates goes may be known before
  pub search-from : (ts : List (List Item)) (s : List ℕ) (i k l p : ℕ) → p < length ts → max k (follow vs (get_or ts p []) blank s).reach ≡ max l (follow vs (get_or ts p []) blank s).reach → search vs ts s i k ≡ search vs ts s i l
  search-from [] s i k l p h e = absurd (omega arith)
  search-from (t ∷ ts) s i k l p h e = go (follow vs t blank s).whole refl p h e (search-from ts s (suc i) (max k (follow vs t blank s).reach) (max l (follow vs t blank s).reach))
    where
      go : (b : Bool) → (follow vs t blank s).whole ≡ b → (q : ℕ) → q < length (t ∷ ts) → max k (follow vs (get_or (t ∷ ts) q []) blank s).reach ≡ max l (follow vs (get_or (t ∷ ts) q []) blank s).reach
          → ((q : ℕ) → q < length ts → max (max k (follow vs t blank s).reach) (follow vs (get_or ts q []) blank s).reach ≡ max (max l (follow vs t blank s).reach) (follow vs (get_or ts q []) blank s).reach
          → search vs ts s (suc i) (max k (follow vs t blank s).reach) ≡ search vs ts s (suc i) (max l (follow vs t blank s).reach))
          → search vs (t ∷ ts) s i k ≡ search vs (t ∷ ts) s i l
      go true w q m z later = search-hit t ts s i k w ∙ sym (search-hit t ts s i l w)
      go false w zero m z later = search-miss t ts s i k w ∙ ap (search vs ts s (suc i)) z ∙ sym (search-miss t ts s i l w)
      go false w (suc q) m z later =
          search-miss t ts s i k w ∙ later q (omega arith) (max-past k l (follow vs t blank s).reach (follow vs (get_or ts q []) blank s).reach z) ∙ sym (search-miss t ts s i l w)

  -- ---- the template at a place has the text

  pub record Found (ts : List (List Item)) (s : List ℕ) (i j : ℕ) (r : ℕ → ℕ) : Type 0 where
    pub place : ℕ
    pub here : j ≡ i + place
    pub within : place < length ts
    pub made : Made vs most readable (get_or ts place []) r s

  pub found-is : (ts : List (List Item)) (s : List ℕ) (i k j : ℕ) (r : ℕ → ℕ) → search vs ts s i k ≡ read j r → Found ts s i j r
  unfolding search
  found-is [] s i k j r h = absurd (not-both j r k (sym h))
  found-is (t ∷ ts) s i k j r h = go (follow vs t blank s).whole refl (found-is ts s (suc i) (max k (follow vs t blank s).reach) j r)
    where
      go : (b : Bool) → (follow vs t blank s).whole ≡ b → (search vs ts s (suc i) (max k (follow vs t blank s).reach) ≡ read j r → Found ts s (suc i) j r) → Found (t ∷ ts) s i j r
      go true e later =
          let q = same_read i j (follow vs t blank s).values r (sym (search-hit t ts s i k e) ∙ h) in
          record {
            place = 0;
            here = omega arith;
            within = omega arith;
            made = subst (λ (z : ℕ → ℕ). Made vs most readable t z s) q.1 (sound vs most readable t blank s (blank-partly most) e);
          }
      go false e later =
          let o = later (sym (search-miss t ts s i k e) ∙ h) in
          record { place = suc o.place; here = omega (arith, o.here); within = omega (arith, o.within); made = o.made }

  -- ---- no template has the text

  pub record Unread (ts : List (List Item)) (s : List ℕ) (k n : ℕ) : Type 0 where
    pub above : k ≤ n
    pub least : (p : ℕ) → p < length ts → (follow vs (get_or ts p []) blank s).reach ≤ n
    pub broken : (p : ℕ) → p < length ts → (follow vs (get_or ts p []) blank s).whole ≡ false
    pub met : (n ≡ k) ⊎ ((p : ℕ) × (p < length ts) × ((follow vs (get_or ts p []) blank s).reach ≡ n))

  pub unread-is : (ts : List (List Item)) (s : List ℕ) (i k n : ℕ) → search vs ts s i k ≡ unread n → Unread ts s k n
  unfolding search
  unread-is [] s i k n h =
      let q = same-unread k n h in
      record { above = omega arith; least = λ p l. absurd (omega arith); broken = λ p l. absurd (omega arith); met = inl (sym q) }
  unread-is (t ∷ ts) s i k n h = go (follow vs t blank s).whole refl (unread-is ts s (suc i) (max k (follow vs t blank s).reach) n)
    where
      go : (b : Bool) → (follow vs t blank s).whole ≡ b → (search vs ts s (suc i) (max k (follow vs t blank s).reach) ≡ unread n → Unread ts s (max k (follow vs t blank s).reach) n) → Unread (t ∷ ts) s k n
      go true e later = absurd (not-both i _ n (sym (search-hit t ts s i k e) ∙ h))
      go false e later =
          let a : ℕ = (follow vs t blank s).reach in
          let o = later (sym (search-miss t ts s i k e) ∙ h) in
          let up : max k a ≤ n = o.above in
          record {
            above = omega arith;
            least = elim [ zero ↦ λ l. omega arith | suc p ↦ λ l. o.least p (omega arith) ];
            broken = elim [ zero ↦ λ l. e | suc p ↦ λ l. o.broken p (omega arith) ];
            met =
                ⊎_elim
                (λ q. ⊎_elim (λ z. inl (q ∙ z)) (λ z. inr (0, omega arith, sym (q ∙ z))) (max-is k a))
                (λ q. inr (suc q.0, omega (arith, q.1), q.2))
                o.met;
          }

  -- ---- a line of one of the templates is read by that one

  pub record Finds (ts : List (List Item)) (s : List ℕ) (i k p : ℕ) (e : ℕ → ℕ) : Type 0 where
    pub values : ℕ → ℕ
    pub is : search vs ts s i k ≡ read (i + p) values
    pub agrees : Agrees values e
    pub made : Made vs most readable (get_or ts p []) values s

  pub finds : (ts : List (List Item)) (s : List ℕ) (i k p : ℕ) (e : ℕ → ℕ) → clear_all vs ts ≡ true → apart_all vs ts ≡ true → p < length ts → Good most e → fill vs (get_or ts p []) e ≡ s → Finds ts s i k p e
  finds [] s i k p e c a l g h = absurd (omega arith)
  finds (t ∷ ts) s i k zero e c a l g h =
      let o = complete vs most readable t blank e s (and-true (clear vs t) (clear_all vs ts) c).0 g (blank-agrees e) h in
      record {
        values = (follow vs t blank s).values;
        is = search-hit t ts s i k o.whole ∙ ap (λ (z : ℕ). read z (follow vs t blank s).values) (omega arith);
        agrees = o.values;
        made = sound vs most readable t blank s (blank-partly most) o.whole;
      }
  finds (t ∷ ts) s i k (suc p) e c a l g h = go (follow vs t blank s).whole refl (finds ts s (suc i) (max k (follow vs t blank s).reach) p e (and-true (clear vs t) (clear_all vs ts) c).1 (and-true (apart_from vs t ts) (apart_all vs ts) a).1 (omega arith) g h)
    where
      go : (b : Bool) → (follow vs t blank s).whole ≡ b → Finds ts s (suc i) (max k (follow vs t blank s).reach) p e → Finds (t ∷ ts) s i k (suc p) e
      go true q o =
          let m = sound vs most readable t blank s (blank-partly most) q in
          absurd (no-common vs readable.sound t (get_or ts p []) (follow vs t blank s).values e
          (apart-at vs t ts p (and-true (apart_from vs t ts) (apart_all vs ts) a).0 (omega arith))
          (and-true (clear vs t) (clear_all vs ts) c).0
          (clear_at vs ts p (and-true (clear vs t) (clear_all vs ts) c).1 (omega arith))
          m.filled (filled-good vs most readable (get_or ts p []) e g) (m.text ∙ sym h))
      go false q o =
          record {
            values = o.values;
            is = search-miss t ts s i k q ∙ o.is ∙ ap (λ (z : ℕ). read z o.values) (omega arith);
            agrees = o.agrees;
            made = o.made;
          }
