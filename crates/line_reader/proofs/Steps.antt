-- The code's steps are those of the definition of reading. Assumes nothing.
use Prim.Native.Nat.{ℕ, zero, suc, ◌+◌, ◌-◌, ◌≤◌, ◌<◌}
use mathlib.Core.Path.{◌≡◌, refl, sym, ap, ◌∙◌, subst, fun_ext}
use mathlib.Core.Bool.{Bool, true, false}
use mathlib.Core.List.{List, [], ◌∷◌, map}
use mathlib.Core.Logic.{◌⊎◌, inl}
use native.Mathlib.Omega.{arith}
use native.Mathlib.Decide.{ℕ_discrete}
use borrow.Author.Tests.{eq-eqb, ne_eqb, eqb-true, eqb-false}
use lib.Dec.{eqb}
use Rattle.std.specs.Prelude.{Ok, Err}
use lib.ListN.{length, get_or, set, drop, replicate, length-set, length-drop, drop_of_length-le}
use lib.Seq.{drop-cons, drop-drop, get_or-set_same, get_or-set_other}
use Rattle.grammar.specs.Template.{Item, byte, var, text_of, bind}
use Rattle.grammar.specs.Follow.{Followed, unset, common_prefix, further, stuck, value_of, follow}
use Rattle.grammar.specs.Search.{blank}
use Rattle.grammar.specs.Grammar.{alphabet, unused, letter_count, slot_of, variables, item_of}
use Rattle.grammar.specs.Packed.{text_bytes}
use Rattle.line_reader.specs.Steps.{values_in, Held, Took, Steps, Follows}
use Rattle.grammar.proofs.Prefix.{common-le-right}
use Rattle.grammar.proofs.Guess.{differ}
use Rattle.grammar.proofs.Follow.{follow-on, follow-off, follow-byte, follow-other, value-fits, partly-bind}
use Rattle.grammar.proofs.Alphabet.{most, readable}

-- ---- a byte

follow-nothing : (b : ℕ) (t : List Item) (r : ℕ → ℕ) → follow variables (byte b ∷ t) r [] ≡ stuck 0 r
unfolding follow
follow-nothing b t r = refl

module _ (c : ℕ) (vs s : List ℕ) (at : ℕ) (low : at ≤ length s) (held : Held vs) where
  stays : (n : ℕ) → n ≡ at - at → ((t : List Item) → follow variables (byte c ∷ t) (values_in vs) (drop at s) ≡ stuck 0 (values_in vs)) → Steps (byte c) vs s at (record { on = false; at = at; values = vs })
  stays n e h =
      let z : 0 ≡ at - at = omega arith in
      record {
        forward = omega arith;
        inside = low;
        held = held;
        on = λ f. absurd (differ (sym f));
        off = λ f t. h t ∙ ap (λ (k : ℕ). stuck k (values_in vs)) z;
      }

  pub literal-past : length s ≤ at → Steps (byte c) vs s at (record { on = false; at = at; values = vs })
  literal-past h = stays (at - at) refl (λ t. ap (follow variables (byte c ∷ t) (values_in vs)) (drop_of_length-le s h) ∙ follow-nothing c t (values_in vs))

  pub literal-off : at < length s → (get_or s at 0 ≡ c → ⊥) → Steps (byte c) vs s at (record { on = false; at = at; values = vs })
  literal-off h n = stays (at - at) refl (λ t. ap (follow variables (byte c ∷ t) (values_in vs)) (drop-cons s at 0 h) ∙ follow-other variables most readable c t (values_in vs) (get_or s at 0) (drop (suc at) s) n)

  pub literal-on : at < length s → get_or s at 0 ≡ c → Steps (byte c) vs s at (record { on = true; at = at + 1; values = vs })
  literal-on h e =
      let one : 1 ≡ at + 1 - at = omega arith in
      let next : suc at ≡ at + 1 = omega arith in
      record {
        forward = omega arith;
        inside = omega arith;
        held = held;
        on = λ f t.
            ap (follow variables (byte c ∷ t) (values_in vs)) (drop-cons s at 0 h)
            ∙ follow-byte variables most readable c t (values_in vs) (get_or s at 0) (drop (suc at) s) e
            ∙ ap (λ (k : ℕ). further 1 (follow variables t (values_in vs) (drop k s))) next
            ∙ ap (λ (k : ℕ). further k (follow variables t (values_in vs) (drop (at + 1) s))) one;
        off = λ f. absurd (differ f);
      }

-- ---- a letter

set_values : (vs : List ℕ) (x v : ℕ) → x < length vs → values_in (set vs x v) ≡ bind x v (values_in vs)
set_values vs x v h =
    fun_ext (λ y.
    elim (ℕ_discrete y x) [
      | yes e ↦ ap (values_in (set vs x v)) e ∙ get_or-set_same vs x v unset h ∙ sym (rw (eq-eqb y x e))
      | no n ↦ get_or-set_other vs x y v unset n ∙ sym (rw (ne_eqb y x n))
    ])

pub value_low : (x : ℕ) (vs s : List ℕ) (at v : ℕ) → Held vs → v ≡ value_of (get_or alphabet x unused) (values_in vs (slot_of x)) (drop at s) → v < most (slot_of x)
unfolding variables
value_low x vs s at v held e = rw e (value-fits variables most readable x (values_in vs) (drop at s) held.each)

module _ (x : ℕ) (vs s : List ℕ) (at v packed n size : ℕ) (low : at ≤ length s) (small : slot_of x < letter_count) (held : Held vs)
    (value : v ≡ value_of (get_or alphabet x unused) (values_in vs (slot_of x)) (drop at s))
    (text : text_bytes packed ≡ text_of (get_or alphabet x unused) v) (far : n ≡ common_prefix (text_bytes packed) (drop at s)) (sized : size ≡ length (text_bytes packed)) where
  abbrev said : List ℕ
  said = text_of (get_or alphabet x unused) (value_of (get_or alphabet x unused) (values_in vs (slot_of x)) (drop at s))

  word-said : text_bytes packed ≡ said
  word-said = text ∙ ap (text_of (get_or alphabet x unused)) value

  far-said : n ≡ common_prefix said (drop at s)
  far-said = far ∙ ap (λ (w : List ℕ). common_prefix w (drop at s)) word-said

  size-said : size ≡ length said
  size-said = sized ∙ ap length word-said

  after : values_in (set vs (slot_of x) v) ≡ bind (slot_of x) (value_of (get_or alphabet x unused) (values_in vs (slot_of x)) (drop at s)) (values_in vs)
  after = set_values vs (slot_of x) v (omega (arith, held.sized)) ∙ ap (λ (z : ℕ). bind (slot_of x) z (values_in vs)) value

  held_after : Held (set vs (slot_of x) v)
  held_after =
      record {
        sized = length-set vs (slot_of x) v ∙ held.sized;
        each = λ y. subst (λ (r : ℕ → ℕ). (r y ≡ unset) ⊎ (r y < most y)) (sym (set_values vs (slot_of x) v (omega (arith, held.sized)))) (partly-bind most (slot_of x) v (values_in vs) held.each (value_low x vs s at v held value) y);
      }

  pub n_inside : at + n ≤ length s
  n_inside = omega (arith, far, common-le-right (text_bytes packed) (drop at s), length-drop at s)

  variable-steps : Steps (var x) vs s at (record { on = eqb n size; at = at + n; values = set vs (slot_of x) v })
  unfolding variables
  variable-steps =
      let step : n ≡ at + n - at = omega arith in
      record {
        forward = omega arith;
        inside = n_inside;
        held = held_after;
        on = λ f t.
            let all : n ≡ length said = eqb-true n size f ∙ size-said in
            follow-on variables most readable x t (values_in vs) (drop at s) (sym far-said ∙ all)
            ∙ ap (λ (k : ℕ). further k (follow variables t (bind (slot_of x) (value_of (get_or alphabet x unused) (values_in vs (slot_of x)) (drop at s)) (values_in vs)) (drop k (drop at s)))) (sym all)
            ∙ ap (λ (r : ℕ → ℕ). further n (follow variables t r (drop n (drop at s)))) (sym after)
            ∙ ap (λ (u : List ℕ). further n (follow variables t (values_in (set vs (slot_of x) v)) u)) (drop-drop n at s)
            ∙ ap (λ (k : ℕ). further k (follow variables t (values_in (set vs (slot_of x) v)) (drop (at + n) s))) step;
        off = λ f t.
            follow-off variables most readable x t (values_in vs) (drop at s) (λ e. eqb-false n size f (far-said ∙ e ∙ sym size-said))
            ∙ ap (λ (k : ℕ). stuck k (bind (slot_of x) (value_of (get_or alphabet x unused) (values_in vs (slot_of x)) (drop at s)) (values_in vs))) (sym far-said)
            ∙ ap (λ (r : ℕ → ℕ). stuck n r) (sym after)
            ∙ ap (λ (k : ℕ). stuck k (values_in (set vs (slot_of x) v))) step;
      }

  pub variable-on : n ≡ size → Steps (var x) vs s at (record { on = true; at = at + n; values = set vs (slot_of x) v })
  variable-on e = subst (λ (b : Bool). Steps (var x) vs s at (record { on = b; at = at + n; values = set vs (slot_of x) v })) (eq-eqb n size e) variable-steps

  pub variable-off : (n ≡ size → ⊥) → Steps (var x) vs s at (record { on = false; at = at + n; values = set vs (slot_of x) v })
  variable-off e = subst (λ (b : Bool). Steps (var x) vs s at (record { on = b; at = at + n; values = set vs (slot_of x) v })) (ne_eqb n size e) variable-steps

-- what is read of an array does not depend on what stands for nothing
pub get_d_any : (l : List ℕ) (i d e : ℕ) → i < length l → get_or l i d ≡ get_or l i e
get_d_any [] i d e h = absurd (omega arith)
get_d_any (a ∷ l) zero d e h = refl
get_d_any (a ∷ l) (suc i) d e h = get_d_any l i d e (omega arith)

-- the value that was read, by the slot that the code took it from
pub value_read : (x y : ℕ) (vs s : List ℕ) (at v : ℕ) → y ≡ slot_of x → y < letter_count → Held vs → v ≡ value_of (get_or alphabet x unused) (get_or vs y 0) (drop at s) → v ≡ value_of (get_or alphabet x unused) (values_in vs (slot_of x)) (drop at s)
value_read x y vs s at v is h held e =
    e ∙ ap (λ (z : ℕ). value_of (get_or alphabet x unused) z (drop at s)) (get_d_any vs y 0 unset (omega (arith, held.sized)) ∙ ap (values_in vs) is)

pub same-steps : {x y : Item} {vs s : List ℕ} {at : ℕ} {r : Took} → x ≡ y → Steps x vs s at r → Steps y vs s at r
same-steps {x} {y} {vs} {s} {at} {r} e p = subst (λ (z : Item). Steps z vs s at r) e p

-- ---- a template

pub record Following (t s vs : List ℕ) (at k : ℕ) : Type 0 where
  pub within : k ≤ length t
  pub inside : at ≤ length s
  pub held : Held vs
  pub later : follow variables (map item_of t) blank s ≡ further at (follow variables (map item_of (drop k t)) (values_in vs) (drop at s))

further-none : (a : Followed) → a ≡ further 0 a
further-none a =
    let z : a.reach ≡ 0 + a.reach = omega arith in
    λ i. record { whole = a.whole; reach = z i; values = a.values }

further-twice : (m n : ℕ) (a : Followed) → further m (further n a) ≡ further (m + n) a
further-twice m n a =
    let z : m + (n + a.reach) ≡ m + n + a.reach = omega arith in
    λ i. record { whole = a.whole; reach = z i; values = a.values }

none-set : (n y : ℕ) → values_in (replicate n unset) y ≡ unset
none-set zero y = refl
none-set (suc n) zero = refl
none-set (suc n) (suc y) = none-set n y

pub blank-held : Held (replicate letter_count unset)
blank-held = record { sized = refl; each = λ y. inl (none-set letter_count y) }

pub blank-values : (y : ℕ) → values_in (replicate letter_count unset) y ≡ unset
blank-values y = none-set letter_count y

pub following-starts : (t s vs : List ℕ) → Held vs → ((y : ℕ) → values_in vs y ≡ unset) → Following t s vs 0 0
following-starts t s vs held none =
    record {
      within = omega arith;
      inside = omega arith;
      held = held;
      later = ap (λ (r : ℕ → ℕ). follow variables (map item_of t) r s) (fun_ext (λ y. sym (none y))) ∙ further-none (follow variables (map item_of t) (values_in vs) s);
    }

module _ {t s vs : List ℕ} {at k : ℕ} {r : Took} (f : Following t s vs at k) (h : k < length t) (p : Steps (item_of (get_or t k 0)) vs s at r) where
  item-here : follow variables (map item_of t) blank s ≡ further at (follow variables (item_of (get_or t k 0) ∷ map item_of (drop (suc k) t)) (values_in vs) (drop at s))
  item-here = f.later ∙ ap (λ (u : List ℕ). further at (follow variables (map item_of u) (values_in vs) (drop at s))) (drop-cons t k 0 h)

  pub following-on : r.on ≡ true → Following t s r.values r.at (k + 1)
  following-on e =
      let past : at + (r.at - at) ≡ r.at = omega (arith, p.forward) in
      let next : suc k ≡ k + 1 = omega arith in
      record {
        within = omega arith;
        inside = p.inside;
        held = p.held;
        later =
            item-here
            ∙ ap (further at) (p.on e (map item_of (drop (suc k) t)))
            ∙ further-twice at (r.at - at) _
            ∙ ap (λ (n : ℕ). further n (follow variables (map item_of (drop (suc k) t)) (values_in r.values) (drop r.at s))) past
            ∙ ap (λ (n : ℕ). further r.at (follow variables (map item_of (drop n t)) (values_in r.values) (drop r.at s))) next;
      }

  pub following-off : r.on ≡ false → stuck r.at (values_in r.values) ≡ follow variables (map item_of t) blank s
  following-off e =
      let past : at + (r.at - at) ≡ r.at = omega (arith, p.forward) in
      sym (item-here ∙ ap (further at) (p.off e (map item_of (drop (suc k) t))) ∙ ap (λ (n : ℕ). stuck n (values_in r.values)) past)

end_whole : (r : ℕ → ℕ) → follow variables [] r [] ≡ record { whole = true; reach = 0; values = r }
unfolding follow
end_whole r = refl

end_more : (r : ℕ → ℕ) (a : ℕ) (s : List ℕ) → follow variables [] r (a ∷ s) ≡ stuck 0 r
unfolding follow
end_more r a s = refl

module _ (t s vs : List ℕ) (at k : ℕ) (f : Following t s vs at k) (h : length t ≤ k) where
  ended : follow variables (map item_of t) blank s ≡ further at (follow variables [] (values_in vs) (drop at s))
  ended = f.later ∙ ap (λ (u : List ℕ). further at (follow variables (map item_of u) (values_in vs) (drop at s))) (drop_of_length-le t h)

  none_more : at ≡ at + 0
  none_more = omega arith

  pub following-whole : at ≡ length s → record { whole = true; reach = at; values = values_in vs } ≡ follow variables (map item_of t) blank s
  following-whole e =
      let past : length s ≤ at = omega arith in
      (λ i. record { whole = true; reach = none_more i; values = values_in vs })
      ∙ ap (further at) (sym (end_whole (values_in vs))) ∙ ap (λ (u : List ℕ). further at (follow variables [] (values_in vs) u)) (sym (drop_of_length-le s past)) ∙ sym ended

  pub following-more : (at ≡ length s → ⊥) → stuck at (values_in vs) ≡ follow variables (map item_of t) blank s
  following-more n =
      let z : drop at s ≡ get_or s at 0 ∷ drop (suc at) s = drop-cons s at 0 (omega (arith, f.inside)) in
      (λ i. record { whole = false; reach = none_more i; values = values_in vs })
      ∙ ap (further at) (sym (end_more (values_in vs) (get_or s at 0) (drop (suc at) s))) ∙ ap (λ (u : List ℕ). further at (follow variables [] (values_in vs) u)) (sym z) ∙ sym ended

-- ---- the answer

pub follows-whole : (vs : List ℕ) (at : ℕ) (f : Followed) → record { whole = true; reach = at; values = values_in vs } ≡ f → Follows (Ok vs) f
follows-whole vs at f e = (sym (ap (λ (a : Followed). a.whole) e), ap (λ (a : Followed). a.values) e)

pub follows-stuck : (vs : List ℕ) (at : ℕ) (f : Followed) → stuck at (values_in vs) ≡ f → Follows (Err (record { reach = at })) f
follows-stuck vs at f e = (sym (ap (λ (a : Followed). a.whole) e), ap (λ (a : Followed). a.reach) e)
