-- From lanes to the definition by element, for every size and form. The lanes past the form's are zero, so they have zero bytes and clamp nowhere.
-- Assumes nothing.
use mathlib.Core.Path.{◌≡◌, refl, sym, ap, ap₂, subst, ◌∙◌}
use mathlib.Core.Bool.{Bool, true, false, cond, ◌||◌, false≢true}
use mathlib.Core.List.{List}
use Prim.Native.Nat.{ℕ, zero, suc, ◌+◌, ◌-◌, ◌*◌, ◌/◌, ◌%◌, ◌^◌, ◌≤◌, ◌<◌}
use native.Mathlib.Nat.{add-zero, add-suc}
use native.Mathlib.Omega.{arith}
use native.Mathlib.Decide.{ℕ_discrete}
use borrow.Author.Tests.{lt-ltb, le-ltb}
use lib.Dec.{ltb}
use lib.ListN.{set, length, replicate}
use lib.Seq.{get_or-set_same, get_or-set_other}
use lib.IntN.{ℤ, pos, neg_ℤ, ◌*ℤ◌}
use lib.Signed.{lt_z, mag}
use mir.Syntax.{Width}
use mir.Val.{hbits, to_z, of_z}
use native.Mathlib.Numerals.{add-one}
use Rattle.integer.proofs.Word.{kept}
use Rattle.integer.specs.Number.{signed_by, byte_of, rounded, clamp_to, clamp, clamps, end_to}
use Rattle.integer.proofs.Wrap.{byte-zero}
use Rattle.integer.specs.Lane.{Toward}
use Rattle.isa.specs.Register.{Bytes, Size, bytes, bits, pairs, element}
use Rattle.isa.specs.Meaning.{Form, lane_count, lane_value, lane_end, lane_bytes, lane_clamps, any_below}
use Rattle.isa.specs.Segment.{bytes_of, Elements, ElementsBy}
use Rattle.isa.specs.Stage.{lane, LanesOf, Summed, Towards, Clamped, BytesOfLanes}
use Rattle.isa.proofs.Local.{lane-small, count_small, any-local}
use Rattle.isa.proofs.Made.{all_same}

-- ---- zero lies inside every range

zero-low : (P : ℕ) → lt_z (pos 0) (neg_ℤ (pos P)) ≡ false
zero-low zero = refl
zero-low (suc P) = refl

zero_high : (P : ℕ) → lt_z (pos P) (pos 0) ≡ false
zero_high P = le-ltb P 0 (omega arith)

clamp-zero : (N : ℕ) → clamp N (pos 0) ≡ pos 0
unfolding clamp_to
clamp-zero N = rw (zero-low (2 ^ (N - 1)), zero_high (2 ^ (N - 1) - 1))

clamps-zero : (N : ℕ) → clamps N (pos 0) ≡ false
unfolding end_to
clamps-zero N = rw (zero-low (2 ^ (N - 1)), zero_high (2 ^ (N - 1) - 1))

-- ---- a test that fails from `count` on

past : (count k : ℕ) (test : ℕ → Bool) → ((e : ℕ) → e < count + k → count ≤ e → test e ≡ false) → any_below (count + k) test ≡ any_below count test
unfolding any_below
past count zero test h = ap (λ (i : ℕ). any_below i test) (add-zero count)
past count (suc k) test h =
    ap (λ (i : ℕ). any_below i test) (add-suc count k)
    ∙ ap₂ ◌||◌ (h (count + k) (omega arith) (omega arith)) (past count k test (λ e l m. h e (omega arith) m))

-- ---- the stages of a kernel

-- `count` lanes are the form's; x and y the lanes of c and n, b the element at the index of m, s the sums, t the clamped ones and r their bytes
elements-at : (f : Form) (z : Size) (index : ℕ) (minus : Bool) {c n r : List ℕ} (m : Bytes) {x y s t : List ℤ} {b : ℤ} {count : ℕ} {any : Bool} →
    count ≡ lane_count f z → LanesOf z x (bytes_of c) → LanesOf z y (bytes_of n) → b ≡ element z m index →
    Summed z count minus s x y b → Clamped z t s → BytesOfLanes z r t → any ≡ any_below (2 * pairs z) (λ e. clamps (bits z) (lane s e)) →
    Elements f z index minus r any c n m
unfolding lane_bytes lane_clamps lane_end lane_value
elements-at f z index minus {c} {n} {r} m {x} {y} {s} {t} {b} {count} {any} ec hx hy eb hs ht hr ha =
    record { sized = hr.sized; at = bytes-are; flag = ha ∙ shorter ∙ any-local (lane_count f z) _ _ (λ e h. ap (clamps (bits z)) (inside e h)) }
  where
    value : ℕ → ℤ
    value e = rounded (bits z) (element z (bytes_of c) e) (signed_by minus (element z (bytes_of n) e *ℤ element z m index))

    sum : (e : ℕ) → e < 2 * pairs z → lane s e ≡ cond (ltb e (lane_count f z)) (value e) (pos 0)
    sum e h =
        hs.at e h
        ∙ ap₂ (λ k v. cond (ltb e k) v (pos 0)) ec
        (ap₂ (rounded (bits z)) (hx.at e h) (ap (signed_by minus) (ap₂ ◌*ℤ◌ (hy.at e h) eb)))

    inside : (e : ℕ) → e < lane_count f z → lane s e ≡ value e
    inside e h = sum e (omega (arith, count_small f z)) ∙ rw (lt-ltb e (lane_count f z) h)

    beyond : (e : ℕ) → e < 2 * pairs z → lane_count f z ≤ e → lane s e ≡ pos 0
    beyond e h l = sum e h ∙ rw (le-ltb e (lane_count f z) l)

    shorter : any_below (2 * pairs z) (λ e. clamps (bits z) (lane s e)) ≡ any_below (lane_count f z) (λ e. clamps (bits z) (lane s e))
    shorter =
        let k = 2 * pairs z - lane_count f z in
        let all : lane_count f z + k ≡ 2 * pairs z = omega (arith, count_small f z) in
        ap (λ (i : ℕ). any_below i (λ e. clamps (bits z) (lane s e))) (sym all)
        ∙ past (lane_count f z) k (λ e. clamps (bits z) (lane s e)) (λ e h l. ap (clamps (bits z)) (beyond e (omega arith) l) ∙ clamps-zero (bits z))

    by-lane : (e j : ℕ) → e < 2 * pairs z → (k : Bool) → ltb e (lane_count f z) ≡ k → byte_of (bits z) (clamp (bits z) (lane s e)) j ≡ cond k (byte_of (bits z) (clamp (bits z) (value e)) j) 0
    by-lane e j h true p = ap (λ (v : ℤ). byte_of (bits z) (clamp (bits z) v) j) (sum e h ∙ rw p)
    by-lane e j h false p =
        ap (λ (v : ℤ). byte_of (bits z) (clamp (bits z) v) j) (sum e h ∙ rw p) ∙ ap (λ (v : ℤ). byte_of (bits z) v j) (clamp-zero (bits z)) ∙ byte-zero (bits z) j

    bytes-are : (i : ℕ) → i < 16 → bytes_of r i ≡ lane_bytes f z index minus (bytes_of c) (bytes_of n) m i
    bytes-are i l =
        let e = i / bytes z in
        let h = lane-small z i l in
        hr.at i l ∙ ap (λ (v : ℤ). byte_of (bits z) v (i % bytes z)) (ht.at e h) ∙ by-lane e (i % bytes z) h (ltb e (lane_count f z)) refl
        ∙ rw (lt-ltb i 16 l)

-- k is what the sums' b reads
pub elements : (f : Form) (z : Size) (minus : Bool) {c n r : List ℕ} {x y s t : List ℤ} {b k : ℤ} {count : ℕ} {any : Bool} →
    count ≡ lane_count f z → LanesOf z x (bytes_of c) → LanesOf z y (bytes_of n) → b ≡ k →
    Summed z count minus s x y b → Clamped z t s → BytesOfLanes z r t → any ≡ any_below (2 * pairs z) (λ e. clamps (bits z) (lane s e)) →
    ElementsBy f z k minus r any c n
elements f z minus ec hx hy eb hs ht hr ha = record { made = λ m index e. elements-at f z index minus m ec hx hy (eb ∙ sym e) hs ht hr ha }

-- ---- the loops

-- lane e of the sums, by the element b
pub sum-lane : (w k : Width) (N : ℕ) (minus : Bool) {s : ℤ} (x y : ℤ) (b : ℕ) → mag s < 2 ^ hbits k → mag x < 2 ^ hbits w → mag y < 2 ^ hbits w →
    s ≡ rounded N (to_z w (of_z w x)) (signed_by minus (to_z w (of_z w y) *ℤ to_z w b)) → to_z k (of_z k s) ≡ rounded N x (signed_by minus (y *ℤ to_z w b))
sum-lane w k N minus {s} x y b hs hx hy p =
    kept k s hs ∙ p ∙ ap₂ (λ a d. rounded N a (signed_by minus (d *ℤ to_z w b))) (kept w x hx) (kept w y hy)

-- ---- which end a sum is past

zero-toward : (N : ℕ) (t : ℤ) → Toward N (pos 0) t
zero-toward N t = record {
  above = λ e. absurd (false≢true (sym (zero_high (2 ^ (N - 1) - 1)) ∙ e));
  below = λ e. absurd (false≢true (sym (zero-low (2 ^ (N - 1))) ∙ e));
}

pub towards_none : (z : Size) (size : ℕ) (x : List ℤ) → Towards z (replicate size (pos 0)) x
towards_none z size x = record { at = λ e h. rw (all_same (pos 0) size e) (zero-toward (bits z) (lane x e)) }

-- one sum more
pub towards-more : {z : Size} {s x : List ℤ} → Towards z s x → (e : ℕ) → e < length s → (v : ℤ) → Toward (bits z) v (lane x e) → Towards z (set s e v) x
towards-more {z} {s} {x} t e h v new = record { at = λ k l. by_place k l (ℕ_discrete k e) }
  where
    by_place : (k : ℕ) → k < 2 * pairs z → Dec (k ≡ e) → Toward (bits z) (lane (set s e v) k) (lane x k)
    by_place k l (yes p) = rw (p, get_or-set_same s e v (pos 0) h) new
    by_place k l (no p) = rw (get_or-set_other s e k v (pos 0) p) (t.at k l)

-- what the code reads of a sum and of its lane
pub stored-toward : (w k : Width) (N : ℕ) {s x : ℤ} → mag s < 2 ^ hbits k → mag x < 2 ^ hbits w → Toward N s (to_z w (of_z w x)) → Toward N (to_z k (of_z k s)) x
stored-toward w k N {s} {x} hs hx t = rw (kept k s hs) (subst (Toward N s) (kept w x hx) t)

-- ---- the flag

-- a loop that tells whether some lane of `size` passes a test
pub record Told (size e : ℕ) (test : ℕ → Bool) (any : Bool) : Type 0 where
  pub within : e ≤ size
  pub told : any ≡ any_below e test

any-more : (test : ℕ → Bool) (e : ℕ) → any_below (e + 1) test ≡ test e || any_below e test
unfolding any_below
any-more test e = ap (λ (i : ℕ). any_below i test) (add-one e)

module _ {size : ℕ} {test : ℕ → Bool} where
  pub told_none : Told size 0 test false
  unfolding any_below
  told_none = record { within = omega arith; told = refl }

  pub told-hit : {e : ℕ} {any found new : Bool} → Told size e test any → e < size → found ≡ test e → found ≡ true → new ≡ true → Told size (e + 1) test new
  told-hit {e} {any} t h p q r =
      record { within = omega arith; told = r ∙ sym (any-more test e ∙ ap (λ (b : Bool). b || any_below e test) (sym p ∙ q)) }

  pub told-miss : {e : ℕ} {any found new : Bool} → Told size e test any → e < size → found ≡ test e → found ≡ false → new ≡ any → Told size (e + 1) test new
  told-miss {e} {any} t h p q r =
      record { within = omega arith; told = r ∙ t.told ∙ sym (any-more test e ∙ ap (λ (b : Bool). b || any_below e test) (sym p ∙ q)) }

  pub told-all : {e : ℕ} {any : Bool} → Told size e test any → size ≤ e → any ≡ any_below size test
  told-all t h = t.told ∙ ap (λ (i : ℕ). any_below i test) (omega (arith, t.within))
