-- From lanes to the definition by pairs, for every size and for every family of products.
-- Assumes nothing.
use mathlib.Core.Path.{◌≡◌, refl, sym, ap, ap₂, ◌∙◌}
use mathlib.Core.Bool.{Bool, true, false, cond, false≢true}
use mathlib.Core.List.{List}
use Prim.Native.Nat.{ℕ, zero, suc, ◌+◌, ◌-◌, ◌*◌, ◌/◌, ◌%◌, ◌<◌}
use native.Mathlib.Nat.{mod-eq_of_lt}
use native.Mathlib.Omega.{arith}
use lib.Dec.{eqb}
use lib.IntN.{ℤ, ◌+ℤ◌, ◌*ℤ◌}
use Rattle.integer.specs.Number.{signed_by, pattern, byte_of, digit}
use Rattle.isa.specs.Register.{Bytes, Size, B, H, S, D, bytes, bits, pairs, element, complex, Complex}
use Rattle.isa.specs.Meaning.{Rotation, R0, R90, R180, R270, pair_bytes, part, each, each₂, product, turned, own, indexed}
use Rattle.isa.proofs.Local.{lane-small}
use Rattle.isa.specs.Segment.{bytes_of, Segment}
use Rattle.isa.specs.Stage.{lane, crossed, minus_real, minus_imaginary, first_place, second_place, index_place, minus_at, LanesOf, Taken, Multiplied, Added, BytesOfLanes}

-- ---- lane k of the pair p of a product form, with the pair q of the second source

-- the sign and the two parts that the rotation takes for part k
parts : (r : Rotation) (n m : Complex) (k : ℕ) → k < 2 → part k (product r n m) ≡ signed_by (minus_at (minus_real r) (minus_imaginary r) k) (part (cond (crossed r) 1 0) n *ℤ part (cond (crossed r) (1 - k) k) m)
unfolding product part minus_at
parts R0 n m zero h = refl
parts R0 n m (suc zero) h = refl
parts R90 n m zero h = refl
parts R90 n m (suc zero) h = refl
parts R180 n m zero h = refl
parts R180 n m (suc zero) h = refl
parts R270 n m zero h = refl
parts R270 n m (suc zero) h = refl
parts r n m (suc (suc k)) h = absurd (omega arith)

part-each : (f : ℤ → ℤ → ℤ) (a b : Complex) (k : ℕ) → part k (each₂ f a b) ≡ f (part k a) (part k b)
unfolding part each₂
part-each f a b zero = refl
part-each f a b (suc k) = refl

part-element : (z : Size) (b : Bytes) (p k : ℕ) → k < 2 → part k (complex z b p) ≡ element z b (2 * p + k)
unfolding part complex
part-element z b p zero h = ap (element z b) (omega arith)
part-element z b p (suc zero) h = refl
part-element z b p (suc (suc k)) h = absurd (omega arith)

bit : (t : Bool) → cond t 1 0 < 2
bit true = omega arith
bit false = omega arith

other : (t : Bool) (k : ℕ) → k < 2 → cond t (1 - k) k < 2
other true k h = omega arith
other false k h = h

pub lane_of : (z : Size) (f : ℤ → ℤ → ℤ) (r : Rotation) (c n m : Bytes) (p q k : ℕ) → k < 2 →
    part k (each₂ f (complex z c p) (product r (complex z n p) (complex z m q)))
    ≡ f (element z c (2 * p + k)) (signed_by (minus_at (minus_real r) (minus_imaginary r) k) (element z n (2 * p + cond (crossed r) 1 0) *ℤ element z m (2 * q + cond (crossed r) (1 - k) k)))
lane_of z f r c n m p q k h =
    part-each f (complex z c p) (product r (complex z n p) (complex z m q)) k
    ∙ ap₂ f (part-element z c p k h)
    (parts r (complex z n p) (complex z m q) k h
    ∙ ap₂ (λ x y. signed_by (minus_at (minus_real r) (minus_imaginary r) k) (x *ℤ y)) (part-element z n p (cond (crossed r) 1 0) (bit (crossed r))) (part-element z m q (cond (crossed r) (1 - k) k) (other (crossed r) k h)))

-- ---- lane e of a segment

first-is : (t : Bool) (e : ℕ) → 2 * (e / 2) + cond t 1 0 ≡ first_place t e
unfolding first_place
first-is true e = omega arith
first-is false e = omega arith

second_is : (t : Bool) (e : ℕ) → 2 * (e / 2) + cond t (1 - e % 2) (e % 2) ≡ second_place t e
unfolding second_place
second_is true e = omega arith
second_is false e = omega arith

minus_is : (a b : Bool) (e : ℕ) → minus_at a b (e % 2) ≡ minus_at a b e
unfolding minus_at
minus_is a b e = ap (λ (k : ℕ). cond (eqb k 0) a b) (twice e)
  where
    twice : (e : ℕ) → e % 2 % 2 ≡ e % 2
    twice e = omega arith

pair_of : (z : Size) (i : ℕ) → i / (2 * bytes z) ≡ i / bytes z / 2
unfolding bytes
pair_of B i = omega arith
pair_of H i = omega arith
pair_of S i = omega arith
pair_of D i = omega arith

-- the lane of the second source, where pair p takes its pair `choose p`
abbrev pub second_lane : (ℕ → ℕ) → Bool → ℕ → ℕ
second_lane choose t e = 2 * choose (e / 2) + cond t (1 - e % 2) (e % 2)

-- the bytes of lanes `out`, where lane e has the bits of part e of its pair's result
module _ (z : Size) (choose : ℕ → ℕ) (result : Complex → Complex → Complex → Complex) (c n m : Bytes) (out : ℕ → ℤ) where
  pub segment : ((e : ℕ) → e < 2 * pairs z → pattern (bits z) (out e) ≡ pattern (bits z) (part (e % 2) (result (complex z c (e / 2)) (complex z n (e / 2)) (complex z m (choose (e / 2)))))) →
      (i : ℕ) → i < 16 → byte_of (bits z) (out (i / bytes z)) (i % bytes z) ≡ pair_bytes z choose result c n m i
  unfolding pair_bytes byte_of
  segment h i l =
      ap (λ (u : ℕ). digit u (i % bytes z))
      (h (i / bytes z) (lane-small z i l)
      ∙ sym (ap (λ (p : ℕ). pattern (bits z) (part (i / bytes z % 2) (result (complex z c p) (complex z n p) (complex z m (choose p))))) (pair_of z i)))

-- part e of the result of a product form, and of a sum, by lanes; a sum has the rotations 90 and 270 alone
product-lane : (z : Size) (choose : ℕ → ℕ) (f : ℤ → ℤ → ℤ) (r : Rotation) (c n m : Bytes) (e : ℕ) →
    part (e % 2) (each₂ f (complex z c (e / 2)) (product r (complex z n (e / 2)) (complex z m (choose (e / 2)))))
    ≡ f (element z c e) (signed_by (minus_at (minus_real r) (minus_imaginary r) e) (element z n (first_place (crossed r) e) *ℤ element z m (second_lane choose (crossed r) e)))
product-lane z choose f r c n m e =
    lane_of z f r c n m (e / 2) (choose (e / 2)) (e % 2) (omega arith)
    ∙ ap₂ f (ap (element z c) (omega arith)) (ap₂ signed_by (minus_is (minus_real r) (minus_imaginary r) e) (ap (λ x. element z n x *ℤ element z m (second_lane choose (crossed r) e)) (first-is (crossed r) e)))

turned-part : (r : Rotation) (a b : Complex) (k : ℕ) → crossed r ≡ true → k < 2 → part k (turned r a b) ≡ part k a +ℤ signed_by (minus_at (minus_real r) (minus_imaginary r) k) (part (1 - k) b)
unfolding turned part minus_at
turned-part R0 a b k x h = absurd (false≢true x)
turned-part R90 a b zero x h = refl
turned-part R90 a b (suc zero) x h = refl
turned-part R90 a b (suc (suc k)) x h = absurd (omega arith)
turned-part R180 a b k x h = absurd (false≢true x)
turned-part R270 a b zero x h = refl
turned-part R270 a b (suc zero) x h = refl
turned-part R270 a b (suc (suc k)) x h = absurd (omega arith)

turned-lane : (z : Size) (r : Rotation) (c m : Bytes) (e : ℕ) → crossed r ≡ true →
    part (e % 2) (turned r (complex z c (e / 2)) (complex z m (e / 2)))
    ≡ element z c e +ℤ signed_by (minus_at (minus_real r) (minus_imaginary r) e) (element z m (second_place true e))
turned-lane z r c m e x =
    turned-part r (complex z c (e / 2)) (complex z m (e / 2)) (e % 2) x (omega arith)
    ∙ ap₂ ◌+ℤ◌ (part-element z c (e / 2) (e % 2) (omega arith) ∙ ap (element z c) (omega arith))
    (ap₂ signed_by (minus_is (minus_real r) (minus_imaginary r) e)
    (part-element z m (e / 2) (1 - e % 2) (omega arith) ∙ ap (element z m) (second_is true e)))

-- ---- the stages of a kernel

first_below : (t : Bool) (e P : ℕ) → e < 2 * P → first_place t e < 2 * P
unfolding first_place
first_below true e P h = omega arith
first_below false e P h = omega arith

second_below : (t : Bool) (e P : ℕ) → e < 2 * P → second_place t e < 2 * P
unfolding second_place
second_below true e P h = omega arith
second_below false e P h = h

-- The second source's lanes t, as pair p takes them from its pair `choose p`.
pub record Second (z : Size) (choose : ℕ → ℕ) (odd : Bool) (t : List ℤ) (m : Bytes) : Type 0 where
  pub at : (e : ℕ) → e < 2 * pairs z → lane t e ≡ element z m (second_lane choose odd e)

-- its own pair
pub own-second : (z : Size) (odd : Bool) {ml t : List ℤ} {m : Bytes} → LanesOf z ml m → Taken z t ml (second_place odd) → Second z own odd t m
unfolding own
own-second z odd {ml} {t} {m} hm ht =
    record { at = (λ e h. ht.at e h ∙ hm.at (second_place odd e) (second_below odd e (pairs z) h) ∙ ap (element z m) (sym (second_is odd e))) }

-- the pair at the index
index_below : (index e P : ℕ) → index < P → index_place index e < 2 * P
unfolding index_place
index_below index e P h = omega arith

index_is : (odd : Bool) (index e : ℕ) → index_place index (second_place odd e) ≡ 2 * index + cond odd (1 - e % 2) (e % 2)
unfolding index_place second_place
index_is true index e = omega arith
index_is false index e = omega arith

index-pair : (z : Size) (index e : ℕ) → e < 2 * pairs z → indexed z index (e / 2) ≡ index
unfolding indexed
index-pair z index e h = rw (mod-eq_of_lt (half (pairs z) h)) (omega arith)
  where
    half : (P : ℕ) → e < 2 * P → e / 2 < P
    half P h = omega arith

pub index-second : (z : Size) (odd : Bool) {index : ℕ} {ml ms t : List ℤ} {m : Bytes} → index < pairs z → LanesOf z ml m → Taken z ms ml (index_place index) → Taken z t ms (second_place odd) → Second z (indexed z index) odd t m
index-second z odd {index} {ml} {ms} {t} {m} l hm hs ht =
    record {
      at = (λ e h.
          ht.at e h ∙ hs.at (second_place odd e) (second_below odd e (pairs z) h) ∙ hm.at (index_place index (second_place odd e)) (index_below index (second_place odd e) (pairs z) l)
          ∙ ap (element z m) (index_is odd index e ∙ ap (λ (q : ℕ). 2 * q + cond odd (1 - e % 2) (e % 2)) (sym (index-pair z index e h))));
    }

-- x and nl are the lanes of c and n; y and t the taken ones, out the results and s their bytes. g is what the code works out, and f the definition's
pub products : (z : Size) (choose : ℕ → ℕ) (f g : ℤ → ℤ → ℤ) → ((a b : ℤ) → pattern (bits z) (g a b) ≡ pattern (bits z) (f a b)) → (r : Rotation) →
    {c n m s : List ℕ} {x nl y t out : List ℤ} {odd real imaginary : Bool} →
    odd ≡ crossed r → real ≡ minus_real r → imaginary ≡ minus_imaginary r →
    LanesOf z x (bytes_of c) → LanesOf z nl (bytes_of n) → Taken z y nl (first_place odd) → Second z choose odd t (bytes_of m) →
    Multiplied z g out x y t real imaginary → BytesOfLanes z s out → Segment z choose (λ c n m. each₂ f c (product r n m)) s c n m
products z choose f g same r {c} {n} {m} {s} {x} {nl} {y} {t} {out} {odd} {real} {imaginary} eo er ei hx hn hy ht ho hs =
    record { sized = hs.sized; at = (λ i l. hs.at i l ∙ segment z choose (λ c n m. each₂ f c (product r n m)) (bytes_of c) (bytes_of n) (bytes_of m) (lane out) results i l) }
  where
    results : (e : ℕ) → e < 2 * pairs z → pattern (bits z) (lane out e) ≡ pattern (bits z) (part (e % 2) (each₂ f (complex z (bytes_of c) (e / 2)) (product r (complex z (bytes_of n) (e / 2)) (complex z (bytes_of m) (choose (e / 2))))))
    results e h =
        ap (pattern (bits z)) (ho.at e h) ∙ same (lane x e) (signed_by (minus_at real imaginary e) (lane y e *ℤ lane t e))
        ∙ ap (pattern (bits z))
        (ap₂ f (hx.at e h)
        (ap₂ signed_by (ap₂ (λ a b. minus_at a b e) er ei)
        (ap₂ ◌*ℤ◌
        (hy.at e h ∙ ap (λ (o : Bool). lane nl (first_place o e)) eo ∙ hn.at (first_place (crossed r) e) (first_below (crossed r) e (pairs z) h))
        (ht.at e h ∙ ap (λ (o : Bool). element z (bytes_of m) (second_lane choose o e)) eo)))
        ∙ sym (product-lane z choose f r (bytes_of c) (bytes_of n) (bytes_of m) e))

part-map : (k : ℤ → ℤ) (a : Complex) (j : ℕ) → part j (each k a) ≡ k (part j a)
unfolding part each
part-map k a zero = refl
part-map k a (suc j) = refl

-- the same for the sums, whose rotations cross. `same` says that what the code works out has the bits of the definition's
pub sums : (z : Size) (k : ℤ → ℤ) (g : ℤ → ℤ → ℤ) → ((a b : ℤ) → pattern (bits z) (g a b) ≡ pattern (bits z) (k (a +ℤ b))) → (r : Rotation) →
    {c m s : List ℕ} {x ml t out : List ℤ} {real imaginary : Bool} →
    crossed r ≡ true → real ≡ minus_real r → imaginary ≡ minus_imaginary r →
    LanesOf z x (bytes_of c) → LanesOf z ml (bytes_of m) → Taken z t ml (second_place true) →
    Added z g out x t real imaginary → BytesOfLanes z s out → Segment z own (λ a _ b. each k (turned r a b)) s c c m
unfolding own
sums z k g same r {c} {m} {s} {x} {ml} {t} {out} {real} {imaginary} ec er ei hx hm ht ho hs =
    record { sized = hs.sized; at = (λ i l. hs.at i l ∙ segment z own (λ a _ b. each k (turned r a b)) (bytes_of c) (bytes_of c) (bytes_of m) (lane out) results i l) }
  where
    results : (e : ℕ) → e < 2 * pairs z → pattern (bits z) (lane out e) ≡ pattern (bits z) (part (e % 2) (each k (turned r (complex z (bytes_of c) (e / 2)) (complex z (bytes_of m) (own (e / 2))))))
    results e h =
        ap (pattern (bits z)) (ho.at e h) ∙ same (lane x e) (signed_by (minus_at real imaginary e) (lane t e))
        ∙ ap (pattern (bits z))
        (ap k
        (ap₂ ◌+ℤ◌ (hx.at e h)
        (ap₂ signed_by (ap₂ (λ a b. minus_at a b e) er ei)
        (ht.at e h ∙ hm.at (second_place true e) (second_below true e (pairs z) h)))
        ∙ sym (turned-lane z r (bytes_of c) (bytes_of m) e ec))
        ∙ sym (part-map k (turned r (complex z (bytes_of c) (e / 2)) (complex z (bytes_of m) (e / 2))) (e % 2)))
