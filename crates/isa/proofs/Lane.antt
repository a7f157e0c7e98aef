-- The rule by bytes is the rule by lanes. Lane e of what an SVE2 operation writes is the part of its pair, kept modulo 2^N; by element, lane e is
-- the clamped number, and past the form's lanes there are zeros.
-- Assumes nothing.
use mathlib.Core.Path.{◌≡◌, refl, sym, ap, ap₂, subst, ◌∙◌}
use Prim.Native.Nat.{ℕ, zero, suc, ◌+◌, ◌*◌, ◌/◌, ◌%◌, ◌^◌, ◌<◌, ◌≤◌}
use native.Mathlib.Omega.{arith}
use native.Mathlib.Nat.{mod-eq_of_lt, mod-one, div-one, div-div-eq-div-mul, pow-suc, mul_comm, add-zero}
use lib.Arith.{mod-mul}
use lib.IntN.{ℤ}
use mathlib.Core.Bool.{Bool}
use borrow.Author.Tests.{lt-ltb, le-ltb}
use Rattle.integer.specs.Number.{signed, pattern, byte_of, digit, wrap, clamp, rounded}
use Rattle.integer.specs.Lane.{saturated}
use Rattle.integer.proofs.Word.{pattern-below}
use Rattle.integer.proofs.Wrap.{wrap-clamp}
use Rattle.isa.specs.Register.{Bytes, Size, B, H, S, D, bytes, bits, pairs, little, element, complex, Complex}
use Rattle.isa.specs.Meaning.{pair_bytes, part, each, each₂, product, turned, own, sqcadd_of, sqrdcmlah_of, Rotation, Form, lane_count, lane_value, lane_bytes}
use Rattle.isa.proofs.Local.{lane-fits, count_small}

base-pos : (k : ℕ) → 0 < 256 ^ k
base-pos zero = omega arith
base-pos (suc k) = rw (pow-suc 256 k) (omega (arith, base-pos k))

-- ---- the number in bytes that are the digits of x

little-digits : (b : Bytes) (at count x : ℕ) → ((i : ℕ) → i < count → b (at + i) ≡ x / 256 ^ i % 256) → little b at count ≡ x % 256 ^ count
unfolding little
little-digits b at zero x h = sym (mod-one x)
little-digits b at (suc count) x h =
    ap₂ (λ u v. u + 256 * v) first (little-digits b (at + 1) count (x / 256) rest) ∙ join
  where
    first : b at ≡ x % 256
    first = ap b (sym (add-zero at)) ∙ h 0 (omega arith) ∙ ap (λ q. q % 256) (div-one x)

    rest : (i : ℕ) → i < count → b (at + 1 + i) ≡ x / 256 / 256 ^ i % 256
    rest i l =
        ap b (omega arith) ∙ h (suc i) (omega arith)
        ∙ ap (λ q. x / q % 256) (pow-suc 256 i ∙ mul_comm (256 ^ i) 256)
        ∙ ap (λ q. q % 256) (sym (div-div-eq-div-mul x 256 (256 ^ i)))

    join : x % 256 + 256 * (x / 256 % 256 ^ count) ≡ x % 256 ^ suc count
    join = omega (arith, mod-mul x {m = 256 ^ count} {c = 256} (base-pos count) (omega arith), ap (λ q. x % q) (pow-suc 256 count))

-- ---- the lane that was written

-- 2^N in bytes
width : (z : Size) → 2 ^ bits z ≡ 256 ^ bytes z
unfolding bits bytes
width B = refl
width H = refl
width S = refl
width D = refl

module _ (e i : ℕ) where
  lane-pair : (z : Size) → i < bytes z → (bytes z * e + i) / (2 * bytes z) ≡ e / 2
  unfolding bytes
  lane-pair B h = omega arith
  lane-pair H h = omega arith
  lane-pair S h = omega arith
  lane-pair D h = omega arith

  pub lane-part : (z : Size) → i < bytes z → (bytes z * e + i) / bytes z ≡ e
  unfolding bytes
  lane-part B h = omega arith
  lane-part H h = omega arith
  lane-part S h = omega arith
  lane-part D h = omega arith

  pub lane_place : (z : Size) → i < bytes z → (bytes z * e + i) % bytes z ≡ i
  unfolding bytes
  lane_place B h = omega arith
  lane_place H h = omega arith
  lane_place S h = omega arith
  lane_place D h = omega arith

-- an element whose bytes are those of v
pub element-of : (z : Size) (b : Bytes) (e : ℕ) (v : ℤ) → ((i : ℕ) → i < bytes z → b (bytes z * e + i) ≡ byte_of (bits z) v i) →
    element z b e ≡ wrap (bits z) v
unfolding element wrap byte_of digit
element-of z b e v h =
    ap (signed (bits z))
    (little-digits b (bytes z * e) (bytes z) (pattern (bits z) v) h
    ∙ mod-eq_of_lt (subst (λ q. pattern (bits z) v < q) (width z) (pattern-below (bits z) v)))

-- lane e of what an SVE2 operation writes
pub lane-written : (z : Size) (choose : ℕ → ℕ) (result : Complex → Complex → Complex → Complex) (c n m : Bytes) (e : ℕ) →
    element z (pair_bytes z choose result c n m) e
    ≡ wrap (bits z) (part (e % 2) (result (complex z c (e / 2)) (complex z n (e / 2)) (complex z m (choose (e / 2)))))
unfolding pair_bytes
lane-written z choose result c n m e = element-of z _ e _ (λ i h. rw (lane-pair e i z h, lane-part e i z h, lane_place e i z h))

-- ---- the families that clamp: their lanes are in range, so nothing is lost

pub some_bits : (z : Size) → 0 < bits z
unfolding bits bytes
some_bits B = omega arith
some_bits H = omega arith
some_bits S = omega arith
some_bits D = omega arith

clamped-part : (N : ℕ) (a : Complex) (k : ℕ) → wrap N (part k (each (clamp N) a)) ≡ wrap N (clamp N (part k a))
unfolding part each
clamped-part N a zero = refl
clamped-part N a (suc k) = refl

pub lane-sqcadd : (z : Size) (r : Rotation) (c n m : Bytes) (e : ℕ) →
    element z (pair_bytes z own (sqcadd_of (bits z) r) c n m) e ≡ clamp (bits z) (part (e % 2) (turned r (complex z c (e / 2)) (complex z m (e / 2))))
unfolding sqcadd_of own
lane-sqcadd z r c n m e =
    lane-written z own (sqcadd_of (bits z) r) c n m e ∙ clamped-part (bits z) (turned r (complex z c (e / 2)) (complex z m (e / 2))) (e % 2)
    ∙ wrap-clamp (bits z) (some_bits z) (part (e % 2) (turned r (complex z c (e / 2)) (complex z m (e / 2))))

saturated-part : (N : ℕ) (a b : Complex) (k : ℕ) → wrap N (part k (each₂ (saturated N) a b)) ≡ wrap N (clamp N (rounded N (part k a) (part k b)))
unfolding part each₂ saturated
saturated-part N a b zero = refl
saturated-part N a b (suc k) = refl

pub lane-sqrdcmlah : (z : Size) (choose : ℕ → ℕ) (r : Rotation) (c n m : Bytes) (e : ℕ) →
    element z (pair_bytes z choose (sqrdcmlah_of (bits z) r) c n m) e
    ≡ clamp (bits z) (rounded (bits z) (part (e % 2) (complex z c (e / 2))) (part (e % 2) (product r (complex z n (e / 2)) (complex z m (choose (e / 2))))))
unfolding sqrdcmlah_of
lane-sqrdcmlah z choose r c n m e =
    let t = product r (complex z n (e / 2)) (complex z m (choose (e / 2))) in
    lane-written z choose (sqrdcmlah_of (bits z) r) c n m e ∙ saturated-part (bits z) (complex z c (e / 2)) t (e % 2)
    ∙ wrap-clamp (bits z) (some_bits z) (rounded (bits z) (part (e % 2) (complex z c (e / 2))) (part (e % 2) t))

-- ---- lane e of a result by element

module _ (f : Form) (z : Size) (index : ℕ) (minus : Bool) (c n m : Bytes) (e : ℕ) where
  pub lane-by-element : e < lane_count f z → element z (lane_bytes f z index minus c n m) e ≡ clamp (bits z) (lane_value z index minus c n m e)
  unfolding lane_bytes
  lane-by-element h =
      let fits : bytes z * e + bytes z ≤ 16 = lane-fits z e (omega (arith, count_small f z)) in
      element-of z _ e (clamp (bits z) (lane_value z index minus c n m e))
      (λ i l.
      let low : bytes z * e + i < 16 = omega arith in
      rw (lt-ltb (bytes z * e + i) 16 low, lane-part e i z l, lane_place e i z l, lt-ltb e (lane_count f z) h))
      ∙ wrap-clamp (bits z) (some_bits z) (lane_value z index minus c n m e)

  -- the rest of the first 16 bytes
  pub zero-by-element : lane_count f z ≤ e → e < 2 * pairs z → (i : ℕ) → i < bytes z → lane_bytes f z index minus c n m (bytes z * e + i) ≡ 0
  unfolding lane_bytes
  zero-by-element k h i l =
      let fits : bytes z * e + bytes z ≤ 16 = lane-fits z e h in
      let low : bytes z * e + i < 16 = omega arith in
      rw (lt-ltb (bytes z * e + i) 16 low, lane-part e i z l, lane_place e i z l, le-ltb e (lane_count f z) k)
