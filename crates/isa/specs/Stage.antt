-- What the stages of a kernel make, for elements of size z: lanes as lists, and the places from which a lane's sources are taken.
-- Assumes nothing.
use Rattle.std.specs.Prelude.{ℕ, ◌+◌, ◌-◌, ◌*◌, ◌/◌, ◌%◌, ◌<◌, Bool, true, false, cond, List, ◌≡◌, get_or, length, eqb, ltb, ℤ, pos, ◌*ℤ◌}
use Rattle.integer.specs.Number.{signed_by, byte_of, rounded, clamp}
use Rattle.integer.specs.Lane.{Toward}
use Rattle.isa.specs.Register.{Bytes, Size, bytes, bits, pairs, little, element}
use Rattle.isa.specs.Meaning.{Rotation, R0, R90, R180, R270}
use Rattle.isa.specs.Segment.{bytes_of}

-- Lane e of a list.
abbrev pub lane : List ℤ → ℕ → ℤ
lane s e = get_or s e (pos 0)

-- The rotation takes the imaginary part of the first source, and the other part of the second.
abbrev pub crossed : Rotation → Bool
crossed R0 = false
crossed R90 = true
crossed R180 = false
crossed R270 = true

-- The rotation subtracts in the real part, and in the imaginary part.
abbrev pub minus_real : Rotation → Bool
minus_real R0 = false
minus_real R90 = true
minus_real R180 = true
minus_real R270 = false

abbrev pub minus_imaginary : Rotation → Bool
minus_imaginary R0 = false
minus_imaginary R90 = false
minus_imaginary R180 = true
minus_imaginary R270 = true

-- The lane of the first source, and of the second, that lane e takes.
unfoldable pub first_place : Bool → ℕ → ℕ
first_place odd e = e / 2 * 2 + cond odd 1 0

abbrev pub partner_of : ℕ → ℕ
partner_of e = e / 2 * 2 + (1 - e % 2)

unfoldable pub second_place : Bool → ℕ → ℕ
second_place odd e = cond odd (partner_of e) e

-- The lane of the pair at the index that lane e takes.
unfoldable pub index_place : ℕ → ℕ → ℕ
index_place index e = index + index + e % 2

-- Whether lane e subtracts.
unfoldable pub minus_at : Bool → Bool → ℕ → Bool
minus_at real imaginary e = cond (eqb (e % 2) 0) real imaginary

-- s holds the lanes of the bytes b.
pub record LanesOf (z : Size) (s : List ℤ) (b : Bytes) : Type 0 where
  pub at : (e : ℕ) → e < 2 * pairs z → lane s e ≡ element z b e

-- Lane e of s is the lane of t at its place.
pub record Taken (z : Size) (s t : List ℤ) (place : ℕ → ℕ) : Type 0 where
  pub at : (e : ℕ) → e < 2 * pairs z → lane s e ≡ lane t (place e)

-- Lane e of s is f of lane e of x and of the product of lanes e of y and t, or its negative.
pub record Multiplied (z : Size) (f : ℤ → ℤ → ℤ) (s x y t : List ℤ) (real imaginary : Bool) : Type 0 where
  pub at : (e : ℕ) → e < 2 * pairs z → lane s e ≡ f (lane x e) (signed_by (minus_at real imaginary e) (lane y e *ℤ lane t e))

-- Lane e of s is f of lane e of x and of lane e of t, or its negative.
pub record Added (z : Size) (f : ℤ → ℤ → ℤ) (s x t : List ℤ) (real imaginary : Bool) : Type 0 where
  pub at : (e : ℕ) → e < 2 * pairs z → lane s e ≡ f (lane x e) (signed_by (minus_at real imaginary e) (lane t e))

-- Below `count`, lane e of s is the rounded sum of lane e of x and of the product of lane e of y with b, or its negative; the others are 0.
pub record Summed (z : Size) (count : ℕ) (minus : Bool) (s x y : List ℤ) (b : ℤ) : Type 0 where
  pub at : (e : ℕ) → e < 2 * pairs z → lane s e ≡ cond (ltb e count) (rounded (bits z) (lane x e) (signed_by minus (lane y e *ℤ b))) (pos 0)

-- Where lane e of s has no place in its size, the sign of lane e of x tells the end that it is past.
pub record Towards (z : Size) (s x : List ℤ) : Type 0 where
  pub at : (e : ℕ) → e < 2 * pairs z → Toward (bits z) (lane s e) (lane x e)

-- Lane e of s is lane e of t, clamped.
pub record Clamped (z : Size) (s t : List ℤ) : Type 0 where
  pub at : (e : ℕ) → e < 2 * pairs z → lane s e ≡ clamp (bits z) (lane t e)

-- r holds the bytes of the lanes s.
pub record BytesOfLanes (z : Size) (r : List ℕ) (s : List ℤ) : Type 0 where
  pub sized : length r ≡ 16
  pub at : (i : ℕ) → i < 16 → bytes_of r i ≡ byte_of (bits z) (lane s (i / bytes z)) (i % bytes z)

-- s holds the numbers of the bytes b, four by four, lowest byte first.
pub record WordsOf (s : List ℕ) (b : Bytes) : Type 0 where
  pub at : (k : ℕ) → k < 4 → get_or s k 0 ≡ little b (4 * k) 4

-- Lane e of s is f of lane e of x and of lane e of t.
pub record Paired (z : Size) (f : ℤ → ℤ → ℤ) (s x t : List ℤ) : Type 0 where
  pub at : (e : ℕ) → e < 2 * pairs z → lane s e ≡ f (lane x e) (lane t e)
