-- What a kernel makes of sixteen bytes that are lists, by the rules for bytes.
-- Assumes nothing.
use Rattle.std.specs.Prelude.{ℕ, ◌<◌, Bool, List, ◌≡◌, get_or, length, ℤ}
use Rattle.isa.specs.Register.{Bytes, Size, Complex, element}
use Rattle.isa.specs.Meaning.{Form, pair_bytes, lane_bytes, lane_clamps, lane_wise}

-- The bytes of a list.
abbrev pub bytes_of : List ℕ → Bytes
bytes_of s k = get_or s k 0

-- r holds the bytes of the result of an SVE2 family.
pub record Segment (z : Size) (choose : ℕ → ℕ) (result : Complex → Complex → Complex → Complex) (r c n m : List ℕ) : Type 0 where
  pub sized : length r ≡ 16
  pub at : (i : ℕ) → i < 16 → bytes_of r i ≡ pair_bytes z choose result (bytes_of c) (bytes_of n) (bytes_of m) i

-- r holds the bytes of a result lane by lane.
pub record LaneWise (z : Size) (result : ℤ → ℤ → ℤ) (r c m : List ℕ) : Type 0 where
  pub sized : length r ≡ 16
  pub at : (i : ℕ) → i < 16 → bytes_of r i ≡ lane_wise z result (bytes_of c) (bytes_of m) i

-- r holds the bytes of the result by element, and `any` says whether a lane clamped.
pub record Elements (f : Form) (z : Size) (index : ℕ) (minus : Bool) (r : List ℕ) (any : Bool) (c n : List ℕ) (m : Bytes) : Type 0 where
  pub sized : length r ≡ 16
  pub at : (i : ℕ) → i < 16 → bytes_of r i ≡ lane_bytes f z index minus (bytes_of c) (bytes_of n) m i
  pub flag : any ≡ lane_clamps f z index minus (bytes_of c) (bytes_of n) m

-- The same, of a second source that has b at the index, wherever that is.
pub record ElementsBy (f : Form) (z : Size) (b : ℤ) (minus : Bool) (r : List ℕ) (any : Bool) (c n : List ℕ) : Type 0 where
  pub made : (m : Bytes) (index : ℕ) → element z m index ≡ b → Elements f z index minus r any c n m
