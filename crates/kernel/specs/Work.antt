-- What a kernel is given to do at a lane, and the lanes of the second source. `value` gives the number that a lane stands for.
-- Assumes nothing.
use Rattle.std.specs.Prelude.{ℕ, ◌+◌, ◌*◌, ◌/◌, ◌%◌, ◌<◌, Bool, List, ◌≡◌, ℤ, ◌*ℤ◌}
use Rattle.integer.specs.Number.{signed_by, pattern}
use Rattle.isa.specs.declared.types.Size.{Size}
use Rattle.isa.specs.Register.{Bytes, pairs, element}
use Rattle.isa.specs.Stage.{lane}

-- The results of the work, `post`, are f of the addend and of the product, or its negative.
abbrev pub Multiplies : {A : Type 0} → (A → ℤ) → (A → A → A → Bool → A → Type 0) → (ℤ → ℤ → ℤ) → Type 0
Multiplies {A} value post f = (c a b : A) (minus : Bool) (r : A) → post c a b minus r → value r ≡ f (value c) (signed_by minus (value a *ℤ value b))

-- The results of the work are f of the first summand and of the second, or its negative.
abbrev pub Adds : {A : Type 0} → (A → ℤ) → (A → A → Bool → A → Type 0) → (ℤ → ℤ → ℤ) → Type 0
Adds {A} value post f = (c b : A) (minus : Bool) (r : A) → post c b minus r → value r ≡ f (value c) (signed_by minus (value b))

-- f and g have the same N bits.
abbrev pub SameBits : ℕ → (ℤ → ℤ → ℤ) → (ℤ → ℤ → ℤ) → Type 0
SameBits N f g = (a b : ℤ) → pattern N (f a b) ≡ pattern N (g a b)

-- The lanes t are those of the pairs of m that `choose` names.
pub record Chosen (z : Size) (choose : ℕ → ℕ) (t : List ℤ) (m : Bytes) : Type 0 where
  pub at : (e : ℕ) → e < 2 * pairs z → lane t e ≡ element z m (2 * choose (e / 2) + e % 2)
