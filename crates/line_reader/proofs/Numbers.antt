-- The last arm of a match on a number.
use Prim.Native.Nat.{ℕ, zero, suc}
use mathlib.Core.Path.{◌≡◌, refl}
use Rattle.isa.specs.declared.types.Form.{Form}
use Rattle.isa.specs.Decode.{vector_of}

pub vector-rest : (v : ℕ) → (v ≡ 0 → ⊥) → Form.Vector128 ≡ vector_of v
vector-rest zero a = absurd (a refl)
vector-rest (suc v) a = refl
