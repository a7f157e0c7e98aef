-- A loop that works a list of lanes in place, from the front: after n stores the first n values are those of f, and the other lanes are as at the start.
-- Assumes nothing.
use mathlib.Core.Path.{◌≡◌, refl, ap, ◌∙◌}
use mathlib.Core.List.{List}
use Prim.Native.Nat.{ℕ, ◌+◌, ◌≤◌, ◌<◌}
use native.Mathlib.Omega.{arith}
use lib.ListN.{get_or, set, length}
use lib.IntN.{ℤ, pos}
use lib.Seq.{get_or-set_other}
use Rattle.std.specs.Prelude.{map}
use Rattle.isa.proofs.Made.{Made}
use Rattle.kernel.proofs.Values.{begin, store}

pub record InPlace {A : Type 0} (value : A → ℤ) (size n : ℕ) (f : ℕ → ℤ) (start r : List A) : Type 0 where
  pub made : Made (pos 0) size n f (map value r)
  pub rest : (k : ℕ) (d : A) → n ≤ k → get_or r k d ≡ get_or start k d

module _ {A : Type 0} (value : A → ℤ) {size : ℕ} {f : ℕ → ℤ} {start : List A} where
  pub in-place-none : length start ≡ size → InPlace value size 0 f start start
  in-place-none e = record { made = begin value start e; rest = (λ k d h. refl) }

  -- a lane not worked yet, read at any place that is the same number
  pub rest-at : {n : ℕ} {r : List A} → InPlace value size n f start r → (j k : ℕ) (d : A) → j ≡ k → n ≤ k → value (get_or r j d) ≡ value (get_or start k d)
  rest-at {n} {r} p j k d e h = ap (λ i. value (get_or r i d)) e ∙ ap value (p.rest k d h)

  pub in-place-more : {n : ℕ} {r : List A} → InPlace value size n f start r → n < size → (v : A) → value v ≡ f n → InPlace value size (n + 1) f start (set r n v)
  in-place-more {n} {r} p l v e =
      record { made = store value r p.made l v e; rest = (λ k d h. get_or-set_other r n k v d (λ q. other k h q) ∙ p.rest k d (omega arith)) }
    where
      other : (k : ℕ) → n + 1 ≤ k → k ≡ n → ⊥
      other k h q = omega arith
