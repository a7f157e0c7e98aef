-- The lanes of the second source, as a kernel takes them.
-- Assumes nothing.
use mathlib.Core.Path.{◌≡◌, refl, ap, ap₂, ◌∙◌}
use mathlib.Core.Bool.{Bool, true, false, cond}
use mathlib.Core.List.{List}
use Prim.Native.Nat.{ℕ, ◌+◌, ◌-◌, ◌*◌, ◌/◌, ◌%◌, ◌<◌}
use native.Mathlib.Nat.{mod-eq_of_lt, mod-lt}
use native.Mathlib.Omega.{arith}
use lib.IntN.{ℤ}
use Rattle.isa.specs.declared.types.Size.{Size}
use Rattle.isa.specs.Register.{Bytes, pairs, element}
use Rattle.isa.specs.Meaning.{own, indexed}
use Rattle.isa.specs.Stage.{LanesOf, Taken, second_place, index_place}
use Rattle.isa.proofs.Pair.{Second}
use Rattle.kernel.specs.Work.{Chosen}
use Rattle.kernel.proofs.Values.{some-pairs}

index_below : (index e P : ℕ) → index < P → index_place index e < 2 * P
unfolding index_place
index_below index e P h = omega arith

half : (e P : ℕ) → e < 2 * P → e / 2 < P
half e P h = omega arith

index_is : (z : Size) (index e : ℕ) → e < 2 * pairs z → index_place index e ≡ 2 * indexed z index (e / 2) + e % 2
unfolding index_place indexed
index_is z index e h = rw (mod-eq_of_lt (half e (pairs z) h)) (omega arith)

second_below : (odd : Bool) (e P : ℕ) → e < 2 * P → second_place odd e < 2 * P
unfolding second_place
second_below true e P h = omega arith
second_below false e P h = h

second-pair : (odd : Bool) (e : ℕ) → second_place odd e / 2 ≡ e / 2
unfolding second_place
second-pair true e = omega arith
second-pair false e = refl

second-part : (odd : Bool) (e : ℕ) → second_place odd e % 2 ≡ cond odd (1 - e % 2) (e % 2)
unfolding second_place
second-part true e = omega arith
second-part false e = refl

module _ (z : Size) {m : Bytes} where
  -- each pair's own pair
  pub own-chosen : {t : List ℤ} → LanesOf z t m → Chosen z own t m
  unfolding own
  own-chosen h = record { at = (λ e l. h.at e l ∙ ap (element z m) (omega arith)) }

  -- the pair at the index
  pub index-chosen : {index : ℕ} {ml t : List ℤ} → index < pairs z → LanesOf z ml m → Taken z t ml (index_place index) → Chosen z (indexed z index) t m
  index-chosen {index} l hm ht = record { at = (λ e h. ht.at e h ∙ hm.at (index_place index e) (index_below index e (pairs z) l) ∙ ap (element z m) (index_is z index e h)) }

  -- the part that the rotation takes of each
  pub chosen-second : (choose : ℕ → ℕ) (odd : Bool) {ml t : List ℤ} → Chosen z choose ml m → Taken z t ml (second_place odd) → Second z choose odd t m
  chosen-second choose odd hm ht =
      record { at = (λ e h. ht.at e h ∙ hm.at (second_place odd e) (second_below odd e (pairs z) h) ∙ ap (element z m) (ap₂ (λ (p k : ℕ). 2 * choose p + k) (second-pair odd e) (second-part odd e))) }

-- an index modulo the pairs
pub index_small : (z : Size) (index : ℕ) → index % pairs z < pairs z
index_small z index = mod-lt index (some-pairs z)
