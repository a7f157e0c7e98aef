-- `kernel::lane32::I32ByElement4::element` meets its contract: the element's bytes are read, and no others.
use mathlib.Core.Path.{◌≡◌, refl, ap, ◌∙◌}
use mathlib.Core.List.{List}
use Prim.Native.Nat.{ℕ, ◌+◌, ◌*◌}
use native.Mathlib.Omega.{arith}
use lib.ListN.{get_or}
use mir.Syntax.{w32}
use Rattle.integer.specs.Number.{signed}
use Rattle.integer.proofs.Word.{kept}
use Rattle.isa.specs.declared.types.Size.TheVariants.{S}
use Rattle.isa.specs.Register.{element}
use Rattle.isa.proofs.Places.{element32}
use Rattle.kernel.proofs.lane32.I32ByElement4.element.Goals as goal

read-element : (f : List ℕ) (m e k : ℕ) → k ≡ m + 4 * e →
    signed 32 (get_or f k 0 + 256 * (get_or f (k + 1) 0 + 256 * (get_or f (k + 2) 0 + 256 * get_or f (k + 3) 0))) ≡ element S (λ i. get_or f (m + i) 0) e
read-element f m e k p =
    ap (signed 32) (λ t. get_or f (p t) 0 + 256 * (get_or f (place 1 t) 0 + 256 * (get_or f (place 2 t) 0 + 256 * get_or f (place 3 t) 0)))
    ∙ element32 (λ i. get_or f (m + i) 0) e (4 * e) refl
  where
    place : (i : ℕ) → k + i ≡ m + (4 * e + i)
    place i = omega (arith, p)

pub returns : goal.returns
returns c = let a = c.args in
    kept w32 _ c.of_bits.type_inv ∙ c.of_bits.ensures ∙ ap (signed 32) c.word.ensures ∙ read-element a.file.now a.m a.index _ (omega arith)
