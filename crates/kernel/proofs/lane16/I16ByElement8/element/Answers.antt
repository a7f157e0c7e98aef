-- `kernel::lane16::I16ByElement8::element` meets its contract: the element's bytes are read, and no others.
use mathlib.Core.Path.{◌≡◌, ap, ◌∙◌}
use mathlib.Core.List.{List}
use Prim.Native.Nat.{ℕ, ◌+◌, ◌*◌}
use native.Mathlib.Omega.{arith}
use lib.ListN.{get_or}
use mir.Syntax.{w16}
use Rattle.integer.specs.Number.{signed}
use Rattle.integer.proofs.Word.{kept}
use Rattle.isa.specs.declared.types.Size.TheVariants.{H}
use Rattle.isa.specs.Register.{element}
use Rattle.isa.proofs.Places.{element16}
use Rattle.kernel.proofs.lane16.I16ByElement8.element.Goals as goal

read-element : (f : List ℕ) (m e k : ℕ) → k ≡ m + (e + e) → signed 16 (get_or f k 0 + 256 * get_or f (k + 1) 0) ≡ element H (λ i. get_or f (m + i) 0) e
read-element f m e k p = ap (signed 16) (λ t. get_or f (p t) 0 + 256 * get_or f (next t) 0) ∙ element16 (λ i. get_or f (m + i) 0) e
  where
    next : k + 1 ≡ m + (e + e + 1)
    next = omega (arith, p)

pub returns : goal.returns
returns c = let a = c.args in
    kept w16 _ c.of_bits.type_inv ∙ c.of_bits.ensures ∙ ap (signed 16) c.word.ensures ∙ read-element a.file.now a.m a.index _ (omega arith)
