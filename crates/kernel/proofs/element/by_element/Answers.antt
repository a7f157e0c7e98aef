-- `kernel::element::by_element` meets its contract: the stages make the definition.
use mathlib.Core.Path.{refl, ap, ◌∙◌}
use Prim.Native.Nat.{ℕ}
use Rattle.std.specs.Prelude.{map}
use Rattle.integer.specs.Number.{clamps}
use Rattle.isa.specs.Register.{bits}
use Rattle.isa.specs.Meaning.{any_below}
use Rattle.isa.specs.Stage.{lane}
use Rattle.isa.proofs.Element.{elements}
use Rattle.kernel.proofs.element.by_element.Goals as goal

pub returns : goal.returns
returns g c = let a = c.args in
    elements a.form g.L.Lane.size a.minus c.count.ensures.0 c.lanes-x.ensures c.lanes.ensures refl
    c.rounded_sums-s.ensures.0 c.narrowed.ensures c.bytes.ensures
    (c.any_overflow.ensures ∙ ap (λ (k : ℕ). any_below k (λ e. clamps (bits g.L.Lane.size) (lane (map g.L.ByElement.sum c.rounded_sums-s.result) e))) g.met.L.Lane.count)
