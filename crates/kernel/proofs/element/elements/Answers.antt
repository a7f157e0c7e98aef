-- `kernel::element::elements` meets its contract: with the element at the index.
use mathlib.Core.Path.{sym, ap, ◌∙◌, fun_ext}
use Prim.Native.Nat.{ℕ, ◌%◌}
use native.Mathlib.Nat.{mod-lt}
use native.Mathlib.Omega.{arith}
use lib.ListN.{get_or}
use Rattle.isa.specs.Register.{Bytes, element}
use Rattle.isa.specs.Segment.{bytes_of}
use Rattle.kernel.proofs.Values.{some-pairs}
use Rattle.kernel.proofs.element.elements.Goals as goal

pub nonzero_rem-index : goal.nonzero_rem-index
nonzero_rem-index g c = omega (arith, some-pairs g.L.Lane.size, g.met.L.Lane.count)

pub element-requires-clause-index_bound : goal.element-requires-clause-index_bound
element-requires-clause-index_bound g c = mod-lt c.args.index (omega (arith, some-pairs g.L.Lane.size, g.met.L.Lane.count))

pub returns : goal.returns
returns g c = let a = c.args in
    c.by_element.ensures.made (bytes_of a.m) _ (ap (λ (b : Bytes). element g.L.Lane.size b (a.index % g.row.K)) (fun_ext (λ i. ap (λ (k : ℕ). get_or a.m k 0) (omega arith))) ∙ sym c.element.ensures)
