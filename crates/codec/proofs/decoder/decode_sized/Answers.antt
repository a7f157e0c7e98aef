use mathlib.Core.Path.{refl, sym, ap, ap₂, ◌∙◌}
use Prim.Native.Nat.{ℕ, ◌/◌, ◌%◌}
use native.Mathlib.Omega.{arith}
use Rattle.isa.specs.declared.types.Size.{Size}
use Rattle.isa.specs.declared.types.ByElement.{ByElement}
use Rattle.isa.specs.declared.types.Decoded.{Decoded}
use Rattle.isa.specs.Decode.{element_with}
use Rattle.codec.specs.Pair.{element_by}
use Rattle.codec.proofs.Keys.{is-element-n, reserved-rest, index-h, index-s, register-s}
use Rattle.codec.proofs.decoder.decode_sized.Goals as goal

pub returns-in-1 : goal.returns-in-1
returns-in-1 c = let w = c.args.word in
    let i = index-h (w / 2048 % 2) (w / 2097152 % 2) (w / 1048576 % 2) (omega arith) (omega arith) in
    c.element_operation.ensures
    ∙ ap (λ (a : ByElement). Decoded.Operation (element_by c.args.minus a))
    (c.read_element.ensures ∙ ap (λ (n : ℕ). element_with c.args.form Size.H (w / 65536 % 16) n w) i)
    ∙ sym (is-element-n w (omega arith) c.args.minus c.args.form 1 c.requires.0 c.requires.1.0 c.requires.1.1 (omega arith))

pub returns-in-2 : goal.returns-in-2
returns-in-2 c = let w = c.args.word in
    let i = index-s (w / 2048 % 2) (w / 2097152 % 2) (omega arith) in
    let r = register-s (w / 1048576 % 2) (w / 65536 % 16) (omega arith) in
    c.element_operation-in-2.ensures
    ∙ ap (λ (a : ByElement). Decoded.Operation (element_by c.args.minus a))
    (c.read_element-in-2.ensures ∙ ap₂ (λ (m n : ℕ). element_with c.args.form Size.S m n w) r i)
    ∙ sym (is-element-n w (omega arith) c.args.minus c.args.form 2 c.requires.0 c.requires.1.0 c.requires.1.1 (omega arith))

pub returns-in_default : goal.returns-in_default
returns-in_default c = let w = c.args.word in
    reserved-rest (element_by c.args.minus) c.args.form w (w / 4194304 % 4) (omega arith) (omega arith)
    ∙ sym (is-element-n w (omega arith) c.args.minus c.args.form (w / 4194304 % 4) c.requires.0 c.requires.1.0 c.requires.1.1 refl)
