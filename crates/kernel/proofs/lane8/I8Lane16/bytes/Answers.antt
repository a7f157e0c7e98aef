use mathlib.Core.Path.{◌≡◌, refl, sym, ◌∙◌}
use native.Mathlib.Nat.{mod-eq_of_lt}
use native.Mathlib.Omega.{arith}
use mir.Syntax.{w8}
use Rattle.integer.specs.Number.{pattern}
use Rattle.std.proofs.lemmas.List.{map-id}
use Rattle.integer.proofs.Word.{kept}
use Rattle.isa.specs.Register.{bits, bytes}
use Rattle.isa.specs.Stage.{lane}
use Rattle.isa.proofs.Made.{made_none, made_more, made_all}
use Rattle.isa.proofs.Places.{byte-first}
use Rattle.kernel.proofs.lane8.I8Lane16.bytes.Goals as goal

pub loop-e-init : goal.loop-e-init
loop-e-init c = made_none refl

pub loop-e-preserved : goal.loop-e-preserved
loop-e-preserved c = let l = c.loop-e in
    let s = c.args.s in
    let u : c.to_bits.result ≡ pattern 8 (lane s l.e) = simp (kept w8 (lane s l.e) c.to_bits-arg-1.given) at c.to_bits.ensures in
    made_more l.invariant (omega arith) _ (sym (mod-eq_of_lt c.to_bits.type_inv) ∙ byte-first 8 1 s l.e _ u l.e (omega arith) (omega arith))

pub returns : goal.returns
unfolding bits bytes
returns c = rw (map-id c.args.s)
    record { sized = c.loop-e.invariant.sized; at = made_all c.loop-e.invariant (omega arith) }
