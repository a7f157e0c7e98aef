use mathlib.Core.Path.{refl, ◌∙◌}
use native.Mathlib.Omega.{arith}
use mir.Syntax.{w8}
use Rattle.std.proofs.lemmas.List.{map-id}
use Rattle.integer.proofs.Word.{kept}
use Rattle.isa.specs.Register.{pairs}
use Rattle.isa.specs.Segment.{bytes_of}
use Rattle.isa.proofs.Made.{made_none, made_more, made_all}
use Rattle.isa.proofs.Places.{element8}
use Rattle.kernel.proofs.lane8.I8Lane16.lanes.Goals as goal

pub loop-e-init : goal.loop-e-init
loop-e-init c = made_none refl

pub loop-e-preserved : goal.loop-e-preserved
loop-e-preserved c = let l = c.loop-e in
    made_more l.invariant (omega arith) _ (kept w8 c.of_bits.result c.of_bits.type_inv ∙ c.of_bits.ensures ∙ element8 (bytes_of c.args.b) l.e)

pub returns : goal.returns
unfolding pairs
returns c = rw (map-id c.loop-e.r)
    record { at = made_all c.loop-e.invariant (omega arith) }
