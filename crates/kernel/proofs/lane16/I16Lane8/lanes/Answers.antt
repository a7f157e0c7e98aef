use mathlib.Core.Path.{refl, ap, ◌∙◌}
use native.Mathlib.Omega.{arith}
use mir.Syntax.{w16}
use Rattle.integer.specs.Number.{signed}
use Rattle.std.proofs.lemmas.List.{map-id}
use Rattle.integer.proofs.Word.{kept}
use Rattle.isa.specs.Register.{pairs}
use Rattle.isa.specs.Segment.{bytes_of}
use Rattle.isa.proofs.Made.{made_none, made_more, made_all}
use Rattle.isa.proofs.Places.{element16}
use Rattle.kernel.proofs.lane16.I16Lane8.lanes.Goals as goal

pub loop-e-init : goal.loop-e-init
loop-e-init c = made_none refl

pub loop-e-preserved : goal.loop-e-preserved
loop-e-preserved c = let l = c.loop-e in
    made_more l.invariant (omega arith) _
    (kept w16 c.of_bits.result c.of_bits.type_inv ∙ c.of_bits.ensures ∙ ap (signed 16) c.word.ensures ∙ element16 (bytes_of c.args.b) l.e)

pub returns : goal.returns
unfolding pairs
returns c = rw (map-id c.loop-e.r)
    record { at = made_all c.loop-e.invariant (omega arith) }
