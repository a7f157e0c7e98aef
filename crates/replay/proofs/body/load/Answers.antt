use mathlib.Core.Path.{refl, sym, ◌∙◌}
use native.Mathlib.Omega.{arith}
use Prim.Native.Nat.{◌-◌}
use Rattle.isa.proofs.Made.{made_none, made_more}
use Rattle.replay.proofs.Files.{copied}
use Rattle.replay.proofs.body.load.Goals as goal

pub loop-i-init : goal.loop-i-init
loop-i-init c = made_none c.requires

pub bounds-image-i : goal.bounds-image-i
bounds-image-i c = let l = c.loop-i in omega (arith, l.invariant.sized)

pub loop-i-preserved : goal.loop-i-preserved
loop-i-preserved c = made_more c.loop-i.invariant (omega arith) _ refl

pub shape_of-image : goal.shape_of-image
shape_of-image c = c.loop-i.invariant.sized ∙ sym c.requires

pub returns : goal.returns
returns c = copied _ _ _ c.loop-i.invariant c.loop-i-test.false
