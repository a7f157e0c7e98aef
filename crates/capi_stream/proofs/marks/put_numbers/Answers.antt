use mathlib.Core.Path.{sym, ◌∙◌}
use Prim.Native.Nat.{◌-◌, ◌*◌, ◌%◌, ◌^◌}
use native.Mathlib.Omega.{arith}
use Rattle.capi_stream.proofs.Stored.{fours-none, fours-more, fours-all}
use Rattle.capi_stream.proofs.marks.put_numbers.Goals as goal

pub loop-i-init : goal.loop-i-init
loop-i-init c = fours-none _ _ c.requires

pub put-requires : goal.put-requires
put-requires c = omega (arith, c.loop-i.invariant.sized)

pub loop-i-preserved : goal.loop-i-preserved
loop-i-preserved c = fours-more _ _ _ (c.loop-i.i * 4 % 2 ^ 64) _ (omega (arith, c.loop-i.invariant.sized)) c.loop-i.invariant (omega arith) c.put.auto.bytes c.put.ensures

pub shape_of-bytes : goal.shape_of-bytes
shape_of-bytes c = c.loop-i.invariant.sized ∙ sym c.requires

pub returns : goal.returns
returns c = fours-all _ _ _ c.loop-i.invariant c.loop-i-test.false
