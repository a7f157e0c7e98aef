use borrow.Enum.Refused.{opened}
use mathlib.Core.Path.{sym, ◌∙◌}
use native.Mathlib.Omega.{arith}
use lib.ListN.{length-take, length-drop}
use Rattle.stream.proofs.Feeding.{taking-starts, taking-within, taking-on, taking-stops, taking-ends}
use Rattle.stream.proofs.feed.take.Goals as goal

pub loop-at-init : goal.loop-at-init
loop-at-init c = taking-starts c.args.held.now c.args.m c.args.bytes.now c.requires

pub step-stepped-requires : goal.step-stepped-requires
step-stepped-requires c = (c.loop-at.invariant.sized, simp (length-take, length-drop) (omega (arith, c.loop-at-test.true)))

pub overflow_add-at : goal.overflow_add-at
overflow_add-at c = omega (arith, taking-within c.loop-at.invariant c.step-stepped.ensures, c.well_formed)

pub loop-at-smaller : goal.loop-at-smaller
loop-at-smaller c = omega (arith, c.step-stepped.ensures.some, c.loop-at-test.true)

pub loop-at-preserved : goal.loop-at-preserved
loop-at-preserved c = taking-on c.loop-at.invariant c.step-stepped.ensures c.step-stepped.auto.held c.in-Nothing.is

pub shape_of-held-in_default : goal.shape_of-held-in_default
shape_of-held-in_default c = c.step-stepped.auto.held ∙ c.loop-at.invariant.sized ∙ sym c.requires

pub returns-in_default : goal.returns-in_default
returns-in_default c = taking-stops c.loop-at.invariant c.step-stepped.ensures (opened c.in_default.in_default-own.keys2)

pub shape_of-held : goal.shape_of-held
shape_of-held c = c.loop-at.invariant.sized ∙ sym c.requires

pub returns : goal.returns
returns c = taking-ends c.loop-at.invariant c.loop-at-test.false
