use mathlib.Core.Path.{sym, ◌∙◌}
use native.Mathlib.Omega.{arith}
use Prim.Native.Nat.{◌-◌}
use Rattle.replay.proofs.Extent.{entries-starts, entries-short, entries-on, entries-refused, entries-ends}
use Rattle.replay.proofs.contents.entries.Goals as goal

pub loop-k-init : goal.loop-k-init
loop-k-init c = entries-starts c.args.trace.now c.args.cases c.requires _ c.entry_place-due.ensures

pub entry-requires : goal.entry-requires
entry-requires c = (omega (arith, c.loop-k-test.true, c.requires.few), entries-short c.args.trace.now c.args.cases c.requires c.loop-k.due c.loop-k.k c.loop-k.invariant)

pub returns-in_err-due : goal.returns-in_err-due
returns-in_err-due c = c.from_residual.ensures
    ∙ entries-refused c.args.trace.now c.args.cases c.requires c.loop-k.due c.loop-k.k c.loop-k.invariant c.loop-k-test.true (sym c.entry.ensures ∙ c.in_err-due.was)

pub loop-k-preserved : goal.loop-k-preserved
loop-k-preserved c = entries-on c.args.trace.now c.args.cases c.requires c.loop-k.due c.loop-k.k c.loop-k.invariant c.loop-k-test.true _
    (sym c.entry.ensures ∙ c.in_ok-due.was)

pub returns : goal.returns
returns c = entries-ends c.args.trace.now c.args.cases c.requires c.loop-k.due c.loop-k.k c.loop-k.invariant c.loop-k-test.false
