use native.Mathlib.Omega.{arith}
use Rattle.replay.proofs.Files.{alike-more}
use Rattle.replay.proofs.compare.alike.Goals as goal

pub loop-at-init : goal.loop-at-init
loop-at-init c = (omega arith, omega arith, λ i h. absurd (omega arith))

pub same_block-requires : goal.same_block-requires
same_block-requires c = let same = c.requires in (omega (arith, c.loop-at.invariant.0), omega (arith, c.loop-at.invariant.0, same))

pub returns-then-not-same_block : goal.returns-then-not-same_block
returns-then-not-same_block c = let l = c.loop-at in (l.invariant.1, l.invariant.2)

pub loop-at-preserved : goal.loop-at-preserved
loop-at-preserved c = let l = c.loop-at in
    (omega (arith, l.invariant.0), omega (arith, l.invariant.0), alike-more _ _ l.at 512 l.invariant.2 (c.same_block.ensures c.if-not-same_block.false))

pub returns-else-not-same_block : goal.returns-else-not-same_block
returns-else-not-same_block c = let l = c.loop-at in
    (omega arith, λ i h. alike-more _ _ l.at 512 l.invariant.2 (c.same_block.ensures c.if-not-same_block.false) i (omega (arith, l.invariant.0)))

pub returns : goal.returns
returns c = let l = c.loop-at in (omega arith, λ i h. l.invariant.2 i (omega arith))
