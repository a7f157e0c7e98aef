-- The flags, then the run of the parts.
use native.Mathlib.Omega.{arith}
use Prim.Native.Nat.{◌+◌, ◌*◌, ◌%◌}
use Rattle.isa.proofs.File.{legal-exact}
use Rattle.replay.proofs.Parts.{cut_parts, verdict-judged, verdict-refused}
use Rattle.replay.proofs.body.verdict.Goals as goal

pub replayed-requires : goal.replayed-requires
replayed-requires c = let a = c.args in
    let short = ((legal-exact a.l).0 c.requires.ok).most in
    let p = 4 + a.l * 4 % 18446744073709551616 in
    let f = p + a.w * 4 % 18446744073709551616 in
    cut_parts a.l a.w a.body.now c.requires p f (omega (arith, short)) (omega (arith, short, c.requires.few))

pub returns-then-before-after : goal.returns-then-before-after
returns-then-before-after c = let a = c.args in
    let short = ((legal-exact a.l).0 c.requires.ok).most in
    let p = 4 + a.l * 4 % 18446744073709551616 in
    let f = p + a.w * 4 % 18446744073709551616 in
    verdict-judged a.l a.w a.body.now c.requires p f (omega (arith, short)) (omega (arith, short, c.requires.few)) _ _ c.word_at-before.ensures c.word_at-after.ensures
    c.if-before-after.true c.replayed.result c.replayed.ensures

pub returns : goal.returns
returns c = let a = c.args in
    let short = ((legal-exact a.l).0 c.requires.ok).most in
    let p = 4 + a.l * 4 % 18446744073709551616 in
    let f = p + a.w * 4 % 18446744073709551616 in
    verdict-refused a.l a.w a.body.now c.requires p f (omega (arith, short)) (omega (arith, short, c.requires.few)) _ _ c.word_at-before.ensures c.word_at-after.ensures c.if-before-after.false
