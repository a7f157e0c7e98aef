use mathlib.Core.Path.{◌≡◌, refl, ap, ◌∙◌}
use native.Mathlib.Omega.{arith}
use Prim.Native.Nat.{◌+◌, ◌*◌, ◌%◌, ◌-◌}
use Rattle.isa.specs.Bytes.{word_at}
use Rattle.isa.proofs.Made.{made_none, made_more}
use Rattle.replay.proofs.program.words_at.Goals as goal

pub loop-i-init : goal.loop-i-init
loop-i-init c = (made_none refl, omega arith)

pub overflow_add-at : goal.overflow_add-at
overflow_add-at c = omega arith

pub word_at-requires : goal.word_at-requires
word_at-requires c = omega arith

pub bounds-words-i : goal.bounds-words-i
bounds-words-i c = omega arith

pub loop-i-preserved : goal.loop-i-preserved
loop-i-preserved c = let l = c.loop-i in
    let a = c.args in
    let place : a.at + l.i * 4 % 18446744073709551616 ≡ a.at + 4 * l.i = omega arith in
    (made_more l.invariant.0 (omega arith) _ (c.word_at.ensures ∙ ap (word_at a.bytes.now) place), omega arith)

pub returns : goal.returns
returns c = let m = c.loop-i.invariant.0 in
    record { there = omega (arith, m.sized, c.requires.0); each = λ i h. m.at i (omega (arith, c.loop-i-test.false)) }
