use mathlib.Core.Path.{sym, ◌∙◌}
use native.Mathlib.Omega.{arith}
use Rattle.grammar.proofs.Packed.{text-stands, looking-starts, looking-on, looking-found, looking-ends}
use Rattle.letters.proofs.texts.starting_with.Goals as goal

pub loop-v-init : goal.loop-v-init
loop-v-init c = λ x p. looking-starts x c.args.b

pub text_in-requires : goal.text_in-requires
text_in-requires c = (c.requires, omega (arith, c.count_in-v-end.ensures, c.loop-v-test.true))

pub returns-then-text_in-wide : goal.returns-then-text_in-wide
returns-then-text_in-wide c = let v = c.loop-v.v in
    λ x p.
    looking-found x c.args.b v p.low (c.loop-v.invariant x p) c.text_in.result (text-stands v p (omega (arith, c.count_in-v-end.ensures, c.loop-v-test.true)) c.text_in.ensures)
    (omega (arith, c.count_in-v-end.ensures, p.is, c.loop-v-test.true)) (c.if-text_in-wide.true ∙ c.wide.ensures)

pub loop-v-preserved : goal.loop-v-preserved
loop-v-preserved c = let v = c.loop-v.v in
    λ x p.
    looking-on x c.args.b v p.low (c.loop-v.invariant x p) c.text_in.result (text-stands v p (omega (arith, c.count_in-v-end.ensures, c.loop-v-test.true)) c.text_in.ensures)
    (omega (arith, c.count_in-v-end.ensures, p.is, c.loop-v-test.true)) (λ e. c.if-text_in-wide.false (e ∙ sym c.wide.ensures))

pub returns : goal.returns
returns c = λ x p. looking-ends x c.args.b c.loop-v.v p.low (c.loop-v.invariant x p) (omega (arith, c.count_in-v-end.ensures, p.is, c.loop-v-test.false))
