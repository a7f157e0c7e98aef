-- By the byte at the place.
use mathlib.Core.Path.{sym}
use native.Mathlib.Omega.{arith}
use Rattle.grammar.proofs.Packed.{digit-past, digit-below, digit-above, digit-there}
use Rattle.letters.proofs.texts.digit_at.Goals as goal

pub returns-then-s-at : goal.returns-then-s-at
returns-then-s-at c = (sym (digit-past c.args.s.now c.args.at c.if-s-at.true), tt)

pub returns-then-b-lt48 : goal.returns-then-b-lt48
returns-then-b-lt48 c = (sym (digit-below c.args.s.now c.args.at c.if-s-at.false c.if-b-lt48.true), tt)

pub returns-then-b-gt57 : goal.returns-then-b-gt57
returns-then-b-gt57 c = (sym (digit-above c.args.s.now c.args.at c.if-s-at.false c.if-b-gt57.true), tt)

pub returns : goal.returns
returns c = (sym (digit-there c.args.s.now c.args.at c.if-s-at.false c.if-b-lt48.false c.if-b-gt57.false), omega (arith, c.if-b-gt57.false))
