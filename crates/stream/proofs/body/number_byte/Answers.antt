-- With the fourth byte the number is whole.
use native.Mathlib.Omega.{arith}
use Rattle.isa.proofs.File.{legal-exact}
use Rattle.stream.proofs.Padded.{padded-none}
use Rattle.stream.proofs.Moved.{ends_next, byte-on, byte-whole}
use Rattle.stream.proofs.body.number_byte.Goals as goal

pub overflow_add-at : goal.overflow_add-at
overflow_add-at c = omega (arith, c.requires.allowed.1.most, c.requires.allowed.0.few, ((legal-exact c.args.l).0 c.requires.allowed.0.ok).most)

pub number-standing-requires : goal.number-standing-requires
number-standing-requires c = record { image_len = (c.requires.image_len, c.with_byte-held.ensures.1); allowed = (c.requires.allowed.0, ends_next c.args.l c.args.w c.args.c.at c.requires.allowed.1 c.if-at-eq3.true) }

pub returns-then-at-eq3 : goal.returns-then-at-eq3
returns-then-at-eq3 c = let a = c.args in
    byte-whole a.l a.w a.image.now a.c a.b c.requires.allowed.1 _ c.with_byte-held.ensures.0 c.if-at-eq3.true _ _ c.number-standing.ensures _ (padded-none 4)

pub returns : goal.returns
returns c = let a = c.args in
    byte-on a.l a.w a.image.now a.c a.b c.requires.allowed.1 _ c.with_byte-held.ensures.0 c.if-at-eq3.false

pub overflow_add-result : goal.overflow_add-result
overflow_add-result c = omega (arith, c.requires.allowed.1.most, c.requires.allowed.0.few, ((legal-exact c.args.l).0 c.requires.allowed.0.ok).most)
