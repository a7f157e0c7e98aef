-- The three tests, all of which are made.
use native.Mathlib.Omega.{arith}
use Rattle.isa.proofs.File.{legal-exact}
use Rattle.replay.proofs.Extent.{body-ends, body_refused, tested-length, tested-words}
use Rattle.replay.proofs.contents.body_end.Goals as goal

pub body_size-requires : goal.body_size-requires
body_size-requires c = let a = c.args in
    let l = tested-length a.l a.w a.start a.due c.is_legal.result c.is_legal.ensures c.if-is_legal-w.true in
    (((legal-exact a.l).0 l).most, tested-words a.l a.w a.start a.due c.is_legal.result c.is_legal.ensures c.if-is_legal-w.true)

pub overflow_add-result : goal.overflow_add-result
overflow_add-result c = let a = c.args in
    let l = tested-length a.l a.w a.start a.due c.is_legal.result c.is_legal.ensures c.if-is_legal-w.true in
    let w = tested-words a.l a.w a.start a.due c.is_legal.result c.is_legal.ensures c.if-is_legal-w.true in
    omega (arith, ((legal-exact a.l).0 l).most, w, c.body_size.ensures, c.requires)

pub returns-then-is_legal-w : goal.returns-then-is_legal-w
returns-then-is_legal-w c = let a = c.args in
    body-ends a.l a.w a.start a.due c.is_legal.result c.is_legal.ensures c.if-is_legal-w.true c.body_size.result c.body_size.ensures

pub returns : goal.returns
returns c = let a = c.args in
    body_refused a.l a.w a.start a.due c.is_legal.result c.is_legal.ensures c.if-is_legal-w.false
