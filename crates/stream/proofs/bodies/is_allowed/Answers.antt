-- A length and a word count that are allowed, then the size of the body.
use Rattle.isa.proofs.File.{legal-exact}
use Rattle.stream.proofs.Judged.{allowed-yes, allowed_at-leb, allowed-no}
use Rattle.stream.proofs.bodies.is_allowed.Goals as goal

pub body_size-requires : goal.body_size-requires
body_size-requires c = let a = allowed-yes _ _ c.is_legal.result c.is_legal.ensures c.if-is_legal-w.true in
    (((legal-exact _).0 a.ok).most, a.few)

pub returns-then-is_legal-w : goal.returns-then-is_legal-w
returns-then-is_legal-w c = allowed_at-leb _ _ c.is_legal.result c.is_legal.ensures c.args.at _ c.body_size.ensures c.if-is_legal-w.true

pub returns : goal.returns
returns c = allowed-no _ c.args.w c.is_legal.result c.is_legal.ensures c.args.at c.if-is_legal-w.false
