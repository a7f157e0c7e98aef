use mathlib.Core.Path.{sym, ap, ◌∙◌}
use native.Mathlib.Omega.{arith}
use Rattle.isa.specs.declared.types.MulGroup.{MulGroup}
use Rattle.isa.specs.declared.types.Op.{Op}
use Rattle.isa.specs.declared.types.Decoded.{Decoded}
use Rattle.codec.proofs.Keys.{is-group, outside-start}
use Rattle.codec.proofs.decoder.decode_start.Goals as goal

pub returns-in-0 : goal.returns-in-0
returns-in-0 c = ap (λ (a : MulGroup). Decoded.Operation (Op.Sqdmulh a)) c.read_group-a.ensures
    ∙ sym (is-group c.args.word (omega arith) c.args.group c.requires.0 c.requires.1.0 c.requires.1.1 (omega (arith, c.by_group-low.ensures.0)))

pub returns-in_default : goal.returns-in_default
returns-in_default c = sym (outside-start c.args.word c.args.group (omega arith) c.requires.0 c.requires.1.1 (λ z. omega (arith, c.by_group-low.ensures.0)))
