use mathlib.Core.Path.{sym, ap}
use Rattle.codec.specs.Base.{form_base}
use borrow.Author.Rules.{rules}
use Rattle.codec.proofs.encoder.form_base.Goals as goal

pub returns-in-Vector128 : goal.returns-in-Vector128
returns-in-Vector128 c = (sym (ap (form_base c.args.scalar c.args.vector) c.in-Vector128.is), search rules)
