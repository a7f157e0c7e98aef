use mathlib.Core.Path.{sym, ◌∙◌}
use Rattle.fields.proofs.Named.{named-within, named_past}
use Rattle.fields.proofs.naming.named_by.Goals as goal

pub returns-then-within : goal.returns-then-within
returns-then-within c = c.family_named.ensures ∙ named-within c.args.n (sym c.within.ensures ∙ c.if-within.true)

pub returns-else-within : goal.returns-else-within
returns-else-within c = named_past c.args.n (sym c.within.ensures ∙ c.if-within.false)
