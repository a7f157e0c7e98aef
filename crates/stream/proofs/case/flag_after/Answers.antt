-- A flag is 0 or 1, and what is known of the case stays.
use borrow.Enum.Refused.{opened}
use mathlib.Core.Path.{sym, ap, ◌∙◌}
use borrow.Author.Tests.{lt-ltb, le-ltb}
use Rattle.trace.specs.declared.types.Verdict.{Verdict}
use Rattle.stream.proofs.Known.{agrees-picked, known_picked}
use Rattle.stream.proofs.case.flag_after.Goals as goal

pub returns-in_default : goal.returns-in_default
returns-in_default c = let n = c.args.n in
    let s = c.args.s in
    rw (lt-ltb n 2 c.if-n-lt2.true) (ap (λ (v : Verdict). record { said = v; qc = s.qc }) (sym (known_picked _ s.said s.said (opened c.in_default.in_default-own.keys2))))

pub returns-then-n-lt2 : goal.returns-then-n-lt2
returns-then-n-lt2 c = let n = c.args.n in
    let s = c.args.s in
    rw (lt-ltb n 2 c.if-n-lt2.true)
    (ap (λ (v : Verdict). record { said = v; qc = s.qc }) (c.flags.ensures ∙ sym (agrees-picked _ s.said s.said c.in-Agrees.is)))

pub returns : goal.returns
returns c = rw (le-ltb c.args.n 2 c.if-n-lt2.false)
