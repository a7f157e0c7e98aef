-- What the check answered, then whether there is such a case.
use mathlib.Core.Path.{◌≡◌, sym, ◌∙◌}
use Rattle.std.proofs.lemmas.Result.{err_from_is_err_and}
use Rattle.std.specs.Prelude.{Err}
use Rattle.replay.proofs.Answers.{judged-as, judged-case, judged-none, judged-asked}
use Rattle.replay.proofs.contents.judge.Goals as goal

pub returns-in_err-cases : goal.returns-in_err-cases
returns-in_err-cases c =
    let p = err_from_is_err_and c.from_residual.result c.from_residual.ensures.1 in
    rw (p.1, p.2) (judged-as c.args.trace.now (Err c.in_err-cases.field-0.0) c.args.n (sym c.check.ensures ∙ c.in_err-cases.was))

pub returns-then-cases-n : goal.returns-then-cases-n
returns-then-cases-n c = judged-none c.args.trace.now _ c.args.n (sym c.check.ensures ∙ c.in_ok-cases.was) c.if-cases-n.true

pub case_verdict-requires : goal.case_verdict-requires
case_verdict-requires c = judged-asked c.args.trace.now _ c.args.n (sym c.check.ensures ∙ c.in_ok-cases.was) c.if-cases-n.false

pub returns : goal.returns
returns c = judged-case c.args.trace.now _ c.args.n (sym c.check.ensures ∙ c.in_ok-cases.was) c.case_verdict.result c.case_verdict.ensures c.if-cases-n.false
