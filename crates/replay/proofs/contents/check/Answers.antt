-- The number of cases, the entries, then the length of the whole.
use mathlib.Core.Path.{◌≡◌, sym, ◌∙◌}
use native.Mathlib.Omega.{arith}
use Rattle.std.specs.Prelude.{Some, None}
use Rattle.trace.specs.declared.types.TraceRefusal.{TraceRefusal}
use Rattle.std.proofs.lemmas.Result.{err_from_is_err_and}
use Rattle.replay.proofs.Extent.{count_none, count-some}
use Rattle.replay.proofs.Answers.{accepted-none, accepted-refused, accepted-cases, accepted-total}
use Rattle.replay.proofs.contents.check.Goals as goal

pub returns-in_err-cases : goal.returns-in_err-cases
returns-in_err-cases c =
    let none : c.count.result ≡ None = grind arith in
    let p = err_from_is_err_and c.from_residual.result c.from_residual.ensures.1 in
    let why : c.in_err-cases.field-0.0 ≡ TraceRefusal.BadContents = grind arith in
    rw (p.1, p.2, why) (accepted-none c.args.trace.now (count_none _ (sym c.count.ensures ∙ none)))

pub entries-requires : goal.entries-requires
entries-requires c =
    let some : c.count.result ≡ Some c.in_ok-cases.cases = grind arith in
    count-some c.args.trace.now _ (sym c.count.ensures ∙ some)

pub returns-in_err-total : goal.returns-in_err-total
returns-in_err-total c =
    let none : c.entries.result ≡ None = grind arith in
    let p = err_from_is_err_and c.from_residual-in_err-total.result c.from_residual-in_err-total.ensures.1 in
    let why : c.in_err-total.field-0.0 ≡ TraceRefusal.BadContents = grind arith in
    rw (p.1, p.2, why) (accepted-refused c.args.trace.now (sym c.entries.ensures ∙ none))

pub returns-then-trace-total : goal.returns-then-trace-total
returns-then-trace-total c = let t = c.args.trace.now in
    let some : c.count.result ≡ Some c.in_ok-cases.cases = grind arith in
    let total : c.entries.result ≡ Some c.in_ok-total.total = grind arith in
    accepted-cases t _ (sym c.entries.ensures ∙ total) _ (count-some t _ (sym c.count.ensures ∙ some)).same c.if-trace-total.true

pub returns : goal.returns
returns c =
    let total : c.entries.result ≡ Some c.in_ok-total.total = grind arith in
    accepted-total c.args.trace.now _ (sym c.entries.ensures ∙ total) c.if-trace-total.false
