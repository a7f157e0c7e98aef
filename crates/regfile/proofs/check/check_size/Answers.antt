-- `regfile::check::check_size` meets its contract: each branch is one answer of the definition.
use mathlib.Core.Path.{sym, ◌∙◌}
use native.Mathlib.Omega.{arith}
use borrow.Author.Tests.{eqb-true, eqb-false}
use Rattle.isa.proofs.Fields.{and_left, and_right}
use Rattle.isa.proofs.File.{legal-exact, and-other}
use Rattle.isa.proofs.FileChecks.{check-length, check-power, check-size, check-passed}
use Rattle.regfile.proofs.check.check_size.Goals as goal

pub returns-then-legal-size : goal.returns-then-legal-size
returns-then-legal-size c = let a = c.args in
    let ok = sym c.is_legal-legal.ensures ∙ and_left c.is_legal-legal.result _ c.if-legal-size.true in
    let same = eqb-true a.size _ (and_right c.is_legal-legal.result _ c.if-legal-size.true) in
    sym (check-passed a.l a.size ok (omega (arith, same, ((legal-exact a.l).0 ok).most)))

pub returns-then-legal : goal.returns-then-legal
returns-then-legal c = let a = c.args in
    let ok = sym c.is_legal-legal.ensures ∙ c.if-legal.true in
    let other = eqb-false a.size _ (and-other c.is_legal-legal.result _ c.if-legal-size.false c.if-legal.true) in
    sym (check-size a.l a.size ok (λ e. other (omega (arith, e, ((legal-exact a.l).0 ok).most))))

pub returns-then-is_multiple : goal.returns-then-is_multiple
returns-then-is_multiple c = let a = c.args in
    sym (check-power a.l a.size (sym c.is_multiple.ensures ∙ c.if-is_multiple.true) (sym c.is_legal-legal.ensures ∙ c.if-legal.false))

pub returns : goal.returns
returns c = let a = c.args in
    sym (check-length a.l a.size (sym c.is_multiple.ensures ∙ c.if-is_multiple.false))
