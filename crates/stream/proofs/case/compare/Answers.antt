-- The first byte that differs, where the comparison is open.
use mathlib.Core.Path.{sym, ap, ◌∙◌}
use native.Mathlib.Omega.{arith}
use Rattle.trace.specs.declared.types.Verdict.{Verdict}
use Rattle.trace.proofs.Compared.{compared_same, compared-differs}
use Rattle.stream.proofs.Known.{open-picked, closed-picked}
use Rattle.stream.proofs.case.compare.Goals as goal

pub returns-then-i-left : goal.returns-then-i-left
returns-then-i-left c = let d = c.first_difference-i.ensures in
    let a = c.args in
    ap (λ (v : Verdict). record { said = v; qc = a.s.qc })
    (sym (open-picked _ _ a.s.said (sym c.is_open.ensures ∙ c.if-is_open.true)
    ∙ compared-differs a.s.said a.left.now a.bytes.now a.from c.first_difference-i.result c.requires.0 c.if-i-left.true d.alike (d.here c.if-i-left.true)))

pub returns-else-i-left : goal.returns-else-i-left
returns-else-i-left c = let d = c.first_difference-i.ensures in
    let a = c.args in
    ap (λ (v : Verdict). record { said = v; qc = a.s.qc })
    (sym (open-picked _ _ a.s.said (sym c.is_open.ensures ∙ c.if-is_open.true)
    ∙ compared_same a.s.said a.left.now a.bytes.now a.from c.requires.0 (λ i l. d.alike i (omega (arith, c.if-i-left.false)))))

pub returns-else-is_open : goal.returns-else-is_open
returns-else-is_open c = let a = c.args in
    ap (λ (v : Verdict). record { said = v; qc = a.s.qc }) (sym (closed-picked _ _ a.s.said (sym c.is_open.ensures ∙ c.if-is_open.false)))
