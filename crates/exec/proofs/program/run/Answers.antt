-- `exec::program::run` meets its contract: the checks in their order, then the run.
use mathlib.Core.Path.{sym, ◌∙◌}
use native.Mathlib.Omega.{arith}
use lib.ListN.{length}
use Rattle.std.specs.Prelude.{Err}
use Rattle.isa.proofs.FileChecks.{passed-exact}
use Rattle.isa.proofs.Going.{outcome-of, outcome-long, outcome-runs}
use Rattle.exec.proofs.program.run.Goals as goal

pub returns-in-Err : goal.returns-in-Err
returns-in-Err c = let a = c.args in
    (λ t. record { answer = (c.refused.ensures ∙ (λ u. record { ending = c.from.ensures u; done = 0; qc = a.qc })) t; file = a.file.now })
    ∙ outcome-of a.l a.file.now a.qc a.words.now (Err c.in-Err.refusal) (sym c.check_size.ensures ∙ c.in-Err.is)

pub returns-then-words-gt4096 : goal.returns-then-words-gt4096
returns-then-words-gt4096 c = let a = c.args in
    (λ t. record { answer = c.refused-then-words-gt4096.ensures t; file = a.file.now })
    ∙ outcome-long a.l a.file.now a.qc a.words.now (sym c.check_size.ensures ∙ c.in_default.is) (omega (arith, c.if-words-gt4096.true))

pub run_words-requires : goal.run_words-requires
run_words-requires c = let a = c.args in
    let p = passed-exact a.l (length a.file.now) (sym c.check_size.ensures ∙ c.in_default.is) in
    record { held = record { ok = p.0; sized = p.1 }; words_len_bound = c.if-words-gt4096.false }

pub returns : goal.returns
returns c = let a = c.args in
    c.run_words.ensures
    ∙ outcome-runs a.l a.file.now a.qc a.words.now (sym c.check_size.ensures ∙ c.in_default.is) c.if-words-gt4096.false
