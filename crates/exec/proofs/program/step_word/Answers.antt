-- `exec::program::step_word` meets its contract: what a word decodes to is valid.
use borrow.Enum.Refused.{opened}
use mathlib.Core.Path.{sym, ◌∙◌}
use Rattle.isa.specs.Decode.{decode_of}
use Rattle.isa.proofs.Valid.{decoded-valid}
use Rattle.exec.proofs.Words.{refused-word, done-word}
use Rattle.exec.proofs.program.step_word.Goals as goal

pub returns-in_default : goal.returns-in_default
returns-in_default c = let a = c.args in
    refused-word a.layout.now.l a.file.now a.carried c.decode-decoded.result (decode_of a.word) c.refusal.result c.ran.result (opened c.in_default.in_default-own.keys2)
    c.decode-decoded.ensures c.refusal.ensures c.ran.ensures

pub step-clamped-requires : goal.step-clamped-requires
step-clamped-requires c = record { held = c.requires.held; valid = decoded-valid c.args.word c.in-Operation.op (sym c.decode-decoded.ensures ∙ c.in-Operation.is) }

pub returns : goal.returns
returns c = let a = c.args in
    done-word a.layout.now.l a.file.now a.carried (decode_of a.word) c.in-Operation.op _ c.step-clamped.result c.counted.result
    (sym c.decode-decoded.ensures ∙ c.in-Operation.is) c.step-clamped.ensures c.counted.ensures
