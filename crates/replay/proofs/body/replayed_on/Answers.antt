-- The run on the copy is the run on the file.
use mathlib.Core.Path.{sym, ap, ◌∙◌}
use lib.ListN.{length}
use Rattle.replay.proofs.Parts.{stopped-verdict, refused-verdict, done-verdict}
use Rattle.replay.proofs.body.replayed_on.Goals as goal

pub run_bytes-ran-requires : goal.run_bytes-ran-requires
run_bytes-ran-requires c = record { held = record { ok = c.requires.parts.ok; sized = ap length c.copy_from_slice.ensures.after ∙ c.requires.parts.sized }; bytes_len_bound = c.requires.parts.few }

pub returns-in-Outside : goal.returns-in-Outside
returns-in-Outside c = let a = c.args in
    stopped-verdict a.l a.before a.file.now a.words.now a.after a.left.now c.run_bytes-ran.result _ _ c.copy_from_slice.ensures.after c.run_bytes-ran.ensures _ c.in-Outside.is

pub returns-in-Reserved : goal.returns-in-Reserved
returns-in-Reserved c = let a = c.args in
    stopped-verdict a.l a.before a.file.now a.words.now a.after a.left.now c.run_bytes-ran.result _ _ c.copy_from_slice.ensures.after c.run_bytes-ran.ensures _ c.in-Reserved.is

pub returns-in-BadLength : goal.returns-in-BadLength
returns-in-BadLength c = let a = c.args in
    refused-verdict a.l a.before a.file.now a.words.now a.after a.left.now c.run_bytes-ran.result _ _ c.copy_from_slice.ensures.after c.run_bytes-ran.ensures c.in-BadLength.is

pub compare-requires : goal.compare-requires
compare-requires c = let size = c.run_bytes-ran.auto.file ∙ ap length c.copy_from_slice.ensures.after ∙ c.requires.parts.sized in
    c.requires.parts.beside ∙ sym size

pub returns-in-Done : goal.returns-in-Done
returns-in-Done c = let a = c.args in
    c.compare.ensures
    ∙ done-verdict a.l a.before a.file.now a.words.now a.after a.left.now c.run_bytes-ran.result _ _ c.copy_from_slice.ensures.after c.run_bytes-ran.ensures c.in-Done.is
    c.flags.result c.flags.ensures
