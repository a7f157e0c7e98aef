use mathlib.Core.Path.{◌≡◌}
use native.Mathlib.Omega.{arith}
use lib.ListN.{get_or}
use Rattle.std.proofs.Common.{rules}
use Rattle.std.proofs.lemmas.List.{take_all}
use Rattle.isa.specs.Decode.{decode_of}
use Rattle.isa.specs.Run.{start}
use Rattle.isa.proofs.File.{legal-exact}
use Rattle.exec.specs.Step.{stepped_of, file_after}
use Rattle.exec.proofs.Words.{words-on, words-stop, words-end, same-more, same-end, same-step}
use Rattle.exec.proofs.program.run_words.Goals as goal
use Rattle.exec.proofs.program.run_words.Goals.{After-step_word}

pub new-layout-requires : goal.new-layout-requires
new-layout-requires c = omega (arith, ((legal-exact c.args.l).0 c.requires.held.ok).most)

-- the layout is that of the length, and the words that the loop goes over are the program's. `take_all`: also where it goes over a part that is the whole, so
-- that an edit which leaves words out is refused for these.
stepped : (c : After-step_word) →
    (c.step_word.result ≡ stepped_of (decode_of (get_or c.args.words.now c.loop-word.word-index 0)) c.args.l c.loop-word.file c.loop-word.carried)
    × (c.step_word.new.file ≡ file_after (decode_of (get_or c.args.words.now c.loop-word.word-index 0)) c.args.l c.loop-word.file)
stepped c = same-step _ c.args.words.now c.loop-word.word-index _ c.args.l c.loop-word.carried c.loop-word.file c.step_word.result _ (search (rules, take_all)) c.new-layout.ensures c.step_word.ensures

pub returns-in-Err : goal.returns-in-Err
returns-in-Err c = let a = c.args in
    words-stop a.l a.words.now (start a.file.now a.qc) c.loop-word.file c.loop-word.carried c.loop-word.word-index c.loop-word.invariant
    (same-more _ a.words.now c.loop-word.word-index (search (rules, take_all)) c.loop-word-test.true) c.in-Err.ran c.step_word.result _ (stepped (goal.at.returns-in-Err c).After-step_word) c.in-Err.is

pub loop-word-preserved : goal.loop-word-preserved
loop-word-preserved c = let a = c.args in
    words-on a.l a.words.now (start a.file.now a.qc) c.loop-word.file c.loop-word.carried c.loop-word.word-index c.loop-word.invariant
    (same-more _ a.words.now c.loop-word.word-index (search (rules, take_all)) c.loop-word-test.true) c.in-Ok.next c.step_word.result _ (stepped (goal.at.loop-word-preserved c).After-step_word) c.in-Ok.is

pub returns : goal.returns
returns c = let a = c.args in
    words-end a.l a.words.now (start a.file.now a.qc) c.loop-word.file c.loop-word.carried c.loop-word.word-index c.loop-word.invariant
    (same-end _ a.words.now c.loop-word.word-index (search (rules, take_all)) c.loop-word-test.false) c.ran.result c.ran.ensures
