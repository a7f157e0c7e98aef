-- The entry's numbers are read where the check has seen them, and the body is cut out.
use mathlib.Core.Path.{◌∙◌}
use native.Mathlib.Omega.{arith}
use Rattle.replay.proofs.Answers.{asked-contents, asked-there, asked-short, read_small, read-within, read_whole, read-case}
use Rattle.replay.proofs.contents.case_verdict.Goals as goal

pub entry_place-at-requires : goal.entry_place-at-requires
entry_place-at-requires c = omega (arith, (asked-contents c.args.trace.now c.args.n c.requires).few, c.requires.below)

pub word_at-requires : goal.word_at-requires
word_at-requires c = omega (arith, c.entry_place-at.ensures, asked-there c.args.trace.now c.args.n c.requires)

pub word_at-requires-2 : goal.word_at-requires-2
word_at-requires-2 c = omega (arith, c.entry_place-at.ensures, asked-there c.args.trace.now c.args.n c.requires)

pub word_at-requires-3 : goal.word_at-requires-3
word_at-requires-3 c = omega (arith, c.entry_place-at.ensures, asked-there c.args.trace.now c.args.n c.requires)

pub body_size-requires : goal.body_size-requires
body_size-requires c = read_small c.args.trace.now c.args.n c.requires c.entry_place-at.result c.wide-l.result c.wide-w.result c.wide-start.result c.entry_place-at.ensures
    (c.wide-l.ensures ∙ c.word_at.ensures) (c.wide-w.ensures ∙ c.word_at-2.ensures) (c.wide-start.ensures ∙ c.word_at-3.ensures)

pub overflow_add-end : goal.overflow_add-end
overflow_add-end c = let end = read-within c.args.trace.now c.args.n c.requires c.entry_place-at.result c.wide-l.result c.wide-w.result c.wide-start.result c.entry_place-at.ensures
    (c.wide-l.ensures ∙ c.word_at.ensures) (c.wide-w.ensures ∙ c.word_at-2.ensures) (c.wide-start.ensures ∙ c.word_at-3.ensures) c.body_size.result c.body_size.ensures in
    omega (arith, end, asked-short c.args.trace.now c.args.n c.requires)

pub slice_bounds-verdict-end : goal.slice_bounds-verdict-end
slice_bounds-verdict-end c = read-within c.args.trace.now c.args.n c.requires c.entry_place-at.result c.wide-l.result c.wide-w.result c.wide-start.result c.entry_place-at.ensures
    (c.wide-l.ensures ∙ c.word_at.ensures) (c.wide-w.ensures ∙ c.word_at-2.ensures) (c.wide-start.ensures ∙ c.word_at-3.ensures) c.body_size.result c.body_size.ensures

pub verdict-requires : goal.verdict-requires
verdict-requires c = read_whole c.args.trace.now c.args.n c.requires c.entry_place-at.result c.wide-l.result c.wide-w.result c.wide-start.result c.entry_place-at.ensures
    (c.wide-l.ensures ∙ c.word_at.ensures) (c.wide-w.ensures ∙ c.word_at-2.ensures) (c.wide-start.ensures ∙ c.word_at-3.ensures) c.body_size.result c.body_size.ensures

pub returns : goal.returns
returns c = c.verdict.ensures
    ∙ read-case c.args.trace.now c.args.n c.requires c.entry_place-at.result c.wide-l.result c.wide-w.result c.wide-start.result c.entry_place-at.ensures
    (c.wide-l.ensures ∙ c.word_at.ensures) (c.wide-w.ensures ∙ c.word_at-2.ensures) (c.wide-start.ensures ∙ c.word_at-3.ensures) c.body_size.result c.body_size.ensures
