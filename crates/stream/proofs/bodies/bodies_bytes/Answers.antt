-- Behind the last body, in the body of the case at hand, or in a state that no stream leaves.
use mathlib.Core.Path.{sym, ◌∙◌}
use Rattle.stream.proofs.Judged.{allowed-true}
use Rattle.stream.proofs.Rows.{image-part, one-taken, row-place, rows-past, rows_few, rows-allowed, rows-case}
use Rattle.stream.proofs.bodies.bodies_bytes.Goals as goal
use Rattle.stream.proofs.bodies.bodies_bytes.Goals.{then-case-lt1024+else-is_allowed, else-case-lt1024}

pub returns-then-m-case : goal.returns-then-m-case
returns-then-m-case c = let one = one-taken c.args.bytes.now _ _ c.requires.1 c.refused.ensures in
    (one.0, one.1, rows-past c.args.held.now c.args.m _ _ c.requires.1 c.if-m-case.true c.refused.ensures)

pub slice_bounds-case_bytes-end-then-is_allowed : goal.slice_bounds-case_bytes-end-then-is_allowed
slice_bounds-case_bytes-end-then-is_allowed c = sym (image-part c.args.held.now c.requires.0)

pub case_bytes-requires : goal.case_bytes-requires
case_bytes-requires c = let good = allowed-true _ _ _ (sym c.is_allowed.ensures ∙ c.if-is_allowed.true) in
    record { image_len = (image-part c.args.held.now c.requires.0, c.requires.1, c.if-case-lt1024.true); allowed = good }

pub returns-then-is_allowed : goal.returns-then-is_allowed
returns-then-is_allowed c = let r = c.case_bytes.ensures in (
  r.0,
  r.1,
  rows-case c.args.held.now c.args.m c.args.bytes.now _ c.if-m-case.false _ _ _ (row-place _ c.if-case-lt1024.true)
      (c.wide-l.ensures ∙ c.word_at.ensures)
      (c.wide-w.ensures ∙ c.word_at-then-case-lt1024.ensures) _ (c.case_bytes.auto.image ∙ image-part c.args.held.now c.requires.0) r.2,
)

pub returns : goal.returns
returns c = let one = one-taken c.args.bytes.now _ _ c.requires.1 c.refused-2.ensures in (
  one.0,
  one.1,
  elim c.if-case-lt1024.branch [
    | then-case-lt1024+else-is_allowed w ↦ rows-allowed c.args.held.now c.args.m c.args.bytes.now _ c.if-m-case.false _ _ _ (row-place _ w.if-case-lt1024.true)
        (w.wide-l.ensures ∙ w.word_at.ensures) (w.wide-w.ensures ∙ w.word_at-then-case-lt1024.ensures) (sym w.if-is_allowed.false ∙ w.is_allowed.ensures)
    | else-case-lt1024 w ↦ rows_few c.args.held.now c.args.m c.args.bytes.now _ c.if-m-case.false w.if-case-lt1024.false
  ],
)
