-- The body goes on, or it is whole.
use lib.Seq.{length-take-le}
use mathlib.Core.Path.{sym, ◌∙◌}
use Rattle.isa.proofs.File.{legal-exact}
use Rattle.stream.proofs.Judged.{file-size, file-within, case-on, case-whole}
use Rattle.stream.proofs.bodies.case_bytes.Goals as goal

pub body_size-requires : goal.body_size-requires
body_size-requires c = (((legal-exact _).0 c.requires.allowed.0.ok).most, c.requires.allowed.0.few)

pub slice_bounds-fill-end : goal.slice_bounds-fill-end
slice_bounds-fill-end c = file-within c.args.l c.body_bytes-moved.new.image c.requires.allowed.0.ok (c.body_bytes-moved.auto.image ∙ c.requires.image_len.0)

pub slice_bounds-fill-end-then-course-body_size : goal.slice_bounds-fill-end-then-course-body_size
slice_bounds-fill-end-then-course-body_size c = sym (length-take-le _ _ (file-within c.args.l c.body_bytes-moved.new.image c.requires.allowed.0.ok (c.body_bytes-moved.auto.image ∙ c.requires.image_len.0)))

pub returns-then-course-body_size : goal.returns-then-course-body_size
returns-then-course-body_size c = let moved = c.body_bytes-moved.ensures in (
  moved.some,
  moved.most,
  case-whole c.args.l c.args.w _ c.args.m _ _ _ _ moved c.body_size.result c.body_size.ensures _ c.if-course-body_size.true _
      (file-size c.args.l c.requires.allowed.0.ok) _ (c.fill.ensures.after (λ y e. e)) _ c.fresh.ensures c.bodies.ensures,
)

pub returns : goal.returns
returns c = let moved = c.body_bytes-moved.ensures in (
  moved.some,
  moved.most,
  case-on c.args.l c.args.w _ c.args.m _ _ _ _ moved c.body_size.result c.body_size.ensures _ c.if-course-body_size.false
      c.bodies-2.ensures,
)
