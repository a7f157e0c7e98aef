use mathlib.Core.Path.{refl, sym, ◌∙◌}
use native.Mathlib.Omega.{arith}
use lib.Seq.{length-take-le}
use Rattle.capi_stream.proofs.Parts.{parts-put}
use Rattle.capi_stream.proofs.Called.{end-called}
use Rattle.capi_stream.proofs.calls.kob_stream_end.Goals as goal
use Rattle.capi_stream.proofs.calls.kob_stream_end.Goals.{After-fill-arg-1}

pub returns-then-state-ne-SIZE : goal.returns-then-state-ne-SIZE
returns-then-state-ne-SIZE c = record { refused = λ other. (refl, refl); answers = λ s k. absurd (c.if-state-ne-SIZE.true k.size) }

pub slice_bounds-fill-end-2 : goal.slice_bounds-fill-end-2
slice_bounds-fill-end-2 c = sym (length-take-le 20480 c.args.state.now (omega (arith, c.if-state-ne-SIZE.false)))

pub returns : goal.returns
returns c = let a = c.args in
    let size = c.fill.auto.self ∙ sym (slice_bounds-fill-end-2 (goal.at.returns c).After-fill-arg-1) in
    end-called a.state.now c.if-state-ne-SIZE.false c.marks_of-marks.result c.marks_of-marks.ensures c.fill.new.self c.store.new.bytes _
    (parts-put 20480 a.state.now c.fill.new.self c.store.new.bytes size)
    c.close-end.result c.ended.result c.end_number.result c.close-end.ensures (c.fill.ensures.after (λ y e. e)) c.store.ensures c.ended.ensures
    c.end_number.ensures
