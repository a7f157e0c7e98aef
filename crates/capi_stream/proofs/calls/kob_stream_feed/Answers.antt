use mathlib.Core.Path.{refl, sym, ◌∙◌}
use native.Mathlib.Omega.{arith}
use lib.Seq.{length-take-le}
use Rattle.capi_stream.proofs.Parts.{parts-put}
use Rattle.capi_stream.proofs.Called.{feed-called}
use Rattle.capi_stream.proofs.calls.kob_stream_feed.Goals as goal
use Rattle.capi_stream.proofs.calls.kob_stream_feed.Goals.{After-feed-arg-1}

pub returns-then-state-ne-SIZE : goal.returns-then-state-ne-SIZE
returns-then-state-ne-SIZE c = record { refused = λ other. (refl, refl); most = omega arith; answers = λ s k. absurd (c.if-state-ne-SIZE.true k.size) }

pub slice_bounds-feed-end-2 : goal.slice_bounds-feed-end-2
slice_bounds-feed-end-2 c = sym (length-take-le 20480 c.args.state.now (omega (arith, c.if-state-ne-SIZE.false)))

pub feed-stepped-requires : goal.feed-stepped-requires
feed-stepped-requires c = sym (slice_bounds-feed-end-2 c)

pub returns : goal.returns
returns c = let a = c.args in
    let size = c.feed-stepped.auto.held ∙ sym (slice_bounds-feed-end-2 (goal.at.returns c).After-feed-arg-1) in
    feed-called a.state.now c.if-state-ne-SIZE.false c.marks_of-marks.result c.marks_of-marks.ensures c.feed-stepped.new.held c.store.new.bytes _
    (parts-put 20480 a.state.now c.feed-stepped.new.held c.store.new.bytes size)
    a.bytes.now c.feed-stepped.result c.packed.result c.feed-stepped.ensures size c.store.ensures c.packed.ensures
