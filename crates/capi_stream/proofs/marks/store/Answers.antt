use mathlib.Core.Path.{sym, ap, ap₂, ◌∙◌}
use mathlib.Core.List.{List, ◌∷◌, ◌++◌}
use Prim.Native.Nat.{ℕ, ◌*◌}
use native.Mathlib.Omega.{arith}
use lib.ListN.{length, replicate}
use lib.Seq.{length-take-le}
use Rattle.trace.specs.Recorded.{fours_of}
use Rattle.capi_stream.specs.Marks.{marks_bytes}
use Rattle.capi_stream.proofs.Parts.{parts-put}
use Rattle.capi_stream.proofs.marks.store.Goals as goal
use Rattle.capi_stream.proofs.marks.store.Goals.{After-put_numbers-arg-1}

pub slice_bounds-put_numbers-end-2 : goal.slice_bounds-put_numbers-end-2
slice_bounds-put_numbers-end-2 c = sym (length-take-le 32 c.args.bytes.now (omega (arith, c.requires)))

pub put_numbers-requires : goal.put_numbers-requires
put_numbers-requires c = sym (slice_bounds-put_numbers-end-2 (goal.at.put_numbers-requires c).After-put_numbers-arg-1) ∙ ap (λ (r : List ℕ). 4 * length r) (sym c.numbers-all.ensures)

pub returns : goal.returns
unfolding marks_bytes
returns c = let course = c.args.m.course in
    let size = c.put_numbers.auto.bytes ∙ sym (slice_bounds-put_numbers-end-2 (goal.at.returns c).After-put_numbers-arg-1) in
    parts-put 32 c.args.bytes.now c.put_numbers.new.bytes c.put_bytes.new.bytes size
    ∙ ap₂ ◌++◌ (c.put_numbers.ensures ∙ ap fours_of c.numbers-all.ensures)
    (c.put_bytes.ensures ∙ ap (λ (x : ℕ). course.held ++ x ∷ replicate 27 0) c.said_byte.ensures)
