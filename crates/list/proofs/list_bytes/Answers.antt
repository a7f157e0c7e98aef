-- The text that is written lies within the buffer.
use Rattle.std.proofs.Common.{sym}
use Rattle.std.proofs.Math.Seq.{length-take-le}
use Rattle.listing.proofs.Parts.{text-within}
use Rattle.list.proofs.list_bytes.Goals as goal

pub slice_bounds-write_all-end : goal.slice_bounds-write_all-end
slice_bounds-write_all-end c =
    text-within c.args.done c.args.bytes.now c.args.last c.args.out.now c.in-Some.part c.list_part.ensures c.in-Some.is

pub slice_bounds-write_all-end-2 : goal.slice_bounds-write_all-end-2
slice_bounds-write_all-end-2 c =
    sym
    (length-take-le _ _
    (text-within c.args.done c.args.bytes.now c.args.last c.args.out.now c.in-Some.part c.list_part.ensures c.in-Some.is))
