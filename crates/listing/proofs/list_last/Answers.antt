use Prim.Native.Nat.{◌/◌}
use native.Mathlib.Omega.{arith}
use lib.ListN.{length}
use Rattle.listing.specs.Listing.{tail_of}
use Rattle.listing.proofs.Decimal.{tail-short}
use Rattle.listing.proofs.Parts.{lines_fit, last-outcome}
use Rattle.listing.proofs.list_last.Goals as goal

pub put_tail-total-requires : goal.put_tail-total-requires
put_tail-total-requires c = let bytes = c.args.bytes.now in
    (omega arith, omega (arith, c.requires.bytes_in_bounds, lines_fit bytes (length bytes / 4), c.put_lines-tail.ensures.past, c.put_lines-tail.auto))

pub put_count-requires : goal.put_count-requires
put_count-requires c = let bytes = c.args.bytes.now in (
  c.requires.bytes_bound,
  omega (
    arith,
    c.requires.bytes_in_bounds,
    lines_fit bytes (length bytes / 4),
    tail-short (tail_of bytes) (omega arith),
    c.put_lines-tail.ensures.past,
    c.put_lines-tail.auto,
    c.put_tail-total.ensures.past,
    c.put_tail-total.auto,
  ),
)

pub returns : goal.returns
returns c = last-outcome c.args.done c.args.bytes.now c.requires.bytes_in_bounds c.requires.bytes_bound
    c.put_lines-tail.ensures c.put_tail-total.ensures c.put_count.ensures
