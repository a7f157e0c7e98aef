use native.Mathlib.Omega.{arith}
use Rattle.listing.proofs.Parts.{lines_fit, over-outcome}
use Rattle.listing.proofs.list_over.Goals as goal

pub put_text-requires : goal.put_text-requires
put_text-requires c = omega (
  arith,
  c.requires.bytes_in_bounds,
  lines_fit c.args.bytes.now c.words_left-left.result,
  c.put_lines-end.ensures.past,
  c.put_lines-end.auto,
)

pub returns : goal.returns
returns c = over-outcome c.args.done c.args.bytes.now c.requires.bytes_in_bounds c.words_left-left.ensures
    c.put_lines-end.ensures c.put_text.ensures
