use native.Mathlib.Omega.{arith}
use Rattle.listing.proofs.Decimal.{decimal-short, count-wrote}
use Rattle.listing.proofs.put_count.Goals as goal

pub put_decimal-end-requires : goal.put_decimal-end-requires
put_decimal-end-requires c = omega (arith, decimal-short c.args.n c.requires.0, c.requires.1, c.put_text-number.ensures.past, c.put_text-number.auto)

pub put_text-requires : goal.put_text-requires
put_text-requires c = omega (
  arith,
  decimal-short c.args.n c.requires.0,
  c.requires.1,
  c.put_text-number.ensures.past,
  c.put_text-number.auto,
  c.put_decimal-end.ensures.past,
  c.put_decimal-end.auto,
)

pub returns : goal.returns
returns c = count-wrote c.args.n c.requires.0 c.requires.1 c.put_text-number.ensures c.put_decimal-end.ensures c.put_text.ensures
