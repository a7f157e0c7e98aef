use native.Mathlib.Omega.{arith}
use mathlib.Core.Path.{ap}
use Rattle.listing.specs.Listing.{name_of}
use Rattle.listing.proofs.Lines.{name-short, line_wrote}
use Rattle.listing.proofs.put_line.Goals as goal

pub put_text-requires : goal.put_text-requires
put_text-requires c = omega (
  arith,
  c.requires,
  name-short c.decode.result,
  c.put_name-end.ensures.past,
  c.put_name-end.auto,
  c.put_text-named.ensures.past,
  c.put_text-named.auto,
)

pub returns : goal.returns
returns c = line_wrote c.args.word c.requires c.hex_of-hex.ensures (ap name_of c.decode.ensures)
    c.put_text-named.ensures c.put_name-end.ensures c.put_text.ensures
