use native.Mathlib.Omega.{arith}
use mathlib.Core.Path.{ap}
use lib.ListN.{length}
use Rattle.listing.proofs.Decimal.{decimal-one, decimal-longer, decimal-wrote-one, decimal-wrote-more}
use Rattle.listing.proofs.+put_decimal.Goals as goal

pub put_text-requires : goal.put_text-requires
put_text-requires t c = omega (arith, ap length (decimal-one c.args.n c.if-n-lt10.true), c.requires)

pub returns-then-n-lt10 : goal.returns-then-n-lt10
returns-then-n-lt10 t c = decimal-wrote-one c.args.n c.if-n-lt10.true c.digit.ensures c.put_text.ensures

pub put_decimal-last-requires : goal.put_decimal-last-requires
put_decimal-last-requires t c =
    let longer = decimal-longer c.args.n c.if-n-lt10.false in
    (omega (arith, c.requires), omega (arith, c.requires))

pub put_text-requires-2 : goal.put_text-requires-2
put_text-requires-2 t c =
    omega (arith, decimal-longer c.args.n c.if-n-lt10.false, c.requires, c.put_decimal-last.ensures.past, c.put_decimal-last.auto)

pub returns : goal.returns
returns t c = decimal-wrote-more c.args.n c.if-n-lt10.false c.requires c.digit-2.ensures c.put_decimal-last.ensures c.put_text-2.ensures
