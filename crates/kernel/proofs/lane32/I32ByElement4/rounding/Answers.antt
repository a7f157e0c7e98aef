-- `kernel::lane32::I32ByElement4::rounding` meets its contract: the addend comes out of the definition's division, the sum fits, and past the range it has c's sign.
use Rattle.integer.proofs.Widen.{wide32, fits-cast, fits-rounded, read-rounded, toward-old-lane}
use Rattle.isa.specs.Register.{bits, bytes}
use Rattle.kernel.proofs.lane32.I32ByElement4.rounding.Goals as goal

pub overflow_cast-result : goal.overflow_cast-result
overflow_cast-result c = fits-cast wide32 c.ranges.c

pub overflow_add-result : goal.overflow_add-result
overflow_add-result c = search (fits-rounded wide32)

pub returns : goal.returns
unfolding bits bytes
returns c = let f = c.ranges in
    let sum = read-rounded wide32 c.args.minus f.a f.b f.c c.upper.type_inv c.upper.ensures in
    (sum, toward-old-lane wide32 c.args.minus f.a f.b sum)
