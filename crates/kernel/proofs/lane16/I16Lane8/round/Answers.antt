-- `kernel::lane16::I16Lane8::round` meets its contract: the rounded sum, clamped.
use Rattle.integer.specs.Number.{clamp}
use Rattle.integer.specs.Lane.{saturated}
use Rattle.integer.proofs.Widen.{wide16, read_through, rounded-sum}
use Rattle.isa.specs.Register.{bits, bytes}
use Rattle.kernel.proofs.lane16.I16Lane8.round.Goals as goal

pub returns : goal.returns
unfolding saturated bits bytes
returns c = let f = c.ranges in
    read_through wide16 (clamp 16) c.narrow.type_inv c.rounding.type_inv c.narrow.ensures (rounded-sum wide16 c.args.minus f.c f.a f.b c.rounding.ensures.0)
