-- `kernel::lane8::I8Lane16::doubled_high` meets its contract: the upper half, clamped.
use mathlib.Core.Path.{refl}
use mir.Syntax.{w8}
use Rattle.integer.specs.Number.{clamp}
use Rattle.integer.specs.Lane.{doubled_high}
use Rattle.integer.proofs.Widen.{wide8, read_through}
use Rattle.integer.proofs.High.{high-of}
use Rattle.isa.specs.Register.{bits, bytes}
use Rattle.kernel.proofs.lane8.I8Lane16.doubled_high.Goals as goal

pub returns : goal.returns
unfolding doubled_high bits bytes
returns c = let f = c.ranges in
    read_through wide8 (clamp 8) c.narrow.type_inv c.high.type_inv c.narrow.ensures (high-of w8 refl f.a f.b c.high.ensures)
