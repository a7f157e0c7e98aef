-- `kernel::lane32::I32Lane4::doubled_high` meets its contract: the low bits of the upper half tell its clamp.
use mathlib.Core.Path.{refl}
use mir.Syntax.{w32}
use Rattle.integer.proofs.Widen.{wide32}
use Rattle.integer.proofs.High.{cut_high, topped-past, topped-kept}
use Rattle.isa.specs.Register.{bits, bytes}
use Rattle.kernel.proofs.lane32.I32Lane4.doubled_high.Goals as goal

pub returns-then-r-ltminus2147483647 : goal.returns-then-r-ltminus2147483647
unfolding bits bytes
returns-then-r-ltminus2147483647 c = let f = c.ranges in
    topped-past w32 refl f.a f.b c.cut-r.type_inv (cut_high wide32 f.a f.b c.high.type_inv c.high.ensures c.cut-r.ensures) c.if-r-ltminus2147483647.true refl

pub returns-else-r-ltminus2147483647 : goal.returns-else-r-ltminus2147483647
unfolding bits bytes
returns-else-r-ltminus2147483647 c = let f = c.ranges in
    topped-kept w32 refl f.a f.b c.cut-r.type_inv (cut_high wide32 f.a f.b c.high.type_inv c.high.ensures c.cut-r.ensures) c.if-r-ltminus2147483647.false
