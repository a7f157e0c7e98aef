-- `kernel::lane16::I16Lane8::doubled_high` meets its contract: the low bits of the upper half tell its clamp.
use mathlib.Core.Path.{refl}
use mir.Syntax.{w16}
use Rattle.integer.proofs.Widen.{wide16}
use Rattle.integer.proofs.High.{cut_high, topped-past, topped-kept}
use Rattle.isa.specs.Register.{bits, bytes}
use Rattle.kernel.proofs.lane16.I16Lane8.doubled_high.Goals as goal

pub returns-then-r-ltminus32767 : goal.returns-then-r-ltminus32767
unfolding bits bytes
returns-then-r-ltminus32767 c = let f = c.ranges in
    topped-past w16 refl f.a f.b c.cut-r.type_inv (cut_high wide16 f.a f.b c.high.type_inv c.high.ensures c.cut-r.ensures) c.if-r-ltminus32767.true refl

pub returns-else-r-ltminus32767 : goal.returns-else-r-ltminus32767
unfolding bits bytes
returns-else-r-ltminus32767 c = let f = c.ranges in
    topped-kept w16 refl f.a f.b c.cut-r.type_inv (cut_high wide16 f.a f.b c.high.type_inv c.high.ensures c.cut-r.ensures) c.if-r-ltminus32767.false
