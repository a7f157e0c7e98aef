-- `regfile::part::offset` meets its contract: bit by bit from the highest.
use native.Mathlib.Omega.{arith}
use Prim.Native.Nat.{◌/◌}
use Rattle.regfile.proofs.Place.{half_of}
use Rattle.regfile.proofs.part.offset.Goals as goal

pub appended-a-requires : goal.appended-a-requires
appended-a-requires c = let a = c.args in
    half_of a.w a.n c.requires (a.n / 16) 0 0 (omega arith) (omega (arith, c.requires.number)) (omega arith)

pub appended-b-requires : goal.appended-b-requires
appended-b-requires c = let a = c.args in
    half_of a.w a.n c.requires (a.n / 8) (a.n / 16) c.appended-a.result (omega arith) (omega arith) c.appended-a.ensures

pub appended-c-requires : goal.appended-c-requires
appended-c-requires c = let a = c.args in
    half_of a.w a.n c.requires (a.n / 4) (a.n / 8) c.appended-b.result (omega arith) (omega arith) c.appended-b.ensures

pub appended-d-requires : goal.appended-d-requires
appended-d-requires c = let a = c.args in
    half_of a.w a.n c.requires (a.n / 2) (a.n / 4) c.appended-c.result (omega arith) (omega arith) c.appended-c.ensures
