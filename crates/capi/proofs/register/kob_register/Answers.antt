use mathlib.Core.Path.{sym, ap, ◌∙◌}
use Prim.Native.Nat.{ℕ, ◌/◌}
use native.Mathlib.Omega.{arith}
use Rattle.isa.proofs.FileChecks.{register-ends}
use Rattle.capi.specs.Register.{part_packed}
use Rattle.capi.proofs.Place.{register-refused, register-place, register-passed}
use Rattle.capi.proofs.register.kob_register.Goals as goal

pub returns-then-is_err : goal.returns-then-is_err
returns-then-is_err c = let a = c.args in
    c.number_of.ensures ∙ register-refused a.l a.size a.n c.check_register-asked.ensures (cc)

pub offset-requires : goal.offset-requires
offset-requires c = let a = c.args in
    let g = register-ends a.l a.size a.n (cc) in
    record { width = omega (arith, g.short); number = g.below }

pub packed_part-requires : goal.packed_part-requires
packed_part-requires c = let a = c.args in rw c.offset.ensures (register-place a.l a.size a.n (cc))

pub returns : goal.returns
returns c = let a = c.args in
    c.packed_part.ensures
    ∙ ap (λ (start : ℕ). part_packed start (a.l / 8)) c.offset.ensures
    ∙ register-passed a.l a.size a.n (cc)
