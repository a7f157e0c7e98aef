-- The part that is handed out for a register. `cut-refused`: nothing, on a refusal. `cut-found`: from the register's start to its end. Assumes nothing.
use Rattle.std.specs.Prelude.{is_err}
use mathlib.Core.Bool.{true, false}
use mathlib.Core.Path.{◌≡◌, sym, subst}
use Prim.Native.Nat.{ℕ, ◌+◌, ◌*◌, ◌/◌}
use native.Mathlib.Omega.{arith}
use Rattle.isa.specs.File.{register_check}
use Rattle.isa.proofs.FileChecks.{register-ends, register-given, register-refused}
use Rattle.regfile.specs.Place.{Cut}

module _ (L size r : ℕ) where
  pub cut-refused : is_err (register_check L size r) ≡ true → Cut L size r 0 0
  cut-refused bad = record {
    order = omega arith;
    within = omega arith;
    part = (λ file s. register-refused L file r (subst (λ (n : ℕ). is_err (register_check L n r) ≡ true) (sym s) bad));
  }

  pub cut-found : (start : ℕ) → is_err (register_check L size r) ≡ false → start ≡ r * (L / 8) → Cut L size r start (start + L / 8)
  cut-found start e at =
      let g = register-ends L size r e in
      subst (λ (x : ℕ). Cut L size r x (x + L / 8)) (sym at)
      (record {
        order = omega arith;
        within = g.ends;
        part = (λ file s. register-given L file r (subst (λ (n : ℕ). is_err (register_check L n r) ≡ false) (sym s) e));
      })
