-- What `kob_register` answers, and that its start and length cut out the register's part. Assumes nothing.
use mathlib.Core.Path.{◌≡◌, refl, sym, ap, subst, ◌∙◌}
use Prim.Native.Nat.{ℕ, ◌+◌, ◌*◌, ◌/◌, ◌%◌, ◌<◌, ◌≤◌}
use native.Mathlib.Nat.{mul-le-mul}
use native.Mathlib.Omega.{arith}
use mathlib.Core.List.{List, []}
use lib.ListN.{length, take, drop}
use mathlib.Core.Bool.{true, false}
use Rattle.std.specs.Prelude.{Ok, Err, is_err}
use Rattle.isa.specs.Check.{Check}
use Rattle.isa.specs.declared.types.FileRefusal.{FileRefusal}
use Rattle.isa.specs.declared.types.RegisterRefusal.{RegisterRefusal}
use Rattle.isa.specs.File.{register_check, register_of, part_if}
use Rattle.isa.specs.Number.{asked_number}
use Rattle.isa.proofs.FileChecks.{register-ends}
use Rattle.capi.specs.Register.{Place, part_packed, packed_asked, register_call, part_at}

refused-number : (k : Check RegisterRefusal) (part : ℕ) → is_err k ≡ true → asked_number k ≡ packed_asked k part
refused-number (Ok found) part e = cc
refused-number (Err refusal) part e = refl

passed-number : (k : Check RegisterRefusal) (part : ℕ) → is_err k ≡ false → part ≡ packed_asked k part
unfolding asked_number
passed-number (Ok found) part e = omega arith
passed-number (Err refusal) part e = cc

module _ (L size n : ℕ) where
  pub register-refused : {k : Check RegisterRefusal} → k ≡ register_check L size n → is_err k ≡ true → asked_number k ≡ register_call L size n
  unfolding register_call
  register-refused {k} e bad = refused-number k (part_packed (n * (L / 8)) (L / 8)) bad ∙ ap (λ (x : Check RegisterRefusal). packed_asked x (part_packed (n * (L / 8)) (L / 8))) e

  module _ (e : is_err (register_check L size n) ≡ false) where
    pub register-passed : part_packed (n * (L / 8)) (L / 8) ≡ register_call L size n
    unfolding register_call
    register-passed = passed-number (register_check L size n) _ e

    pub register-place : Place (n * (L / 8)) (L / 8)
    register-place =
        let g = register-ends L size n e in
        let wide : L / 8 ≤ 256 = omega (arith, g.short) in
        let below : n ≤ 31 = omega (arith, g.below) in
        let most : n * (L / 8) ≤ 31 * 256 = mul-le-mul below wide in
        record { start_fits = omega arith; length_fits = omega arith }

zero-plus : (x : ℕ) → x ≡ 0 + x
zero-plus x = omega arith

part-start : (s l : ℕ) → Place s l → part_packed s l / 0x1_0000 % 0x100_0000 ≡ s
unfolding part_packed
part-start s l p = omega arith

part_length : (s l : ℕ) → Place s l → part_packed s l / 0x100_0000_0000 ≡ l
unfolding part_packed
part_length s l p = omega arith

module _ (L : ℕ) (file : List ℕ) (n : ℕ) where
  cut-found : is_err (register_check L (length file) n) ≡ false → take (L / 8) (drop (n * (L / 8)) file) ≡ part_at file (part_packed (n * (L / 8)) (L / 8))
  cut-found e =
      let p = register-place L (length file) n e in
      ap (λ (l : ℕ). take l (drop (n * (L / 8)) file)) (sym (part_length (n * (L / 8)) (L / 8) p))
      ∙ ap (λ (s : ℕ). take (part_packed (n * (L / 8)) (L / 8) / 0x100_0000_0000) (drop s file)) (sym (part-start (n * (L / 8)) (L / 8) p))

  cut-checked : (k : Check RegisterRefusal) → register_check L (length file) n ≡ k → register_of L file n ≡ part_at file (register_call L (length file) n)
  unfolding register_of register_call asked_number
  cut-checked (Ok found) e = rw e (cut-found (ap is_err e) ∙ ap (part_at file) (zero-plus (part_packed (n * (L / 8)) (L / 8))))
  cut-checked (Err (RegisterRefusal.File FileRefusal.BadLength)) e = rw e
  cut-checked (Err (RegisterRefusal.File FileRefusal.NotPowerOfTwo)) e = rw e
  cut-checked (Err (RegisterRefusal.File FileRefusal.BadSize)) e = rw e
  cut-checked (Err RegisterRefusal.NoRegister) e = rw e

  pub register-cut : register_of L file n ≡ part_at file (register_call L (length file) n)
  register-cut = cut-checked (register_check L (length file) n) refl
