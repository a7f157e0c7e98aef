-- What the checks of a vector length, a file's size and a register's number answer. `check-length`, `check-power`, `check-size`, `check-passed`: 1,
-- 11, 2 and 0, by what holds. `passed-exact`: what a check that passed tells. `register-ends`: a register handed out ends within the file. Assumes nothing.
use mathlib.Core.Path.{◌≡◌, refl}
use Prim.Native.Nat.{ℕ, ◌+◌, ◌*◌, ◌/◌, ◌-◌, ◌<◌, ◌≤◌}
use native.Mathlib.Omega.{arith}
use native.Mathlib.Nat.{mul-le-mul_right, add-sub_cancel_left}
use mathlib.Core.List.{List, []}
use mathlib.Core.Bool.{Bool, true, false}
use lib.ListN.{length, take, drop}
use lib.Dec.{ltb, eqb}
use borrow.Author.Tests.{ltb-true, lt-ltb, le-ltb, eqb-true, eq-eqb, ne_eqb}
use Rattle.std.specs.Prelude.{Ok, Err, is_err}
use Rattle.isa.specs.Check.{Check, unless}
use Rattle.isa.specs.declared.types.FileRefusal.{FileRefusal}
use Rattle.isa.specs.declared.types.RegisterRefusal.{RegisterRefusal}
use Rattle.isa.specs.File.{legal, multiple, check_of, register_after, register_check, part_if, register_of}
use Rattle.isa.proofs.File.{legal-exact, legal-multiple}

-- ---- 1, then 11, then 2

module _ (L size : ℕ) where
  pub check-length : multiple L ≡ false → check_of L size ≡ Err FileRefusal.BadLength
  unfolding check_of
  check-length m = rw m

  pub check-power : multiple L ≡ true → legal L ≡ false → check_of L size ≡ Err FileRefusal.NotPowerOfTwo
  unfolding check_of
  check-power m l = rw (m, l)

  pub check-size : legal L ≡ true → (size ≡ 4 * L → ⊥) → check_of L size ≡ Err FileRefusal.BadSize
  unfolding check_of
  check-size l ne = rw (legal-multiple L l, l, ne_eqb size (4 * L) ne)

  pub check-passed : legal L ≡ true → size ≡ 4 * L → check_of L size ≡ Ok tt
  unfolding check_of
  check-passed l e = rw (legal-multiple L l, l, eq-eqb size (4 * L) e)

  all_passed : (m a b : Bool) →
      unless m FileRefusal.BadLength (unless a FileRefusal.NotPowerOfTwo (unless b FileRefusal.BadSize (Ok (tt {0})))) ≡ Ok (tt {0}) →
      (a ≡ true) × (b ≡ true)
  all_passed true true true h = (refl, refl)
  all_passed true true false h = cc
  all_passed true false b h = cc
  all_passed false a b h = cc

  pub passed-exact : check_of L size ≡ Ok tt → (legal L ≡ true) × (size ≡ 4 * L)
  unfolding check_of
  passed-exact h =
      let both = all_passed (multiple L) (legal L) (eqb size (4 * L)) h in
      (both.0, eqb-true size (4 * L) both.1)

-- ---- then 6

module _ (L size r : ℕ) where
  pub register-found : check_of L size ≡ Ok tt → r < 32 → register_check L size r ≡ Ok tt
  unfolding register_check
  register-found e h = rw (e, lt-ltb r 32 h)

  pub register-none : check_of L size ≡ Ok tt → 32 ≤ r → register_check L size r ≡ Err RegisterRefusal.NoRegister
  unfolding register_check
  register-none e h = rw (e, le-ltb r 32 h)

  below : (b : Bool) → is_err (unless b RegisterRefusal.NoRegister (Ok (tt {0}))) ≡ false → b ≡ true
  below true h = refl
  below false h = cc

  after-passed : (k : Check FileRefusal) → is_err (register_after k r) ≡ false → (k ≡ Ok tt) × (r < 32)
  after-passed (Ok passed) h = (refl, ltb-true r 32 (below (ltb r 32) h))
  after-passed (Err refusal) h = cc

  -- a register that is handed out: the length is short, and the register ends within the file
  pub record Given : Type 0 where
    pub short : L ≤ 2048
    pub below : r < 32
    pub ends : r * (L / 8) + L / 8 ≤ size

  pub register-ends : is_err (register_check L size r) ≡ false → Given
  unfolding register_check
  register-ends h =
      let k = after-passed (check_of L size) h in
      let p = passed-exact L size k.0 in
      let l = (legal-exact L).0 p.0 in
      record { short = l.most; below = k.1; ends = omega (arith, mul-le-mul_right (L / 8) k.1) }

module _ (L : ℕ) (file : List ℕ) (r : ℕ) where
  -- the part from its start to its end
  pub register-given : is_err (register_check L (length file) r) ≡ false →
      take (r * (L / 8) + L / 8 - r * (L / 8)) (drop (r * (L / 8)) file) ≡ register_of L file r
  unfolding register_of
  register-given e = by (register_check L (length file) r) e
    where
      by : (k : Check RegisterRefusal) → is_err k ≡ false →
          take (r * (L / 8) + L / 8 - r * (L / 8)) (drop (r * (L / 8)) file) ≡ part_if k (take (L / 8) (drop (r * (L / 8)) file))
      by (Ok found) e = rw (add-sub_cancel_left (r * (L / 8)) (L / 8))
      by (Err refusal) e = cc

  -- a refusal hands out the empty part
  pub register-refused : is_err (register_check L (length file) r) ≡ true → [] ≡ register_of L file r
  unfolding register_of
  register-refused e = by (register_check L (length file) r) e
    where
      by : (k : Check RegisterRefusal) → is_err k ≡ true → [] ≡ part_if k (take (L / 8) (drop (r * (L / 8)) file))
      by (Ok found) e = cc
      by (Err refusal) e = refl
