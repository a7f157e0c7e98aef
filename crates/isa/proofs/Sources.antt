-- An operation by its destination and sources is the operation of the definitions. `written-made`, `made_of`: the bytes it writes.
-- `flag-made`: the flag it sets. `valid-below`: its registers exist. `made-local` and `clamped-local`: it reads 16 bytes of each alone.
-- Assumes nothing.
use mathlib.Core.Path.{◌≡◌, refl, sym, ap, ◌∙◌}
use Prim.Native.Nat.{ℕ, ◌+◌, ◌<◌, ◌≤◌}
use native.Mathlib.Omega.{arith}
use mathlib.Core.Bool.{Bool, true, false, ◌||◌}
use Rattle.isa.specs.Register.{Bytes, Regs, Group, group_count}
use Rattle.isa.specs.declared.types.Op.{Op}
use Rattle.isa.specs.declared.types.Op.TheVariants.{Cadd, Sqcadd, Cmla, Sqrdcmlah, CmlaIndexed, SqrdcmlahIndexed, Sqrdmlah, Sqrdmlsh, Sqdmulh}
use Rattle.isa.specs.Meaning.{own, indexed, written, flag_after}
use Rattle.isa.specs.Valid.{Valid}
use Rattle.isa.proofs.Local.{Near, Fits, own-small, indexed-small, pair-local, lane-local, lane-wise-local, clamps-local}
use Rattle.isa.specs.Sources.{dest_of, first_of, second_of, made, clamps_in}

pub written-made : (op : Op) (regs : Regs) → written op regs (dest_of op) ≡ made op (regs (dest_of op)) (regs (first_of op)) (regs (second_of op))
unfolding written made dest_of first_of second_of
written-made (Cadd o) regs = refl
written-made (Sqcadd o) regs = refl
written-made (Cmla o) regs = refl
written-made (Sqrdcmlah o) regs = refl
written-made (CmlaIndexed o) regs = refl
written-made (SqrdcmlahIndexed o) regs = refl
written-made (Sqrdmlah o) regs = refl
written-made (Sqrdmlsh o) regs = refl
written-made (Sqdmulh o) regs = refl

-- of bytes that are those of its registers
pub made_of : (op : Op) (regs : Regs) {c n m : Bytes} → c ≡ regs (dest_of op) → n ≡ regs (first_of op) → m ≡ regs (second_of op) →
    (i : ℕ) → made op c n m i ≡ written op regs (dest_of op) i
made_of op regs c n m i = (λ t. made op (c t) (n t) (m t) i) ∙ sym (ap (λ f. f i) (written-made op regs))

pub or-false : (b : Bool) → b ≡ (b || false)
or-false true = refl
or-false false = refl

pub flag-made : (op : Op) (regs : Regs) (flag : Bool) →
    flag_after op regs flag ≡ (flag || clamps_in op (regs (dest_of op)) (regs (first_of op)) (regs (second_of op)))
unfolding flag_after clamps_in dest_of first_of second_of
flag-made (Cadd o) regs flag = or-false flag
flag-made (Sqcadd o) regs flag = or-false flag
flag-made (Cmla o) regs flag = or-false flag
flag-made (Sqrdcmlah o) regs flag = or-false flag
flag-made (CmlaIndexed o) regs flag = or-false flag
flag-made (SqrdcmlahIndexed o) regs flag = or-false flag
flag-made (Sqrdmlah o) regs flag = refl
flag-made (Sqrdmlsh o) regs flag = refl
flag-made (Sqdmulh o) regs flag = or-false flag

pub record Below (op : Op) : Type 0 where
  pub dest : dest_of op < 32
  pub first : first_of op < 32
  pub second : second_of op < 32

first_below : (g : Group) (d : ℕ) → d + group_count g ≤ 32 → d < 32
first_below Group.Two d h = omega arith
first_below Group.Four d h = omega arith

pub valid-below : (op : Op) → Valid op → Below op
unfolding dest_of first_of second_of
valid-below (Cadd o) v = record { dest = v.zdn; first = v.zdn; second = v.zm }
valid-below (Sqcadd o) v = record { dest = v.zdn; first = v.zdn; second = v.zm }
valid-below (Cmla o) v = record { dest = v.zda; first = v.zn; second = v.zm }
valid-below (Sqrdcmlah o) v = record { dest = v.zda; first = v.zn; second = v.zm }
valid-below (CmlaIndexed o) v = record { dest = v.zda; first = v.zn; second = v.zm }
valid-below (SqrdcmlahIndexed o) v = record { dest = v.zda; first = v.zn; second = v.zm }
valid-below (Sqrdmlah o) v = record { dest = v.rd; first = v.rn; second = v.rm }
valid-below (Sqrdmlsh o) v = record { dest = v.rd; first = v.rn; second = v.rm }
valid-below (Sqdmulh o) v = let l = first_below o.group o.zdn v.group in record { dest = l; first = l; second = v.zm }

-- ---- locality

-- three sources with the same first 16 bytes
module _ (c₁ n₁ m₁ c₂ n₂ m₂ : Bytes) (c : Near c₁ c₂) (n : Near n₁ n₂) (m : Near m₁ m₂) where
  pub made-local : (op : Op) → Fits op → (i : ℕ) → i < 16 → made op c₁ n₁ m₁ i ≡ made op c₂ n₂ m₂ i
  unfolding made Fits
  made-local (Cadd o) fits = pair-local o.size _ _ _ _ _ _ c c m own (own-small o.size) _
  made-local (Sqcadd o) fits = pair-local o.size _ _ _ _ _ _ c c m own (own-small o.size) _
  made-local (Cmla o) fits = pair-local o.size _ _ _ _ _ _ c n m own (own-small o.size) _
  made-local (Sqrdcmlah o) fits = pair-local o.size _ _ _ _ _ _ c n m own (own-small o.size) _
  made-local (CmlaIndexed o) fits =
      pair-local o.size _ _ _ _ _ _ c n m (indexed o.size o.index) (indexed-small o.size o.index fits) _
  made-local (SqrdcmlahIndexed o) fits =
      pair-local o.size _ _ _ _ _ _ c n m (indexed o.size o.index) (indexed-small o.size o.index fits) _
  made-local (Sqrdmlah o) fits = lane-local o.size _ _ _ _ _ _ c n m o.form o.index fits _
  made-local (Sqrdmlsh o) fits = lane-local o.size _ _ _ _ _ _ c n m o.form o.index fits _
  made-local (Sqdmulh o) fits = lane-wise-local o.size _ _ _ _ _ c m

  pub clamped-local : (op : Op) → Fits op → clamps_in op c₁ n₁ m₁ ≡ clamps_in op c₂ n₂ m₂
  unfolding clamps_in Fits
  clamped-local (Cadd o) fits = refl
  clamped-local (Sqcadd o) fits = refl
  clamped-local (Cmla o) fits = refl
  clamped-local (Sqrdcmlah o) fits = refl
  clamped-local (CmlaIndexed o) fits = refl
  clamped-local (SqrdcmlahIndexed o) fits = refl
  clamped-local (Sqrdmlah o) fits = clamps-local o.size _ _ _ _ _ _ c n m o.form o.index fits _
  clamped-local (Sqrdmlsh o) fits = clamps-local o.size _ _ _ _ _ _ c n m o.form o.index fits _
  clamped-local (Sqdmulh o) fits = refl
