-- One operation on the lent file. `found_within`: the first segments of its registers. `swept-executed`: an SVE2 operation.
-- `found-group`, `group-executed`: one on a group. `touched-executed`: one by element. `touched-whole`: its first segment stored and the others cleared.
-- `add_executed`, `mul_executed`, `indexed_executed`, `element_executed`: by the pairs of families. `turns`: the rotations of CADD and SQCADD.
-- `by-limit`: an index below its limit, as a loop takes it. `swept_at`, `worked-as`: what was matched. `not-b`, `not-d`: sizes that are not handed over. Assumes nothing.
use mathlib.Core.Path.{◌≡◌, refl, sym, ap, subst, ◌∙◌}
use Prim.Native.Nat.{ℕ, ◌+◌, ◌*◌, ◌/◌, ◌%◌, ◌<◌, ◌≤◌}
use native.Mathlib.Omega.{arith}
use native.Mathlib.Nat.{mul-le-mul_right, mod-eq_of_lt, mul-mod_left, add-mul}
use mathlib.Core.Bool.{Bool, true, false, ◌||◌, false≢true}
use mathlib.Core.List.{List}
use lib.Dec.{eqb}
use lib.ListN.{length, get_or}
use Rattle.isa.specs.declared.types.Size.{Size}
use Rattle.isa.specs.declared.types.Size.TheVariants.{B, D}
use Rattle.isa.specs.declared.types.Rotation.{Rotation}
use Rattle.isa.specs.declared.types.Group.{Group}
use Rattle.isa.specs.declared.types.Add.{Add}
use Rattle.isa.specs.declared.types.Mul.{Mul}
use Rattle.isa.specs.declared.types.MulIndexed.{MulIndexed}
use Rattle.isa.specs.declared.types.ByElement.{ByElement}
use Rattle.isa.specs.declared.types.MulGroup.{MulGroup}
use Rattle.isa.specs.declared.types.Op.{Op}
use Rattle.integer.specs.Lane.{doubled_high}
use Rattle.isa.specs.Register.{Bytes, bits, group_count}
use Rattle.isa.specs.declared.types.Form.{Form}
use Rattle.isa.specs.Meaning.{writes, written, lane_bytes, lane_clamps, lane_wise, flag_after, advanced_simd}
use Rattle.isa.specs.File.{byte_at}
use Rattle.isa.specs.Valid.{Valid, AddValid, MulValid, IndexedValid, GroupValid}
use Rattle.isa.specs.Encode.{add_rotation, half_or_single}
use Rattle.isa.specs.Stage.{crossed}
use Rattle.isa.specs.Sources.{Rule, add_rule, mul_rule, indexed_rule, dest_of, first_of, second_of, made, clamps_in}
use Rattle.isa.proofs.File.{legal-exact}
use Rattle.isa.proofs.Local.{flag-kept}
use Rattle.isa.proofs.Progress.{register-stored, registers-stored}
use Rattle.isa.proofs.Sources.{made_of, flag-made, valid-below, or-false}
use Rattle.regfile.specs.Bytes.{Cleared}
use Rattle.regfile.specs.Place.{Numbers}
use Rattle.regfile.specs.Sweep.{Held, Placed, Lying, Swept, Within, bytes_from, Touched}
use Rattle.regfile.specs.Group.{GroupLying, GroupSwept}
use Rattle.regfile.proofs.Sweep.{touched-as, touched-above}
use Rattle.exec.specs.Step.{Executed, add_of, mul_of, indexed_of, element_of}

-- ---- where the registers are

-- a group starts at d, and its second source at m
pub record GroupFound (L : ℕ) (f : List ℕ) (a : MulGroup) (d m : ℕ) : Type 0 where
  pub dest : d ≡ a.zdn * (L / 8)
  pub second : m ≡ a.zm * (L / 8)
  pub lying : GroupLying L f (group_count a.group) d m

pub group-some : (g : Group) → 0 < group_count g
group-some Group.Two = omega arith
group-some Group.Four = omega arith

module _ (L : ℕ) (f : List ℕ) (held : Held L f) where
  ends : (r at : ℕ) → r < 32 → at ≡ r * (L / 8) → at + L / 8 ≤ 4 * L
  ends r at h e =
      let whole = ((legal-exact L).0 held.ok).whole in
      omega (arith, mul-le-mul_right (L / 8) h, e)

  -- the first segments of three registers
  pub found_within : (x y z : ℕ) → Numbers x y z → (d n m : ℕ) → d ≡ x * (L / 8) → n ≡ y * (L / 8) → m ≡ z * (L / 8) → Within (length f) d n m
  found_within x y z numbers d n m dest first second =
      let k = (legal-exact L).0 held.ok in
      record {
        dest = omega (arith, ends x d numbers.dest dest, held.sized);
        first = omega (arith, ends y n numbers.first first, held.sized);
        second = omega (arith, ends z m numbers.second second, held.sized);
      }

  -- the registers of a group, and its second source
  pub found-group : (a : MulGroup) → GroupValid a → (d m : ℕ) → d ≡ a.zdn * (L / 8) → m ≡ a.zm * (L / 8) → GroupFound L f a d m
  found-group a valid d m dest second =
      let w = L / 8 in
      let k = (legal-exact L).0 held.ok in
      record {
        dest = dest;
        second = second;
        lying = record {
          held = held;
          group = omega (arith, dest, mul-le-mul_right w valid.group, add-mul a.zdn (group_count a.group) w, k.whole);
          second = ends a.zm m valid.zm second;
          group_start = ap (λ x. x % w) dest ∙ mul-mod_left a.zdn w;
          second_start = ap (λ x. x % w) second ∙ mul-mod_left a.zm w;
        };
      }

-- ---- what is left

-- the bytes from a register's start on are the register's
from_start : (L : ℕ) (f : List ℕ) (r at : ℕ) → at ≡ r * (L / 8) → bytes_from f at ≡ byte_at L f r
unfolding byte_at
from_start L f r at e = λ t i. get_or f (ap (λ x. x + i) e t) 0

module _ (L : ℕ) (op : Op) (valid : Valid op) (only : (r : ℕ) → writes op r ≡ eqb r (dest_of op)) (f : List ℕ) (held : Held L f) (d n m : ℕ) (p : Placed (L / 8) op d n m) where
  pub swept-executed : advanced_simd op ≡ false → (rule : Rule) → ((c a b : Bytes) (i : ℕ) → made op c a b i ≡ rule c a b i) → (after : List ℕ) →
      Swept L rule f d n m after → Executed L op f after false
  swept-executed sve rule same after s = record {
    left = s.left op (record { valid = valid; sve = sve; only = only; placed = p; same = same });
    flag = λ qc. flag-kept op sve (byte_at L f) qc ∙ or-false qc;
  }

module _ (L : ℕ) (op : Op) (only : (r : ℕ) → writes op r ≡ eqb r (dest_of op)) (f : List ℕ) (held : Held L f) (d n m : ℕ) (p : Placed (L / 8) op d n m) where
  pub touched-executed : (after : List ℕ) (clamped : Bool) → Touched (L / 8) (made op) (clamps_in op) f d n m after clamped → Executed L op f after clamped
  touched-executed after clamped t = record {
    left = register-stored L held.ok op (dest_of op) only f after (t.sized ∙ held.sized)
        (λ j h. ap (λ x. get_or after x 0) (omega (arith, p.dest)) ∙ t.inside j h ∙ made_of op (byte_at L f) c a b j)
        (λ x h. t.low x (omega (arith, p.dest)))
        (λ x h. t.high x (omega (arith, p.dest)));
    flag = λ qc. flag-made op (byte_at L f) qc ∙ ap (λ b. qc || b) (sym (t.flag ∙ (λ i. clamps_in op (c i) (a i) (b i))));
  }
    where
      c : bytes_from f d ≡ byte_at L f (dest_of op)
      c = from_start L f (dest_of op) d p.dest

      a : bytes_from f n ≡ byte_at L f (first_of op)
      a = from_start L f (first_of op) n p.first

      b : bytes_from f m ≡ byte_at L f (second_of op)
      b = from_start L f (second_of op) m p.second

-- a form by element with the index that the code has: its first segment stored, and the others cleared
pub touched-whole : (f : Form) (z : Size) (minus : Bool) {index known : ℕ} (L : ℕ) (file : List ℕ) (d n m : ℕ) (mid after : List ℕ) (r : Bool) → Held L file → known ≡ index →
    Touched 16 (lane_bytes f z known minus) (lane_clamps f z known minus) file d n m mid r → Cleared mid (d + 16) (d + L / 8) after →
    Touched (L / 8) (lane_bytes f z index minus) (lane_clamps f z index minus) file d n m after r
touched-whole f z minus {index} L file d n m mid after r held e t cleared =
    let k = (legal-exact L).0 held.ok in
    touched-above f z index minus (L / 8) (omega (arith, k.whole, k.least)) (lane_clamps f z index minus) file d n m mid after r
    (touched-as 16 (λ i. lane_bytes f z i minus) (λ i. lane_clamps f z i minus) file d n m mid r (sym e) t) cleared

-- ---- by the pairs of families

module _ (L : ℕ) (f : List ℕ) (held : Held L f) (d n m : ℕ) where
  pub add_executed : (s : Bool) (a : Add) → AddValid a → d ≡ a.zdn * (L / 8) → n ≡ a.zdn * (L / 8) → m ≡ a.zm * (L / 8) → (after : List ℕ) →
      Swept L (add_rule s a.size a.rot) f d n m after → Executed L (add_of s a) f after false
  unfolding made advanced_simd writes dest_of first_of second_of
  add_executed false a valid dest first second after w =
      swept-executed L (Op.Cadd a) valid (λ r. refl) f held d n m (record { dest = dest; first = first; second = second }) refl (add_rule false a.size a.rot) (λ c a b i. refl) after w
  add_executed true a valid dest first second after w =
      swept-executed L (Op.Sqcadd a) valid (λ r. refl) f held d n m (record { dest = dest; first = first; second = second }) refl (add_rule true a.size a.rot) (λ c a b i. refl) after w

  pub mul_executed : (s : Bool) (a : Mul) → MulValid a → d ≡ a.zda * (L / 8) → n ≡ a.zn * (L / 8) → m ≡ a.zm * (L / 8) → (after : List ℕ) →
      Swept L (mul_rule s a.size a.rot) f d n m after → Executed L (mul_of s a) f after false
  unfolding made advanced_simd writes dest_of first_of second_of
  mul_executed false a valid dest first second after w =
      swept-executed L (Op.Cmla a) valid (λ r. refl) f held d n m (record { dest = dest; first = first; second = second }) refl (mul_rule false a.size a.rot) (λ c a b i. refl) after w
  mul_executed true a valid dest first second after w =
      swept-executed L (Op.Sqrdcmlah a) valid (λ r. refl) f held d n m (record { dest = dest; first = first; second = second }) refl (mul_rule true a.size a.rot) (λ c a b i. refl) after w

  pub indexed_executed : (s : Bool) (a : MulIndexed) → IndexedValid a → d ≡ a.zda * (L / 8) → n ≡ a.zn * (L / 8) → m ≡ a.zm * (L / 8) → (after : List ℕ) →
      Swept L (indexed_rule s a.size a.index a.rot) f d n m after → Executed L (indexed_of s a) f after false
  unfolding made advanced_simd writes dest_of first_of second_of
  indexed_executed false a valid dest first second after w =
      swept-executed L (Op.CmlaIndexed a) valid (λ r. refl) f held d n m (record { dest = dest; first = first; second = second }) refl (indexed_rule false a.size a.index a.rot) (λ c a b i. refl) after w
  indexed_executed true a valid dest first second after w =
      swept-executed L (Op.SqrdcmlahIndexed a) valid (λ r. refl) f held d n m (record { dest = dest; first = first; second = second }) refl (indexed_rule true a.size a.index a.rot) (λ c a b i. refl) after w

  pub element_executed : (s : Bool) (a : ByElement) → d ≡ a.rd * (L / 8) → n ≡ a.rn * (L / 8) → m ≡ a.rm * (L / 8) → (mid after : List ℕ) (clamped : Bool) →
      Touched 16 (lane_bytes a.form a.size a.index s) (lane_clamps a.form a.size a.index s) f d n m mid clamped → Cleared mid (d + 16) (d + L / 8) after →
      Executed L (element_of s a) f after clamped
  unfolding made clamps_in writes dest_of first_of second_of
  element_executed false a dest first second mid after clamped t cleared =
      touched-executed L (Op.Sqrdmlah a) (λ r. refl) f held d n m (record { dest = dest; first = first; second = second }) after clamped
      (touched-whole a.form a.size false L f d n m mid after clamped held refl t cleared)
  element_executed true a dest first second mid after clamped t cleared =
      touched-executed L (Op.Sqrdmlsh a) (λ r. refl) f held d n m (record { dest = dest; first = first; second = second }) after clamped
      (touched-whole a.form a.size true L f d n m mid after clamped held refl t cleared)

-- the rule of a group of size z
abbrev pub group_lanes : Size → Bytes → Bytes → Bytes
group_lanes z = lane_wise z (doubled_high (bits z))

module _ (L : ℕ) (a : MulGroup) (f : List ℕ) (held : Held L f) (d m : ℕ) (p : GroupFound L f a d m) where
  register-at : (r : ℕ) → d + r * (L / 8) ≡ (a.zdn + r) * (L / 8)
  register-at r = omega (arith, p.dest, add-mul a.zdn r (L / 8))

  pub group-executed : (after : List ℕ) → GroupSwept L (group_count a.group) (group_lanes a.size) f d m after → Executed L (Op.Sqdmulh a) f after false
  unfolding writes written flag_after
  group-executed after s = record {
    left = registers-stored L held.ok (Op.Sqdmulh a) a.zdn (group_count a.group) (λ r. refl) f after (s.sized ∙ held.sized)
        (λ r j h l. ap (λ x. get_or after (x + j) 0) (sym (register-at r)) ∙ s.inside r j h l
        ∙ (λ i. group_lanes a.size (from_start L f (a.zdn + r) (d + r * (L / 8)) (register-at r) i) (from_start L f a.zm m p.second i) j))
        (λ x h. s.low x (omega (arith, p.dest)))
        (λ x h. s.high x (omega (arith, register-at (group_count a.group))));
    flag = λ qc. or-false qc;
  }

-- ---- what a valid operation has

-- CADD and SQCADD turn by 90 and 270
pub turns : (rot : Rotation) → add_rotation rot ≡ true → crossed rot ≡ true
turns Rotation.R0 e = absurd (false≢true e)
turns Rotation.R90 e = refl
turns Rotation.R180 e = absurd (false≢true e)
turns Rotation.R270 e = refl

pub by-limit : (index limit w : ℕ) → index < limit → w ≡ index → w % limit ≡ index
by-limit index limit w h e = ap (λ k. k % limit) e ∙ mod-eq_of_lt h

-- B and D have no indexed form and no form by element
pub not-b : {z : Size} → half_or_single z ≡ true → z ≡ B → ⊥
not-b h e = false≢true (subst (λ z. half_or_single z ≡ true) e h)

pub not-d : {z : Size} → half_or_single z ≡ true → z ≡ D → ⊥
not-d h e = false≢true (subst (λ z. half_or_single z ≡ true) e h)

-- ---- what was matched

-- the loop of a group and of its size
pub grouped-at : {A : Type 0} (L : ℕ) (count : A → ℕ) (rule : A → Bytes → Bytes → Bytes) {x known : A} (f : List ℕ) (d m : ℕ) (after : List ℕ) → x ≡ known →
    GroupSwept L (count known) (rule known) f d m after → GroupSwept L (count x) (rule x) f d m after
grouped-at L count rule f d m after e s = subst (λ x. GroupSwept L (count x) (rule x) f d m after) (sym e) s

-- a rule for what was matched is the rule for it
pub swept_at : {A : Type 0} (L : ℕ) (rule : A → Rule) {x known : A} (f : List ℕ) (d n m : ℕ) (after : List ℕ) → x ≡ known →
    Swept L (rule known) f d n m after → Swept L (rule x) f d n m after
swept_at L rule f d n m after e s = subst (λ x. Swept L (rule x) f d n m after) (sym e) s

pub worked-as : (L : ℕ) {op known : Op} (f after : List ℕ) (r : Bool) → op ≡ known → Executed L known f after r → Executed L op f after r
worked-as L f after r e w = subst (λ o. Executed L o f after r) (sym e) w
