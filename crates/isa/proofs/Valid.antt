-- `decoded-valid`: what a word decodes to is valid. Assumes nothing.
use Prim.Native.Nat.{ℕ, suc, ◌+◌, ◌%◌, ◌<◌, ◌≤◌}
use mathlib.Core.Path.{◌≡◌}
use mathlib.Core.Bool.{true}
use native.Mathlib.Omega.{arith}
use borrow.Author.Tests.{leb-true, eqb-true}
use lib.Dec.{leb, eqb}
use Rattle.isa.specs.declared.types.Size.{Size}
use Rattle.isa.specs.declared.types.Add.{Add}
use Rattle.isa.specs.declared.types.Mul.{Mul}
use Rattle.isa.specs.declared.types.MulIndexed.{MulIndexed}
use Rattle.isa.specs.declared.types.ByElement.{ByElement}
use Rattle.isa.specs.declared.types.Group.{Group}
use Rattle.isa.specs.declared.types.MulGroup.{MulGroup}
use Rattle.isa.specs.declared.types.Op.{Op}
use Rattle.isa.specs.declared.types.Decoded.{Decoded}
use Rattle.isa.specs.Field.{Row}
use Rattle.isa.specs.Table.{cadd, sqcadd, cmla, sqrdcmlah, cmla_h, cmla_s, sqrdcmlah_h, sqrdcmlah_s, sqrdmlah_scalar, sqrdmlah_vector, sqrdmlsh_scalar, sqrdmlsh_vector, sqdmulh_two, sqdmulh_four}
use Rattle.isa.specs.Decode.{decode_of}
use Rattle.isa.specs.Encode.{write_checks, add_checks, mul_checks, indexed_checks, element_checks, group_checks, by_size}
use Rattle.isa.specs.Register.{group_count}
use Rattle.isa.specs.Valid.{Valid, AddValid, MulValid, IndexedValid, ElementValid, GroupValid}
use Rattle.isa.proofs.Fields.{and_left, and_right}
use Rattle.isa.proofs.Checks.{ChecksPassed, word-exact}
use Rattle.isa.proofs.Families.{registers-in}
use Rattle.isa.proofs.RoundTrip.{decode-encode}

second_lt : (second : ℕ) (z : Size) (h s : ℕ) → h < 32 → s < 32 → leb second (by_size h s z) ≡ true → second < 32
second_lt second Size.B h s hh hs e = let l = leb-true second h e in omega arith
second_lt second Size.H h s hh hs e = let l = leb-true second h e in omega arith
second_lt second Size.S h s hh hs e = let l = leb-true second s e in omega arith
second_lt second Size.D h s hh hs e = let l = leb-true second s e in omega arith

index-lt : (index : ℕ) (z : Size) (h s : ℕ) → leb index (by_size h s z) ≡ true → index < by_size (suc h) (suc s) z
index-lt index Size.B h s e = let l = leb-true index h e in omega arith
index-lt index Size.H h s e = let l = leb-true index h e in omega arith
index-lt index Size.S h s e = let l = leb-true index s e in omega arith
index-lt index Size.D h s e = let l = leb-true index s e in omega arith

pub add-valid : (row : Row) (a : Add) (w : ℕ) → ChecksPassed (add_checks row a) w → AddValid a
add-valid row a w p = record {
  rot = p.rotation;
  zm = let l = leb-true a.zm 31 (and_left (leb a.zm 31) (leb a.zdn 31) p.registers) in omega arith;
  zdn = let l = leb-true a.zdn 31 (and_right (leb a.zm 31) (leb a.zdn 31) p.registers) in omega arith;
}

pub mul-valid : (row : Row) (a : Mul) (w : ℕ) → ChecksPassed (mul_checks row a) w → MulValid a
mul-valid row a w p =
    let r = registers-in a.zm 31 a.zn a.zda p.registers in
    record { zm = (let l = leb-true a.zm 31 r.second-in in omega arith); zn = r.n-in; zda = r.d-in }

pub indexed-valid : (h s : Row) (a : MulIndexed) (w : ℕ) → ChecksPassed (indexed_checks h s a) w → IndexedValid a
indexed-valid h s a w p =
    let r = registers-in a.zm (by_size 7 15 a.size) a.zn a.zda p.registers in
    record { size = p.size; zm = second_lt a.zm a.size 7 15 (omega arith) (omega arith) r.second-in; zn = r.n-in; zda = r.d-in; index = index-lt a.index a.size 3 1 p.index }

pub element-valid : (scalar vector : Row) (a : ByElement) (w : ℕ) → ChecksPassed (element_checks scalar vector a) w → ElementValid a
element-valid scalar vector a w p =
    let r = registers-in a.rm (by_size 15 31 a.size) a.rn a.rd p.registers in
    record { size = p.size; rm = second_lt a.rm a.size 15 31 (omega arith) (omega arith) r.second-in; rn = r.n-in; rd = r.d-in; index = index-lt a.index a.size 7 3 p.index }

-- a group that starts at a multiple of its registers lies among the 32
group-ends : (g : Group) (d : ℕ) → d ≤ 31 → eqb (d % group_count g) 0 ≡ true → d + group_count g ≤ 32
group-ends Group.Two d h e = let z = eqb-true (d % 2) 0 e in omega arith
group-ends Group.Four d h e = let z = eqb-true (d % 4) 0 e in omega arith

pub group-valid : (two four : Row) (a : MulGroup) (w : ℕ) → ChecksPassed (group_checks two four a) w → GroupValid a
group-valid two four a w p = record {
  zm = let l = leb-true a.zm 15 (and_left (leb a.zm 15) (leb a.zdn 31) p.registers) in omega arith;
  group = group-ends a.group a.zdn (leb-true a.zdn 31 (and_right (leb a.zm 15) (leb a.zdn 31) p.registers)) p.start;
}

-- an operation that can be written is valid
pub passed-valid : (op : Op) (w : ℕ) → ChecksPassed (write_checks op) w → Valid op
unfolding write_checks
passed-valid (Op.Cadd a) w p = add-valid cadd a w p
passed-valid (Op.Sqcadd a) w p = add-valid sqcadd a w p
passed-valid (Op.Cmla a) w p = mul-valid cmla a w p
passed-valid (Op.Sqrdcmlah a) w p = mul-valid sqrdcmlah a w p
passed-valid (Op.CmlaIndexed a) w p = indexed-valid cmla_h cmla_s a w p
passed-valid (Op.SqrdcmlahIndexed a) w p = indexed-valid sqrdcmlah_h sqrdcmlah_s a w p
passed-valid (Op.Sqrdmlah a) w p = element-valid sqrdmlah_scalar sqrdmlah_vector a w p
passed-valid (Op.Sqrdmlsh a) w p = element-valid sqrdmlsh_scalar sqrdmlsh_vector a w p
passed-valid (Op.Sqdmulh a) w p = group-valid sqdmulh_two sqdmulh_four a w p

pub decoded-valid : (w : ℕ) (op : Op) → decode_of w ≡ Decoded.Operation op → Valid op
decoded-valid w op e = passed-valid op w ((word-exact op w).0 (decode-encode w op e))
