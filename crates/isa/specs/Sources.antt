-- An operation by its destination and its two sources: the registers that it reads, and what it makes of their bytes. Of a group the first register stands for all.
-- For registers this is what the definitions write: see `written-made` and `flag-made` of proofs/Sources.antt.
use Rattle.std.specs.Prelude.{ℕ, Bool, true, false}
use Rattle.integer.specs.Lane.{doubled_high}
use Rattle.isa.specs.Register.{Bytes, Size, bits}
use Rattle.isa.specs.declared.types.Op.{Op}
use Rattle.isa.specs.declared.types.Op.TheVariants.{Cadd, Sqcadd, Cmla, Sqrdcmlah, CmlaIndexed, SqrdcmlahIndexed, Sqrdmlah, Sqrdmlsh, Sqdmulh}
use Rattle.isa.specs.Meaning.{Rotation, pair_bytes, lane_bytes, lane_clamps, lane_wise, own, indexed, cadd_of, sqcadd_of, cmla_of, sqrdcmlah_of, adds, subtracts}

unfoldable pub dest_of : Op → ℕ
dest_of (Cadd o) = o.zdn
dest_of (Sqcadd o) = o.zdn
dest_of (Cmla o) = o.zda
dest_of (Sqrdcmlah o) = o.zda
dest_of (CmlaIndexed o) = o.zda
dest_of (SqrdcmlahIndexed o) = o.zda
dest_of (Sqrdmlah o) = o.rd
dest_of (Sqrdmlsh o) = o.rd
dest_of (Sqdmulh o) = o.zdn

unfoldable pub first_of : Op → ℕ
first_of (Cadd o) = o.zdn
first_of (Sqcadd o) = o.zdn
first_of (Cmla o) = o.zn
first_of (Sqrdcmlah o) = o.zn
first_of (CmlaIndexed o) = o.zn
first_of (SqrdcmlahIndexed o) = o.zn
first_of (Sqrdmlah o) = o.rn
first_of (Sqrdmlsh o) = o.rn
first_of (Sqdmulh o) = o.zdn

unfoldable pub second_of : Op → ℕ
second_of (Cadd o) = o.zm
second_of (Sqcadd o) = o.zm
second_of (Cmla o) = o.zm
second_of (Sqrdcmlah o) = o.zm
second_of (CmlaIndexed o) = o.zm
second_of (SqrdcmlahIndexed o) = o.zm
second_of (Sqrdmlah o) = o.rm
second_of (Sqrdmlsh o) = o.rm
second_of (Sqdmulh o) = o.zm

-- what an operation makes of the bytes of its destination and of its two sources
abbrev pub Rule : Type 0
Rule = Bytes → Bytes → Bytes → Bytes

-- CADD, or SQCADD: the destination is the first source
abbrev pub add_rule : Bool → Size → Rotation → Rule
add_rule false z r c n m = pair_bytes z own (cadd_of r) c c m
add_rule true z r c n m = pair_bytes z own (sqcadd_of (bits z) r) c c m

-- CMLA, or SQRDCMLAH
abbrev pub mul_rule : Bool → Size → Rotation → Rule
mul_rule false z r = pair_bytes z own (cmla_of r)
mul_rule true z r = pair_bytes z own (sqrdcmlah_of (bits z) r)

-- the same, indexed
abbrev pub indexed_rule : Bool → Size → ℕ → Rotation → Rule
indexed_rule false z index r = pair_bytes z (indexed z index) (cmla_of r)
indexed_rule true z index r = pair_bytes z (indexed z index) (sqrdcmlah_of (bits z) r)

-- SQDMULH: each register of the group is the first source
abbrev pub group_rule : Size → Rule
group_rule z c n m = lane_wise z (doubled_high (bits z)) c m

unfoldable pub made : Op → Rule
made (Cadd o) = add_rule false o.size o.rot
made (Sqcadd o) = add_rule true o.size o.rot
made (Cmla o) = mul_rule false o.size o.rot
made (Sqrdcmlah o) = mul_rule true o.size o.rot
made (CmlaIndexed o) = indexed_rule false o.size o.index o.rot
made (SqrdcmlahIndexed o) = indexed_rule true o.size o.index o.rot
made (Sqrdmlah o) = lane_bytes o.form o.size o.index adds
made (Sqrdmlsh o) = lane_bytes o.form o.size o.index subtracts
made (Sqdmulh o) = group_rule o.size

-- whether it sets the flag
unfoldable pub clamps_in : Op → Bytes → Bytes → Bytes → Bool
clamps_in (Cadd o) c n m = false
clamps_in (Sqcadd o) c n m = false
clamps_in (Cmla o) c n m = false
clamps_in (Sqrdcmlah o) c n m = false
clamps_in (CmlaIndexed o) c n m = false
clamps_in (SqrdcmlahIndexed o) c n m = false
clamps_in (Sqrdmlah o) c n m = lane_clamps o.form o.size o.index adds c n m
clamps_in (Sqrdmlsh o) c n m = lane_clamps o.form o.size o.index subtracts c n m
clamps_in (Sqdmulh o) c n m = false
