-- What each operation does to the registers and to the flag QC. No vector length is in it.
-- Assumes nothing.
use Rattle.std.specs.Prelude.{ℕ, zero, suc, ◌+◌, ◌*◌, ◌-◌, ◌/◌, ◌%◌, Bool, true, false, cond, ◌||◌, ◌&&◌, leb, ltb, eqb, ℤ, neg_ℤ, ◌+ℤ◌, ◌-ℤ◌, ◌*ℤ◌}
use Rattle.integer.specs.Number.{clamp, rounded, signed_by, byte_of, End, end_of, changed}
use Rattle.integer.specs.Lane.{saturated, doubled_high}
use Rattle.isa.specs.Register.{Bytes, Regs, Size, bytes, bits, pairs, element, complex, Complex, group_count}
pub use Rattle.isa.specs.declared.types.Rotation.{Rotation}
pub use Rattle.isa.specs.declared.types.Rotation.TheVariants.{R0, R90, R180, R270}
pub use Rattle.isa.specs.declared.types.Form.{Form}
pub use Rattle.isa.specs.declared.types.Form.TheVariants.{Scalar, Vector64, Vector128}
pub use Rattle.isa.specs.declared.types.Op.{Op}
pub use Rattle.isa.specs.declared.types.Op.TheVariants.{Cadd, Sqcadd, Cmla, Sqrdcmlah, CmlaIndexed, SqrdcmlahIndexed, Sqrdmlah, Sqrdmlsh, Sqdmulh}

-- ---- pairs

-- a plus b turned by the rotation. CADD and SQCADD have only 90 and 270. No word decodes to another rotation (`decoded-valid`) and writing
-- refuses it; the function has to say something there, and leaves a.
unfoldable pub turned : Rotation → Complex → Complex → Complex
turned R0 a b = a
turned R90 a b = record { re = a.re -ℤ b.im; im = a.im +ℤ b.re }
turned R180 a b = a
turned R270 a b = record { re = a.re +ℤ b.im; im = a.im -ℤ b.re }

-- What a product form adds to the addend, exactly.
unfoldable pub product : Rotation → Complex → Complex → Complex
product R0 n m = record { re = n.re *ℤ m.re; im = n.re *ℤ m.im }
product R90 n m = record { re = neg_ℤ (n.im *ℤ m.im); im = n.im *ℤ m.re }
product R180 n m = record { re = neg_ℤ (n.re *ℤ m.re); im = neg_ℤ (n.re *ℤ m.im) }
product R270 n m = record { re = n.im *ℤ m.im; im = neg_ℤ (n.im *ℤ m.re) }

-- f at both parts.
unfoldable pub each : (ℤ → ℤ) → Complex → Complex
each f a = record { re = f a.re; im = f a.im }

unfoldable pub each₂ : (ℤ → ℤ → ℤ) → Complex → Complex → Complex
each₂ f a b = record { re = f a.re b.re; im = f a.im b.im }

-- Part 0 is the real one.
unfoldable pub part : ℕ → Complex → ℤ
part zero a = a.re
part (suc e) a = a.im

-- The pair that each SVE2 family makes of the old pair, the pair of the first source and the pair of the second.
unfoldable pub cadd_of : Rotation → Complex → Complex → Complex → Complex
cadd_of r a _ b = turned r a b

unfoldable pub sqcadd_of : ℕ → Rotation → Complex → Complex → Complex → Complex
sqcadd_of N r a _ b = each (clamp N) (turned r a b)

unfoldable pub cmla_of : Rotation → Complex → Complex → Complex → Complex
cmla_of r c n m = each₂ ◌+ℤ◌ c (product r n m)

unfoldable pub sqrdcmlah_of : ℕ → Rotation → Complex → Complex → Complex → Complex
sqrdcmlah_of N r c n m = each₂ (saturated N) c (product r n m)

-- The pair of the second source for pair p: p itself, or the pair at the index in p's 128-bit segment.
unfoldable pub own : ℕ → ℕ
own p = p

unfoldable pub indexed : Size → ℕ → ℕ → ℕ
indexed z index p = p - p % pairs z + index

-- The bytes of an SVE2 result. Pair p is `result` of pair p of c and n and of pair `choose p` of m, each part modulo 2^N.
unfoldable pub pair_bytes : Size → (ℕ → ℕ) → (Complex → Complex → Complex → Complex) → Bytes → Bytes → Bytes → Bytes
pair_bytes z choose result c n m j =
    let p = j / (2 * bytes z) in
    byte_of (bits z) (part (j / bytes z % 2) (result (complex z c p) (complex z n p) (complex z m (choose p)))) (j % bytes z)

-- ---- lanes by element

-- The lanes of an Advanced SIMD operation: 1, 64/N or 128/N.
unfoldable pub lane_count : Form → Size → ℕ
lane_count Scalar z = 1
lane_count Vector64 z = 64 / bits z
lane_count Vector128 z = 128 / bits z

-- What an Advanced SIMD operation leaves in every byte above the first 16 of its destination. By Arm's manual a write of V*n* makes the rest of
-- Z*n* zero. Request A2 put this in the place of document 01's sentence that these bytes stay.
unfoldable pub above : ℕ
above = 0

-- SQRDMLAH adds the product, SQRDMLSH subtracts it.
abbrev pub adds : Bool
adds = false

abbrev pub subtracts : Bool
subtracts = true

-- Lane e of a result by element, rounded and not yet clamped.
unfoldable pub lane_value : Size → ℕ → Bool → Bytes → Bytes → Bytes → ℕ → ℤ
lane_value z index minus c n m e = rounded (bits z) (element z c e) (signed_by minus (element z n e *ℤ element z m index))

-- The end to which the clamp brings it.
unfoldable pub lane_end : Size → ℕ → Bool → Bytes → Bytes → Bytes → ℕ → End
lane_end z index minus c n m e = end_of (bits z) (lane_value z index minus c n m e)

-- The bytes of a result by element: the lanes, clamped, then zero up to byte 16, and what is left above.
unfoldable pub lane_bytes : Form → Size → ℕ → Bool → Bytes → Bytes → Bytes → Bytes
lane_bytes f z index minus c n m j =
    cond (ltb j 16)
    (cond (ltb (j / bytes z) (lane_count f z)) (byte_of (bits z) (clamp (bits z) (lane_value z index minus c n m (j / bytes z))) (j % bytes z)) 0)
    above

-- Some number below n passes the test.
unfoldable pub any_below : ℕ → (ℕ → Bool) → Bool
any_below zero test = false
any_below (suc n) test = test n || any_below n test

-- Some lane of a result by element clamps.
unfoldable pub lane_clamps : Form → Size → ℕ → Bool → Bytes → Bytes → Bytes → Bool
lane_clamps f z index minus c n m = any_below (lane_count f z) (λ e. changed (lane_end z index minus c n m e))

-- ---- lane by lane

-- The bytes of a result lane by lane: lane e is `result` of lane e of c and of lane e of m.
unfoldable pub lane_wise : Size → (ℤ → ℤ → ℤ) → Bytes → Bytes → Bytes
lane_wise z result c m j = byte_of (bits z) (result (element z c (j / bytes z)) (element z m (j / bytes z))) (j % bytes z)

-- ---- operations

-- Register r is one of `count` registers from the first on.
unfoldable pub in_group : ℕ → ℕ → ℕ → Bool
in_group first count r = leb first r && ltb r (first + count)

-- The operation writes register r.
unfoldable pub writes : Op → ℕ → Bool
writes (Cadd o) r = eqb r o.zdn
writes (Sqcadd o) r = eqb r o.zdn
writes (Cmla o) r = eqb r o.zda
writes (Sqrdcmlah o) r = eqb r o.zda
writes (CmlaIndexed o) r = eqb r o.zda
writes (SqrdcmlahIndexed o) r = eqb r o.zda
writes (Sqrdmlah o) r = eqb r o.rd
writes (Sqrdmlsh o) r = eqb r o.rd
writes (Sqdmulh o) r = in_group o.zdn (group_count o.group) r

-- The bytes that it writes into register r. All sources are read from the registers as they were before.
unfoldable pub written : Op → Regs → ℕ → Bytes
written (Cadd o) regs r = pair_bytes o.size own (cadd_of o.rot) (regs o.zdn) (regs o.zdn) (regs o.zm)
written (Sqcadd o) regs r = pair_bytes o.size own (sqcadd_of (bits o.size) o.rot) (regs o.zdn) (regs o.zdn) (regs o.zm)
written (Cmla o) regs r = pair_bytes o.size own (cmla_of o.rot) (regs o.zda) (regs o.zn) (regs o.zm)
written (Sqrdcmlah o) regs r = pair_bytes o.size own (sqrdcmlah_of (bits o.size) o.rot) (regs o.zda) (regs o.zn) (regs o.zm)
written (CmlaIndexed o) regs r = pair_bytes o.size (indexed o.size o.index) (cmla_of o.rot) (regs o.zda) (regs o.zn) (regs o.zm)
written (SqrdcmlahIndexed o) regs r = pair_bytes o.size (indexed o.size o.index) (sqrdcmlah_of (bits o.size) o.rot) (regs o.zda) (regs o.zn) (regs o.zm)
written (Sqrdmlah o) regs r = lane_bytes o.form o.size o.index adds (regs o.rd) (regs o.rn) (regs o.rm)
written (Sqrdmlsh o) regs r = lane_bytes o.form o.size o.index subtracts (regs o.rd) (regs o.rn) (regs o.rm)
written (Sqdmulh o) regs r = lane_wise o.size (doubled_high (bits o.size)) (regs r) (regs o.zm)

-- The registers after an operation: every register that it does not write stays.
unfoldable pub step : Op → Regs → Regs
step op regs r j = cond (writes op r) (written op regs r j) (regs r j)

-- The flag after an operation: SQRDMLAH and SQRDMLSH set it where a lane clamps, the others leave it.
unfoldable pub flag_after : Op → Regs → Bool → Bool
flag_after (Cadd o) regs flag = flag
flag_after (Sqcadd o) regs flag = flag
flag_after (Cmla o) regs flag = flag
flag_after (Sqrdcmlah o) regs flag = flag
flag_after (CmlaIndexed o) regs flag = flag
flag_after (SqrdcmlahIndexed o) regs flag = flag
flag_after (Sqrdmlah o) regs flag = flag || lane_clamps o.form o.size o.index adds (regs o.rd) (regs o.rn) (regs o.rm)
flag_after (Sqrdmlsh o) regs flag = flag || lane_clamps o.form o.size o.index subtracts (regs o.rd) (regs o.rn) (regs o.rm)
flag_after (Sqdmulh o) regs flag = flag

-- An operation of SQRDMLAH or SQRDMLSH.
unfoldable pub advanced_simd : Op → Bool
advanced_simd (Cadd o) = false
advanced_simd (Sqcadd o) = false
advanced_simd (Cmla o) = false
advanced_simd (Sqrdcmlah o) = false
advanced_simd (CmlaIndexed o) = false
advanced_simd (SqrdcmlahIndexed o) = false
advanced_simd (Sqrdmlah o) = true
advanced_simd (Sqrdmlsh o) = true
advanced_simd (Sqdmulh o) = false
