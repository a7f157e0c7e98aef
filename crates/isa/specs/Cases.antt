-- The cases that document 01 marks to be proved, one table: P1 to P12.
use Rattle.std.specs.Prelude.{ℕ, zero, suc, ◌^◌, ◌≡◌, Bool, List, [], ◌∷◌, ℤ, pos, neg_ℤ, ◌*ℤ◌}
use Rattle.integer.specs.Number.{End, neither, cut_down, raised, pattern, end_of, rounded, signed_by}
use Rattle.integer.specs.Lane.{saturated}
use Rattle.isa.specs.Register.{Regs, complex}
use Rattle.isa.specs.Decode.{decode_of}
use Rattle.isa.specs.Meaning.{step, adds, subtracts}
use Rattle.isa.specs.declared.types.Size.{Size}
use Rattle.isa.specs.declared.types.Rotation.{Rotation}
use Rattle.isa.specs.declared.types.Form.{Form}
use Rattle.isa.specs.declared.types.Op.{Op}
use Rattle.isa.specs.declared.types.Decoded.{Decoded}

-- What a case says.
pub data Case : Type 0 where
  -- a word, and what it decodes to
  decodes : ℕ → Decoded → Case
  -- an operation on registers of bytes, and the real and imaginary lane of pair 0 of register 0 after it
  leaves : Op → Regs → ℤ → ℤ → Case
  -- a lane of N bits, plus or minus, its addend and factors; what it becomes, and which end it was brought to
  rounds : ℕ → Bool → ℤ → ℤ → ℤ → ℤ → End → Case

abbrev pub Holds : Case → Type 0
Holds (decodes w d) = decode_of w ≡ d
Holds (leaves op regs re im) = ((complex Size.B (step op regs 0) 0).re ≡ re) × ((complex Size.B (step op regs 0) 0).im ≡ im)
Holds (rounds N minus c a b lane end) = (saturated N c (signed_by minus (a *ℤ b)) ≡ lane) × (end_of N (rounded N c (signed_by minus (a *ℤ b))) ≡ end)

abbrev pub AllHold : List Case → Type 0
AllHold [] = Unit {0}
AllHold (c ∷ cs) = Holds c × AllHold cs

-- register 0 starts with the pair (a, b) of bytes, every other with (c, d)
unfoldable pub holding : ℤ → ℤ → ℤ → ℤ → Regs
holding a b c d zero zero = pattern 8 a
holding a b c d zero (suc j) = pattern 8 b
holding a b c d (suc r) zero = pattern 8 c
holding a b c d (suc r) (suc j) = pattern 8 d

abbrev pub negative : ℕ → ℤ
negative n = neg_ℤ (pos n)

abbrev pub cases : List Case
cases =
    -- P1
    decodes 0x4501_D800 (Decoded.Operation (Op.Sqcadd (record { size = Size.B; rot = Rotation.R90; zm = 0; zdn = 0 }))) ∷
    -- P2
    decodes 0x4541_DCA3 (Decoded.Operation (Op.Sqcadd (record { size = Size.H; rot = Rotation.R270; zm = 5; zdn = 3 }))) ∷
    -- P3
    decodes 0x44BA_7420 (Decoded.Operation (Op.SqrdcmlahIndexed (record { size = Size.H; rot = Rotation.R90; zm = 2; index = 3; zn = 1; zda = 0 }))) ∷
    -- P4
    decodes 0x44FF_7FDF (Decoded.Operation (Op.SqrdcmlahIndexed (record { size = Size.S; rot = Rotation.R270; zm = 15; index = 1; zn = 30; zda = 31 }))) ∷
    -- P5
    decodes 0x44C2_3820 (Decoded.Operation (Op.Sqrdcmlah (record { size = Size.D; rot = Rotation.R180; zm = 2; zn = 1; zda = 0 }))) ∷
    -- P6
    decodes 0x2F72_F820 (Decoded.Operation (Op.Sqrdmlsh (record { form = Form.Vector64; size = Size.H; rm = 2; index = 7; rn = 1; rd = 0 }))) ∷
    -- P7
    decodes 0x2F00_F000 Decoded.Reserved ∷
    decodes 0x2FC0_F000 Decoded.Reserved ∷
    decodes 0x2F00_F400 Decoded.Outside ∷
    decodes 0x4420_7000 Decoded.Outside ∷
    decodes 0x0000_0000 Decoded.Outside ∷
    -- P8
    leaves (Op.Sqcadd (record { size = Size.B; rot = Rotation.R90; zm = 1; zdn = 0 })) (holding (pos 0) (pos 0) (negative 128) (negative 128)) (pos 127) (negative 128) ∷
    leaves (Op.Cadd (record { size = Size.B; rot = Rotation.R90; zm = 1; zdn = 0 })) (holding (pos 0) (pos 0) (negative 128) (negative 128)) (negative 128) (negative 128) ∷
    -- P9
    rounds 16 adds (negative 1) (negative 32768) (negative 32768) (pos 32767) neither ∷
    rounds 16 adds (pos 0) (negative 32768) (negative 32768) (pos 32767) cut_down ∷
    -- P10
    rounds 16 adds (pos 5) (pos 128) (pos 128) (pos 6) neither ∷
    rounds 16 subtracts (pos 5) (pos 128) (pos 128) (pos 5) neither ∷
    -- P11
    rounds 64 subtracts (pos 0) (negative (2 ^ 63)) (negative (2 ^ 63)) (negative (2 ^ 63)) neither ∷
    rounds 64 subtracts (negative 1) (negative (2 ^ 63)) (negative (2 ^ 63)) (negative (2 ^ 63)) raised ∷
    -- P12
    leaves (Op.Sqcadd (record { size = Size.B; rot = Rotation.R90; zm = 0; zdn = 0 })) (holding (pos 1) (pos 2) (pos 1) (pos 2)) (negative 1) (pos 3) ∷ []
