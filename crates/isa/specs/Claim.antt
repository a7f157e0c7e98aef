-- Demand 3: runs at two vector lengths, a run and its 128-bit segments run alone, and the call that runs a program.
use Rattle.std.specs.Prelude.{◌≡◌, ℕ, ◌*◌, ◌/◌, ◌<◌, ◌≤◌, min, Bool, true, false, List, length, get_or}
use Rattle.isa.specs.Register.{segment}
use Rattle.isa.specs.Decode.{decode_of}
use Rattle.isa.specs.Meaning.{advanced_simd}
use Rattle.isa.specs.File.{legal, byte_at, file_of}
use Rattle.isa.specs.Run.{start, run, outcome_of}
use Rattle.isa.specs.declared.types.Decoded.{Decoded}

-- document 01's 'agree': two files, of the lengths L₁ and L₂, have the same first `count` bytes in each register
unfoldable pub Agree : (count L₁ L₂ : ℕ) → List ℕ → List ℕ → Type 0
Agree count L₁ L₂ f₁ f₂ = (r j : ℕ) → r < 32 → j < count → byte_at L₁ f₁ r j ≡ byte_at L₂ f₂ r j

-- document 01's 'segment' k of a file of length L, to be run alone: bytes 16k to 16k+15 of each register, registers in order
unfoldable pub segment_file : ℕ → ℕ → List ℕ → List ℕ
segment_file L k file = file_of 128 (segment k (byte_at L file))

-- document 01's 'Advanced SIMD word': one that decodes to an operation of SQRDMLAH or SQRDMLSH
abbrev pub simd_decoded : Decoded → Bool
simd_decoded (Decoded.Operation op) = advanced_simd op
simd_decoded Decoded.Reserved = false
simd_decoded Decoded.Outside = false

unfoldable pub simd_word : ℕ → Bool
simd_word w = simd_decoded (decode_of w)

-- two lengths: the same answer, count and flag, and the registers still agree up to the shorter
pub record TwoLengths (words : List ℕ) (L₁ L₂ : ℕ) (f₁ f₂ : List ℕ) (qc : Bool) : Type 0 where
  pub same : (outcome_of L₁ f₁ qc words).answer ≡ (outcome_of L₂ f₂ qc words).answer
  pub agree : Agree (min L₁ L₂ / 8) L₁ L₂ (outcome_of L₁ f₁ qc words).file (outcome_of L₂ f₂ qc words).file

-- a segment: the same answer, count and flag as the run of the segment alone, and that run's file
pub record OneSegment (words : List ℕ) (L k : ℕ) (file : List ℕ) (qc : Bool) : Type 0 where
  pub same : (outcome_of L file qc words).answer ≡ (outcome_of 128 (segment_file L k file) qc words).answer
  pub left : segment_file L k (outcome_of L file qc words).file ≡ (outcome_of 128 (segment_file L k file) qc words).file

-- the whole claim, for every program of up to 4,096 words, every two legal lengths, every file of the right size and every flag
pub record LengthAgnostic : Type 0 where
  pub lengths :
      (words : List ℕ) → length words ≤ 4096 →
      (L₁ L₂ : ℕ) → legal L₁ ≡ true → legal L₂ ≡ true →
      (f₁ f₂ : List ℕ) → length f₁ ≡ 4 * L₁ → length f₂ ≡ 4 * L₂ →
      (qc : Bool) → Agree (min L₁ L₂ / 8) L₁ L₂ f₁ f₂ →
      TwoLengths words L₁ L₂ f₁ f₂ qc
  pub segments :
      (words : List ℕ) → length words ≤ 4096 →
      (L k : ℕ) → legal L ≡ true → k < L / 128 →
      (file : List ℕ) → length file ≡ 4 * L →
      (qc : Bool) →
      ((i : ℕ) → i < (outcome_of L file qc words).answer.done → simd_word (get_or words i 0) ≡ false) →
      OneSegment words L k file qc
  -- and the call that runs a program answers and leaves what the defined run does
  pub defined :
      (words : List ℕ) → length words ≤ 4096 →
      (L : ℕ) → legal L ≡ true →
      (file : List ℕ) → length file ≡ 4 * L →
      (qc : Bool) →
      outcome_of L file qc words ≡ run L words (start file qc)
