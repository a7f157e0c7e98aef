-- Document 01, 'Numbers returned', with request A5's 11 and request A3's 14: when each number is given, and what is returned and left beside it. A line holds where its
-- own condition does and no earlier check applies. What a definition answers, as numbers and values, is `RunsAs` and its like; the theorems say that it
-- is one exactly where the line is: `call-exact`, `check-exact`, `register-exact`, `decode-exact` (proofs/Returned.antt), `encode-exact`
-- (proofs/Checks.antt).
use Rattle.std.specs.Prelude.{◌≡◌, ℕ, ◌*◌, ◌/◌, ◌<◌, ◌≤◌, Bool, true, false, List, [], ◌∷◌, length, get_or, take, drop}
use Rattle.isa.specs.Allowed.{AllowedWord, ReservedWord, OutsideWord}
use Rattle.isa.specs.Decode.{decode_of}
use Rattle.isa.specs.Encode.{write_checks, encode_of}
use Rattle.isa.specs.File.{legal, NotPowerOfTwo, check_of, register_check, register_of}
use Rattle.isa.specs.Run.{State, start, run, outcome_of}
use Rattle.isa.specs.Number.{decoded_number, decoded_operation, written_number, written_word, checked_number, asked_number, run_number, run_left}
use Rattle.isa.specs.declared.types.Op.{Op}

-- ---- executing: 1, 11, 2, 3, then word by word 4 or 5

-- none of 1, 11, 2 and 3 applies
pub record Runs (L : ℕ) (file words : List ℕ) : Type 0 where
  pub ok : legal L ≡ true
  pub sized : length file ≡ 4 * L
  pub short : length words ≤ 4096

-- the first k words are operations
abbrev pub Operations : List ℕ → ℕ → Type 0
Operations words k = (i : ℕ) → i < k → AllowedWord (get_or words i 0)

-- the file and the flag as after the first k words, and their count
abbrev pub after_words : ℕ → List ℕ → Bool → List ℕ → ℕ → State
after_words L file qc words k = record {
  file = (run L (take k words) (start file qc)).file;
  qc = (run L (take k words) (start file qc)).answer.qc;
  done = k;
}

-- the number, and the file, the flag and the words done
pub data RunReturns (L : ℕ) (file : List ℕ) (qc : Bool) (words : List ℕ) : ℕ → State → Type 0 where
  done : Runs L file words → Operations words (length words) → RunReturns L file qc words 0 (after_words L file qc words (length words))
  bad_length : legal L ≡ false → (NotPowerOfTwo L → ⊥) → RunReturns L file qc words 1 (start file qc)
  not_power_of_two : NotPowerOfTwo L → RunReturns L file qc words 11 (start file qc)
  bad_size : legal L ≡ true → (length file ≡ 4 * L → ⊥) → RunReturns L file qc words 2 (start file qc)
  too_long : legal L ≡ true → length file ≡ 4 * L → 4096 < length words → RunReturns L file qc words 3 (start file qc)
  outside : (k : ℕ) → Runs L file words → Operations words k → k < length words → OutsideWord (get_or words k 0) →
      RunReturns L file qc words 4 (after_words L file qc words k)
  reserved : (k : ℕ) → Runs L file words → Operations words k → k < length words → ReservedWord (get_or words k 0) →
      RunReturns L file qc words 5 (after_words L file qc words k)

abbrev pub RunsAs : ℕ → List ℕ → Bool → List ℕ → ℕ → State → Type 0
RunsAs L file qc words n s = (run_number (outcome_of L file qc words) ≡ n) × (run_left (outcome_of L file qc words) ≡ s)

-- ---- a length and a size alone: 1, 11, 2

pub data CheckReturns (L size : ℕ) : ℕ → Type 0 where
  passed : legal L ≡ true → size ≡ 4 * L → CheckReturns L size 0
  bad_length : legal L ≡ false → (NotPowerOfTwo L → ⊥) → CheckReturns L size 1
  not_power_of_two : NotPowerOfTwo L → CheckReturns L size 11
  bad_size : legal L ≡ true → (size ≡ 4 * L → ⊥) → CheckReturns L size 2

abbrev pub ChecksAs : ℕ → ℕ → ℕ → Type 0
ChecksAs L size n = checked_number (check_of L size) ≡ n

-- ---- asking for a register: 1, 11, 2, 6; the number, and the part handed out

pub data RegisterReturns (L : ℕ) (file : List ℕ) (r : ℕ) : ℕ → List ℕ → Type 0 where
  found : legal L ≡ true → length file ≡ 4 * L → r ≤ 31 → RegisterReturns L file r 0 (take (L / 8) (drop (r * (L / 8)) file))
  bad_length : legal L ≡ false → (NotPowerOfTwo L → ⊥) → RegisterReturns L file r 1 []
  not_power_of_two : NotPowerOfTwo L → RegisterReturns L file r 11 []
  bad_size : legal L ≡ true → (length file ≡ 4 * L → ⊥) → RegisterReturns L file r 2 []
  no_register : legal L ≡ true → length file ≡ 4 * L → 31 < r → RegisterReturns L file r 6 []

abbrev pub AsksAs : ℕ → List ℕ → ℕ → ℕ → List ℕ → Type 0
AsksAs L file r n part = (asked_number (register_check L (length file) r) ≡ n) × (register_of L file r ≡ part)

-- ---- writing: 7, 8, 9, 14, 10; the number, and the word

pub data WriteReturns (op : Op) : ℕ → ℕ → Type 0 where
  done : (write_checks op).size ≡ true → (write_checks op).rotation ≡ true → (write_checks op).registers ≡ true → (write_checks op).start ≡ true →
      (write_checks op).index ≡ true → WriteReturns op 0 (write_checks op).word
  no_size : (write_checks op).size ≡ false → WriteReturns op 7 0
  no_rotation : (write_checks op).size ≡ true → (write_checks op).rotation ≡ false → WriteReturns op 8 0
  register_limit : (write_checks op).size ≡ true → (write_checks op).rotation ≡ true → (write_checks op).registers ≡ false → WriteReturns op 9 0
  group_start : (write_checks op).size ≡ true → (write_checks op).rotation ≡ true → (write_checks op).registers ≡ true → (write_checks op).start ≡ false →
      WriteReturns op 14 0
  index_limit : (write_checks op).size ≡ true → (write_checks op).rotation ≡ true → (write_checks op).registers ≡ true → (write_checks op).start ≡ true →
      (write_checks op).index ≡ false → WriteReturns op 10 0

abbrev pub WritesAs : Op → ℕ → ℕ → Type 0
WritesAs op n w = (written_number (encode_of op) ≡ n) × (written_word (encode_of op) ≡ w)

-- ---- decoding: the number, and the operation, which is the one that is written as the word

pub data DecodeReturns (w : ℕ) : ℕ → List Op → Type 0 where
  operation : (op : Op) → AllowedWord w → WriteReturns op 0 w → DecodeReturns w 0 (op ∷ [])
  outside : OutsideWord w → DecodeReturns w 4 []
  reserved : ReservedWord w → DecodeReturns w 5 []

abbrev pub DecodesAs : ℕ → ℕ → List Op → Type 0
DecodesAs w n v = (decoded_number (decode_of w) ≡ n) × (decoded_operation (decode_of w) ≡ v)
