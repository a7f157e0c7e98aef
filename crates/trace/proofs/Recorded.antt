-- What is said of a trace that was written of recordings. `recorded-agrees`: a recording of document 01's run agrees. `changed-byte`, `changed-flag`: a
-- byte of the file after that is changed, or the flag after turned, is told. `stopped-outside`, `stopped-reserved`: of a run that stops, the word is told.
-- `recorded`: all of it. `run-left`: the file that a run leaves is of the size that can be recorded. Assumes nothing.
use mathlib.Core.Path.{◌≡◌, refl, sym, ap, ◌∙◌}
use mathlib.Core.List.{List}
use mathlib.Core.Bool.{Bool, true, false, not}
use Prim.Native.Nat.{ℕ, ◌*◌, ◌<◌, ◌≤◌}
use native.Mathlib.Nat.{zero-add}
use native.Mathlib.Omega.{arith}
use lib.ListN.{length, get_or, set, length-set}
use lib.Seq.{get_or-set_same, get_or-set_other}
use borrow.Author.Tests.{lt-ltb}
use Rattle.isa.specs.File.{legal}
use Rattle.isa.proofs.Order.{run-otherwise}
use Rattle.isa.specs.declared.types.Ending.{Ending}
use Rattle.trace.specs.Verdict.{is_flag, flag_of, compared, flags, besides, verdict_on, verdict_of, case_of, judge_of}
use Rattle.trace.specs.Recorded.{Recording, flag_number, At, AllRecordable, ran_of, FileOf, RunOf, changed_byte, turned_flag, read_as, Says, Recorded}
use Rattle.trace.specs.declared.types.Verdict.{Verdict}
use Rattle.trace.proofs.Compared.{compared_same, compared-differs}
use Rattle.trace.proofs.Pieces.{run-kept}
use Rattle.trace.proofs.Written.{at_there, recorded-body, recorded-accepted}
use Rattle.std.specs.Prelude.{Ok}

-- the flags are read as they were written
flag-allowed : (b : Bool) → is_flag (flag_number b) ≡ true
flag-allowed true = refl
flag-allowed false = refl

flag-read : (b : Bool) → flag_of (flag_number b) ≡ b
flag-read true = refl
flag-read false = refl

flags-same : (b : Bool) → flags b b ≡ Verdict.Agrees
flags-same true = refl
flags-same false = refl

flags-turned : (b : Bool) → flags b (not b) ≡ Verdict.FlagDiffers
flags-turned true = refl
flags-turned false = refl

-- one byte is changed
compared-changed : (v : Verdict) (xs : List ℕ) (i y : ℕ) → i < length xs → (get_or xs i 0 ≡ y → ⊥) → compared 0 xs (set xs i y) v ≡ Verdict.FileDiffers i (get_or xs i 0)
compared-changed v xs i y l other =
    let earlier : (j : ℕ) → j < i → j ≡ i → ⊥ = λ j b e. omega arith in
    compared-differs v xs (set xs i y) 0 i (length-set xs i y) l (λ j b. sym (get_or-set_other xs i j y 0 (earlier j b))) (λ e. other (e ∙ get_or-set_same xs i y 0 l))
    ∙ ap (λ n. Verdict.FileDiffers n (get_or xs i 0)) (zero-add i)

module _ (r : Recording) (f : FileOf r) where
  -- the file after of a run can be recorded
  pub run-left : legal r.bits ≡ true → length r.file ≡ 4 * r.bits → length r.words ≤ 4096 → length r.left ≡ 4 * r.bits
  run-left ok sized few = rw (← f.left, run-otherwise r.bits r.file r.before r.words ok sized few) (run-kept r.bits r.words _ sized)

  file-said : (after : Bool) (left : List ℕ) → besides (ran_of r) after left ≡ compared 0 r.left left (flags (ran_of r).answer.qc after)
  file-said after left = rw (f.done, f.left)

  flag-said : (after : Bool) → besides (ran_of r) after r.left ≡ flags (ran_of r).answer.qc after
  flag-said after = file-said after r.left ∙ compared_same _ r.left r.left 0 refl (λ i l. refl)

module _ (rs : List Recording) (all : AllRecordable rs) where
  says : (k : ℕ) (r : Recording) {v : Verdict} → At rs k r → besides (ran_of r) r.after r.left ≡ v → Says rs k v
  unfolding judge_of case_of verdict_of
  says k r here e =
      let reads = recorded-body rs all k r here in
      let flags-read : verdict_on r.bits (read_as r) ≡ besides (ran_of r) r.after r.left =
      rw (flag-allowed r.before, flag-allowed r.after, flag-read r.before, flag-read r.after) in
      rw (recorded-accepted rs all, lt-ltb k (length rs) (at_there rs k r here).0, reads.body, reads.bits) (ap Ok (flags-read ∙ e))

  pub recorded-agrees : (k : ℕ) (r : Recording) → At rs k r → RunOf r → Says rs k Verdict.Agrees
  recorded-agrees k r here run = says k r here (flag-said r run.file r.after ∙ rw run.flag (flags-same r.after))

  pub changed-byte : (k i y : ℕ) (r : Recording) → At rs k (changed_byte i y r) → FileOf r → i < 4 * r.bits → (get_or r.left i 0 ≡ y → ⊥) →
      Says rs k (Verdict.FileDiffers i (get_or r.left i 0))
  changed-byte k i y r here f l other =
      let within : i < length r.left = omega (arith, length-set r.left i y, (all.each k (changed_byte i y r) here).left) in
      says k (changed_byte i y r) here (file-said r f r.after (set r.left i y) ∙ compared-changed _ r.left i y within other)

  pub changed-flag : (k : ℕ) (r : Recording) → At rs k (turned_flag r) → RunOf r → Says rs k Verdict.FlagDiffers
  changed-flag k r here run = says k (turned_flag r) here (flag-said r run.file (not r.after) ∙ rw run.flag (flags-turned r.after))

  pub stopped-outside : (k : ℕ) (r : Recording) → At rs k r → (ran_of r).answer.ending ≡ Ending.Outside → Says rs k (Verdict.Outside (ran_of r).answer.done)
  stopped-outside k r here e = says k r here (rw e)

  pub stopped-reserved : (k : ℕ) (r : Recording) → At rs k r → (ran_of r).answer.ending ≡ Ending.Reserved → Says rs k (Verdict.Reserved (ran_of r).answer.done)
  stopped-reserved k r here e = says k r here (rw e)

  pub recorded : Recorded rs
  recorded = record {
    accepted = recorded-accepted rs all;
    reads = recorded-body rs all;
    agrees = recorded-agrees;
    byte = changed-byte;
    flag = changed-flag;
    outside = stopped-outside;
    reserved = stopped-reserved;
  }
