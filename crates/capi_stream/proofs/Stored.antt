-- The marks of a state as bytes. `put_four`: a number stored behind others. `fours-none`, `fours-more`, `fours-all`: numbers in a row. `held_bytes`: the single
-- bytes behind them. `end-small`, `kind-range`: how large the numbers of an end and of a verdict are. `marks-back`: marks that were stored are read back,
-- where their numbers fit four bytes (`Small`). `marks-length`: they have 64 bytes. Assumes nothing.
use mathlib.Core.Path.{◌≡◌, refl, sym, ap, ◌∙◌}
use mathlib.Core.List.{List, [], ◌∷◌, ◌++◌, append_assoc, append-nil}
use mathlib.Core.Bool.{Bool, true, false}
use Prim.Native.Nat.{ℕ, suc, ◌+◌, ◌*◌, ◌/◌, ◌%◌, ◌<◌, ◌≤◌}
use native.Mathlib.Omega.{arith}
use native.Mathlib.Numerals.{add-one}
use lib.Dec.{eqb}
use lib.ListN.{length, get_or, set, take, replicate, length-append, length-set}
use lib.Seq.{take_all, take-suc, take-suc-set}
use Rattle.isa.specs.Bytes.{word_at}
use Rattle.trace.specs.Number.{verdict_kind, verdict_place, end_number}
use Rattle.trace.specs.Recorded.{four_of, fours_of, flag_number}
use Rattle.trace.specs.declared.types.Verdict.{Verdict}
use Rattle.trace.proofs.Written.{four_bytes}
use Rattle.stream.specs.declared.state.Phase.{Phase}
use Rattle.stream.specs.declared.state.Marks.{Marks}
use Rattle.capi_stream.specs.Marks.{phase_number, said_number, said_byte, marks_bytes}
use Rattle.capi_stream.specs.Read.{phase_of, said_of, marks_of}
use Rattle.trace.specs.declared.types.TraceRefusal.{TraceRefusal}
use Rattle.trace.specs.Stream.{End}
use Rattle.std.specs.Prelude.{Ok, Err}

-- ---- numbers

put_one : (b : List ℕ) (i j x : ℕ) → j ≡ i + 1 → i < length b → take j (set b i x) ≡ take i b ++ (x ∷ [])
put_one b i j x e l = let s : j ≡ suc i = omega arith in rw s (take-suc-set b i x l)

-- the bytes of a number stored one by one
abbrev four_in : List ℕ → ℕ → ℕ → List ℕ
four_in b at n = set (set (set (set b at (n % 256)) (at + 1) (n / 256 % 256)) (at + 2) (n / 65536 % 256)) (at + 3) (n / 16777216 % 256)

pub put_four : (b : List ℕ) (at n : ℕ) → at + 4 ≤ length b → take (at + 4) (four_in b at n) ≡ take at b ++ four_of n
unfolding four_of
put_four b at n l =
    let b₁ : List ℕ = set b at (n % 256) in
    let b₂ : List ℕ = set b₁ (at + 1) (n / 256 % 256) in
    let b₃ : List ℕ = set b₂ (at + 2) (n / 65536 % 256) in
    let e₀ = put_one b at (at + 1) (n % 256) refl (omega arith) in
    let e₁ = put_one b₁ (at + 1) (at + 2) (n / 256 % 256) (omega arith) (simp length-set (omega arith)) in
    let e₂ = put_one b₂ (at + 2) (at + 3) (n / 65536 % 256) (omega arith) (simp length-set (omega arith)) in
    let e₃ = put_one b₃ (at + 3) (at + 4) (n / 16777216 % 256) (omega arith) (simp length-set (omega arith)) in
    rw (e₃, e₂, e₁, e₀) (simp append_assoc)

fours-append : (a b : List ℕ) → fours_of (a ++ b) ≡ fours_of a ++ fours_of b
unfolding fours_of
fours-append [] b = refl
fours-append (n ∷ a) b = ap (λ (p : List ℕ). four_of n ++ p) (fours-append a b) ∙ sym (append_assoc (four_of n) (fours_of a) (fours_of b))

-- the first i of some numbers are stored
pub record Fours (numbers bytes : List ℕ) (i : ℕ) : Type 0 where
  pub sized : length bytes ≡ 4 * length numbers
  pub most : i ≤ length numbers
  pub first : take (i * 4) bytes ≡ fours_of (take i numbers)

module _ (numbers bytes : List ℕ) where
  pub fours-none : length bytes ≡ 4 * length numbers → Fours numbers bytes 0
  unfolding fours_of
  fours-none e = record { sized = e; most = omega arith; first = refl }

  pub fours-more : (i at : ℕ) (next : List ℕ) → at ≡ i * 4 → Fours numbers bytes i → i < length numbers → length next ≡ length bytes →
      take (at + 4) next ≡ take at bytes ++ four_of (get_or numbers i 0) → Fours numbers next (i + 1)
  unfolding fours_of
  fours-more i at next a f l e p =
      let on : (i + 1) * 4 ≡ at + 4 = omega arith in
      let stored : take at bytes ≡ fours_of (take i numbers) = rw a f.first in
      let n : ℕ = get_or numbers i 0 in
      let last : fours_of (n ∷ []) ≡ four_of n = append-nil (four_of n) in
      let longer : take (i + 1) numbers ≡ take i numbers ++ (n ∷ []) = rw add-one (take-suc numbers i 0 l) in
      record {
        sized = e ∙ f.sized;
        most = omega arith;
        first = rw on p ∙ ap (λ (x : List ℕ). x ++ four_of n) stored ∙ ap (λ (x : List ℕ). fours_of (take i numbers) ++ x) (sym last)
            ∙ sym (fours-append (take i numbers) (n ∷ [])) ∙ ap fours_of (sym longer);
      }

  pub fours-all : (i : ℕ) → Fours numbers bytes i → length numbers ≤ i → bytes ≡ fours_of numbers
  fours-all i f l = sym (take_all (i * 4) bytes (omega (arith, f.sized))) ∙ f.first ∙ ap fours_of (take_all i numbers l)

-- ---- bytes

four-elim : (P : List ℕ → Type 0) → ((a b c d : ℕ) → P (a ∷ b ∷ c ∷ d ∷ [])) → (held : List ℕ) → length held ≡ 4 → P held
four-elim P f [] l = absurd (omega arith)
four-elim P f (a ∷ []) l = absurd (omega arith)
four-elim P f (a ∷ b ∷ []) l = absurd (omega arith)
four-elim P f (a ∷ b ∷ c ∷ []) l = absurd (omega arith)
four-elim P f (a ∷ b ∷ c ∷ d ∷ []) l = f a b c d
four-elim P f (a ∷ b ∷ c ∷ d ∷ x ∷ held) l = absurd (omega arith)

-- four bytes and one more, stored in zeros
abbrev held_in : List ℕ → List ℕ → ℕ → List ℕ
held_in zeros held byte = set (set (set (set (set zeros 0 (get_or held 0 0)) 1 (get_or held 1 0)) 2 (get_or held 2 0)) 3 (get_or held 3 0)) 4 byte

pub held_bytes : (held zeros : List ℕ) (byte : ℕ) → length held ≡ 4 → zeros ≡ replicate 32 0 → held_in zeros held byte ≡ held ++ byte ∷ replicate 27 0
held_bytes held zeros byte l e =
    ap (λ (z : List ℕ). held_in z held byte) e
    ∙ four-elim (λ (h : List ℕ). held_in (replicate 32 0) h byte ≡ h ++ byte ∷ replicate 27 0) (λ a b c d. refl) held l

-- the first four of some bytes
abbrev first_four : List ℕ → List ℕ
first_four b = get_or b 0 0 ∷ get_or b 1 0 ∷ get_or b 2 0 ∷ get_or b 3 0 ∷ []

held_back : (held rest : List ℕ) (byte : ℕ) → length held ≡ 4 → (first_four (held ++ byte ∷ rest) ≡ held) × (get_or (held ++ byte ∷ rest) 4 0 ≡ byte)
held_back held rest byte l =
    four-elim (λ (h : List ℕ). (first_four (h ++ byte ∷ rest) ≡ h) × (get_or (h ++ byte ∷ rest) 4 0 ≡ byte)) (λ a b c d. (refl, refl)) held l

-- ---- the phase, the verdict and the flag

pub end-small : (e : End) → end_number e < 0x100
end-small (Ok tt) = omega arith
end-small (Err TraceRefusal.BadContents) = omega arith
end-small (Err TraceRefusal.BadTotal) = omega arith

pub kind-range : (v : Verdict) → (1 ≤ verdict_kind v) × (verdict_kind v < 0x100)
kind-range Verdict.Agrees = (omega arith, omega arith)
kind-range (Verdict.FileDiffers i x) = (omega arith, omega arith)
kind-range Verdict.FlagDiffers = (omega arith, omega arith)
kind-range (Verdict.Outside k) = (omega arith, omega arith)
kind-range (Verdict.Reserved k) = (omega arith, omega arith)
kind-range Verdict.BadFlag = (omega arith, omega arith)

phase-small : (p : Phase) → phase_number p < 4294967296
phase-small Phase.Contents = omega arith
phase-small Phase.Bodies = omega arith
phase-small (Phase.Ended e) = omega (arith, end-small e)

flag_small : (q : Bool) → flag_number q < 4294967296
flag_small true = omega arith
flag_small false = omega arith

phase-back : (p : Phase) → phase_of (phase_number p) ≡ p
unfolding phase_of
phase-back Phase.Contents = refl
phase-back Phase.Bodies = refl
phase-back (Phase.Ended (Ok tt)) = refl
phase-back (Phase.Ended (Err TraceRefusal.BadContents)) = refl
phase-back (Phase.Ended (Err TraceRefusal.BadTotal)) = refl

said-back : (v : Verdict) → said_of (said_number v) (verdict_place v) (said_byte v) ≡ v
unfolding said_of
said-back Verdict.Agrees = refl
said-back (Verdict.FileDiffers i x) = refl
said-back Verdict.FlagDiffers = refl
said-back (Verdict.Outside k) = refl
said-back (Verdict.Reserved k) = refl
said-back Verdict.BadFlag = refl

flag-back : (q : Bool) → eqb (flag_number q) 1 ≡ q
flag-back true = refl
flag-back false = refl

-- ---- all marks

-- numbers that fit four bytes, and as many bytes as are held
pub record Small (m : Marks) : Type 0 where
  pub cases : m.cases < 4294967296
  pub case : m.case < 4294967296
  pub due : m.due < 4294967296
  pub at : m.course.at < 4294967296
  pub place : verdict_place m.course.standing.said < 4294967296
  pub held : length m.course.held ≡ 4

module _ (m : Marks) (s : Small m) where
  pub marks-length : length (marks_bytes m) ≡ 64
  unfolding marks_bytes fours_of four_of
  marks-length = omega (arith, length-append m.course.held (said_byte m.course.standing.said ∷ replicate 27 0), s.held)

  pub marks-back : marks_of (marks_bytes m) ≡ m
  unfolding marks_bytes fours_of four_of word_at
  marks-back =
      let v : Verdict = m.course.standing.said in
      let q : Bool = m.course.standing.qc in
      let phase = ap phase_of (four_bytes (phase_number m.phase) (phase-small m.phase)) ∙ phase-back m.phase in
      let cases = four_bytes m.cases s.cases in
      let case = four_bytes m.case s.case in
      let due = four_bytes m.due s.due in
      let at = four_bytes m.course.at s.at in
      let number = four_bytes (said_number v) (omega (arith, (kind-range v).1)) in
      let place = four_bytes (verdict_place v) s.place in
      let qc = ap (λ (n : ℕ). eqb n 1) (four_bytes (flag_number q) (flag_small q)) ∙ flag-back q in
      let rest = held_back m.course.held (replicate 27 0) (said_byte v) s.held in
      let held = rest.0 in
      let byte = rest.1 in
      let said = (λ i. said_of (number i) (place i) (byte i)) ∙ said-back v in
      λ i. record {
        phase = phase i;
        cases = cases i;
        case = case i;
        due = due i;
        course = record { at = at i; held = held i; standing = record { said = said i; qc = qc i } };
      }
