-- What is read of bytes does not depend on those around them. `word-append`: a word, nor on the bytes behind it. `word-drop`: nor on those ahead of it.
-- `begins-append`, `allowed-append`, `case-append`: the start of a body, whether a number of the contents is allowed, and a case's verdict, by the bytes of a
-- trace so far. Assumes nothing.
use mathlib.Core.Path.{◌≡◌, ap, ap₂, ◌∙◌}
use mathlib.Core.List.{List, ◌++◌}
use mathlib.Core.Bool.{◌&&◌}
use Prim.Native.Nat.{ℕ, zero, suc, ◌+◌, ◌*◌, ◌/◌, ◌%◌, ◌<◌, ◌≤◌}
use native.Mathlib.Omega.{arith}
use lib.Dec.{leb, eqb}
use lib.ListN.{length, get_or, take, drop, length-drop, get_or-append}
use lib.Seq.{get_or-drop, take-append-le, drop-append-le}
use Rattle.isa.specs.Bytes.{word_at}
use Rattle.isa.specs.File.{legal}
use Rattle.trace.specs.Trace.{length_at, count_at, start_at, body_size, begins, body_of, field_allowed, number_allowed}
use Rattle.trace.specs.Verdict.{case_of}

-- ---- words

pub word-append : (h x : List ℕ) (at : ℕ) → at + 4 ≤ length h → word_at (h ++ x) at ≡ word_at h at
unfolding word_at
word-append h x at l =
    let e₀ = get_or-append h x 0 at (omega arith) in
    let e₁ = get_or-append h x 0 (at + 1) (omega arith) in
    let e₂ = get_or-append h x 0 (at + 2) (omega arith) in
    let e₃ = get_or-append h x 0 (at + 3) (omega arith) in
    omega arith

pub word-drop : (b : List ℕ) (m at n : ℕ) → n ≡ m + at → word_at b n ≡ word_at (drop m b) at
unfolding word_at
word-drop b m at n e =
    let byte : (i j : ℕ) → i ≡ m + j → get_or b i 0 ≡ get_or (drop m b) j 0 = λ i j f. rw (f, get_or-drop) in
    let e₀ = byte n at e in
    let e₁ = byte (n + 1) (at + 1) (omega arith) in
    let e₂ = byte (n + 2) (at + 2) (omega arith) in
    let e₃ = byte (n + 3) (at + 3) (omega arith) in
    omega arith

-- ---- a trace of which the bytes h are there

module _ (h x : List ℕ) where
  pub begins-append : (k : ℕ) → 4 + 12 * k ≤ length h → begins (h ++ x) k ≡ begins h k
  unfolding begins
  begins-append zero l = ap (λ (c : ℕ). 4 + 12 * c) (word-append h x 0 (omega arith))
  begins-append (suc k) l =
      let b = begins-append k (omega arith) in
      let f = word-append h x (4 + 12 * k) (omega arith) in
      let g = word-append h x (8 + 12 * k) (omega arith) in
      omega arith

  field-append : (f k : ℕ) → f < 3 → 4 + 12 * k + 4 * f + 4 ≤ length h → field_allowed f (h ++ x) k ≡ field_allowed f h k
  field-append zero k s l = ap legal (word-append h x (4 + 12 * k) (omega arith))
  field-append (suc zero) k s l = ap (λ (n : ℕ). leb n 4096) (word-append h x (8 + 12 * k) (omega arith))
  field-append (suc (suc f)) k s l = ap₂ eqb (word-append h x (12 + 12 * k) (omega arith)) (begins-append k (omega arith))

  -- number i is whole
  pub allowed-append : (i : ℕ) → 4 * i + 4 ≤ length h → number_allowed (h ++ x) i ≡ number_allowed h i
  unfolding number_allowed
  allowed-append zero l = ap (λ (c : ℕ). leb 1 c && leb c 1024) (word-append h x 0 (omega arith))
  allowed-append (suc j) l = field-append (j % 3) (j / 3) (omega arith) (omega arith)

  -- the entry and the body of case k are whole
  pub case-append : (k : ℕ) → 16 + 12 * k ≤ length h → start_at h k + body_size (length_at h k) (count_at h k) ≤ length h → case_of (h ++ x) k ≡ case_of h k
  unfolding case_of body_of
  case-append k l m =
      let a = word-append h x (4 + 12 * k) (omega arith) in
      let b = word-append h x (8 + 12 * k) (omega arith) in
      let c = word-append h x (12 + 12 * k) (omega arith) in
      let size : ℕ = body_size (length_at h k) (count_at h k) in
      let body : take size (drop (start_at h k) (h ++ x)) ≡ take size (drop (start_at h k) h) =
      ap (take size) (drop-append-le (start_at h k) h x (omega arith)) ∙ take-append-le size (drop (start_at h k) h) x (simp length-drop (omega arith)) in
      rw (a, b, c, body)
