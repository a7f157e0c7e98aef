-- The case at hand, whose length and word count are read of the contents that are held behind the image (`image-part`). `row-place`: where its entry
-- stands. `rows-case`: bytes of its body. `rows-past`: behind the last body; `first_byte`, `one-taken`: one byte. `rows_few`, `rows-allowed`: what no stream
-- leaves. Assumes nothing.
use mathlib.Core.Path.{◌≡◌, refl, sym, ap, ◌∙◌}
use mathlib.Core.List.{List, [], ◌∷◌, ◌++◌}
use mathlib.Core.Bool.{true, false, true≢false}
use Prim.Native.Nat.{ℕ, ◌+◌, ◌*◌, ◌%◌, ◌<◌, ◌≤◌}
use native.Mathlib.Omega.{arith}
use lib.ListN.{length, get_or, take, drop, length-take, length-drop, take-append-drop}
use lib.Seq.{length-take-le, take-suc, take_at, drop_at}
use borrow.Author.Tests.{le-leb, lt-ltb}
use Rattle.isa.specs.Bytes.{word_at}
use Rattle.trace.specs.Trace.{cases_of, length_at, count_at, body_size, begins}
use Rattle.trace.specs.Stream.{Within}
use Rattle.trace.proofs.Contents.{contents-exact}
use Rattle.trace.proofs.Live.{contents-whole, past-within}
use Rattle.trace.proofs.Prefix.{word-append, word-drop}
use Rattle.stream.specs.Contents.{refused_on}
use Rattle.stream.specs.Kept.{entries_in, KeptWithin}
use Rattle.stream.specs.Steps.{allowed_at, JudgesCase, Judges}
use Rattle.stream.specs.declared.state.Marks.{Marks}
use Rattle.stream.specs.declared.state.Stepped.{Stepped}
use Rattle.stream.proofs.Padded.{padded-word}
use Rattle.trace.specs.declared.types.TraceRefusal.{TraceRefusal}
use Rattle.trace.specs.Stream.{End}
use Rattle.std.specs.Prelude.{Err}

-- ---- the image comes before the contents

pub image-part : (held : List ℕ) → length held ≡ 20480 → length (take 8192 held) ≡ 8192
image-part held size = length-take-le 8192 held (omega arith)

-- ---- one byte that is refused

pub first_byte : (bytes : List ℕ) → 0 < length bytes → take 1 bytes ≡ get_or bytes 0 0 ∷ []
first_byte bytes some = take-suc bytes 0 0 some

pub one-taken : (bytes : List ℕ) (e : End) (r : Stepped) → 0 < length bytes → r ≡ refused_on e → (1 ≤ r.taken) × (r.taken ≤ length bytes)
one-taken bytes e r some f = rw f (omega arith, some)

-- ---- what is read of the contents

pub row-place : (k : ℕ) → k < 1024 → 8192 + k * 8 % 18446744073709551616 + k * 4 % 18446744073709551616 ≡ 8192 + 12 * k
row-place k l = omega arith

module _ (held : List ℕ) (m : Marks) (h : List ℕ) (k : ℕ) (v : Within h k) (kept : KeptWithin h k (take 8192 held) (drop 8192 held) m) where
  number-held : (o p : ℕ) → o + 4 ≤ 12 * cases_of h → p ≡ 8192 + o → word_at held p ≡ word_at h (4 + o)
  number-held o p l e =
      let n = contents-whole h k v in
      let size : length (entries_in h) ≡ 12 * cases_of h = simp (length-take, length-drop) (omega arith) in
      word-drop held 8192 o p e ∙ ap (λ (s : List ℕ). word_at s o) kept.entries ∙ padded-word 12288 (entries_in h) o
      ∙ sym (word-append (entries_in h) (drop (12 * cases_of h) (drop 4 h)) o (omega arith))
      ∙ ap (λ (s : List ℕ). word_at s o) (take-append-drop (12 * cases_of h) (drop 4 h))
      ∙ sym (word-drop h 4 o (4 + o) refl)

  module _ (l : m.case < m.cases) where
    here : k < cases_of h
    here = omega (arith, kept.case, kept.cases)

    few : m.case < 1024
    few = omega (arith, kept.case, here, ((contents-exact h).0 v.contents).few)

    module _ (p L W : ℕ) (row : p ≡ 8192 + 12 * m.case) (e : L ≡ word_at held p) (f : W ≡ word_at held (p + 4)) where
      read_length : L ≡ length_at h k
      read_length = e ∙ number-held (12 * k) p (omega (arith, here)) (omega (arith, kept.case))

      read_count : W ≡ count_at h k
      read_count = f ∙ number-held (12 * k + 4) (p + 4) (omega (arith, here)) (omega (arith, kept.case)) ∙ ap (word_at h) (omega arith)

      at-hand : allowed_at L W m.course.at ≡ true
      unfolding begins
      at-hand =
          let entry = ((contents-exact h).0 v.contents).entries k here in
          let at = kept.body.at ∙ length-drop (begins h k) h in
          let short : m.course.at < body_size (length_at h k) (count_at h k) = omega (arith, v.to here, v.from) in
          rw (read_length, read_count, entry.ok, le-leb _ 4096 entry.few, lt-ltb _ _ short)

-- ---- bytes of the bodies

module _ (held : List ℕ) (m : Marks) (bytes : List ℕ) (r : Stepped) where
  pub rows-past : 0 < length bytes → m.cases ≤ m.case → r ≡ refused_on (Err TraceRefusal.BadTotal) → Judges held m bytes r held
  rows-past some all e h k v kept =
      let last : k ≡ cases_of h = omega (arith, kept.case, kept.cases, v.few) in
      rw (e, first_byte bytes some) (record {
        quiet = λ j a b. absurd (omega arith);
        told = sym (past-within h (get_or bytes 0 0) (rw last at v));
        kept = refl;
      })

  module _ (l : m.case < m.cases) where
    pub rows_few : 1024 ≤ m.case → Judges held m bytes r held
    rows_few many h k v kept = absurd (omega (arith, few held m h k v kept l))

    module _ (p L W : ℕ) (row : p ≡ 8192 + 12 * m.case) (e : L ≡ word_at held p) (f : W ≡ word_at held (p + 4)) where
      pub rows-allowed : false ≡ allowed_at L W m.course.at → Judges held m bytes r held
      rows-allowed other h k v kept = absurd (true≢false (sym (at-hand held m h k v kept l p L W row e f) ∙ sym other))

      pub rows-case : (image : List ℕ) → length image ≡ 8192 → JudgesCase L W (take 8192 held) m bytes r image → Judges held m bytes r (image ++ drop 8192 held)
      rows-case image size judged h k v kept =
          rw (take_at image (drop 8192 held) 8192 size, drop_at image (drop 8192 held) 8192 size)
          (judged h k (drop 8192 held) v (here held m h k v kept l) (read_length held m h k v kept l p L W row e f)
          (read_count held m h k v kept l p L W row e f) kept)
