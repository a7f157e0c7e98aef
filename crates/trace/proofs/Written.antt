-- A trace that was written of recordings, as it is read. `recorded-body`: the length, the word count and the body of a case are those of its recording.
-- `recorded-accepted`: the trace is accepted, with a case for each. `four_bytes`: a number in four bytes is read back. Assumes nothing.
use mathlib.Core.Path.{◌≡◌, refl, sym, ap, ◌∙◌}
use mathlib.Core.Option.{some}
use mathlib.Core.List.{List, [], ◌∷◌, ◌++◌, append_assoc}
use mathlib.Core.Bool.{Bool, true, false}
use Prim.Native.Nat.{ℕ, zero, suc, ◌+◌, ◌*◌, ◌/◌, ◌%◌, ◌<◌, ◌≤◌}
use native.Mathlib.Nat.{add-zero}
use native.Mathlib.Omega.{arith}
use lib.ListN.{length, get_or, get_elem?, take, drop, length-append, length-take, take-append-drop}
use lib.Seq.{take-length, append_snoc, drop-drop, take_at, drop_at}
use Rattle.isa.specs.Bytes.{word_of, word_at, words_of}
use Rattle.isa.specs.File.{legal}
use Rattle.isa.proofs.File.{legal-exact}
use Rattle.trace.specs.Trace.{cases_of, length_at, count_at, start_at, contents_size, body_size, begins, total_of, body_of}
use Rattle.trace.specs.Verdict.{parts_of, accepted_of}
use Rattle.trace.specs.Returned.{EntryAllowed}
use Rattle.trace.specs.Recorded.{Recording, four_of, fours_of, flag_number, body_bytes, entry_bytes, entries_from, bodies_of, trace_of}
use Rattle.trace.specs.Recorded.{Recordable, At, AllRecordable, read_as, Reads}
use Rattle.trace.proofs.Contents.{contents-exact, total-exact}
use Rattle.trace.proofs.Prefix.{word-drop}
use Rattle.std.specs.Prelude.{Ok}

-- ---- numbers in four bytes

pub four_bytes : (n : ℕ) → n < 4294967296 → word_of (n % 256) (n / 256 % 256) (n / 65536 % 256) (n / 16777216 % 256) ≡ n
four_bytes n l =
    let e₂ : n / 65536 ≡ n / 256 / 256 = omega arith in
    let e₃ : n / 16777216 ≡ n / 65536 / 256 = omega arith in
    let b₁ : n / 256 % 256 + n / 65536 * 256 ≡ n / 256 = rw e₂ (omega arith) in
    let b₂ : n / 65536 % 256 + n / 16777216 * 256 ≡ n / 65536 = rw e₃ (omega arith) in
    let b₃ : n / 16777216 % 256 ≡ n / 16777216 = omega arith in
    omega arith

fours-length : (ns : List ℕ) → length (fours_of ns) ≡ 4 * length ns
unfolding four_of fours_of
fours-length [] = refl
fours-length (n ∷ ns) = omega (arith, fours-length ns)

fours-words : (ns : List ℕ) → ((i : ℕ) → i < length ns → get_or ns i 0 < 4294967296) → words_of (fours_of ns) ≡ ns
unfolding four_of fours_of words_of
fours-words [] h = refl
fours-words (n ∷ ns) h = rw (four_bytes n (h 0 (omega arith)), fours-words ns (λ i l. h (suc i) (omega arith)))

-- ---- a body

flag-bytes : (b : Bool) → word_at (four_of (flag_number b)) 0 ≡ flag_number b
unfolding four_of word_at
flag-bytes true = refl
flag-bytes false = refl

module _ (r : Recording) (ok : Recordable r) where
  body-length : length (body_bytes r) ≡ body_size r.bits (length r.words)
  unfolding body_bytes four_of
  body-length = simp (length-append, fours-length) (omega (arith, ok.file, ok.left))

  -- from QC after on
  abbrev ending : List ℕ
  ending = four_of (flag_number r.after) ++ r.left

  nested : body_bytes r ≡ four_of (flag_number r.before) ++ (r.file ++ (fours_of r.words ++ ending))
  unfolding body_bytes
  nested = simp append_assoc

  body-parts : parts_of r.bits (length r.words) (body_bytes r) ≡ read_as r
  unfolding parts_of four_of word_at
  body-parts =
      let b : List ℕ = body_bytes r in
      let ws : List ℕ = fours_of r.words in
      let F : ℕ = 4 * r.bits in
      let W : ℕ = 4 * length r.words in
      let sized : length ws ≡ W = fours-length r.words in
      let from-words : drop (4 + F) b ≡ ws ++ ending = sym (drop-drop F 4 b) ∙ ap (λ x. drop F (drop 4 x)) nested ∙ drop_at r.file (ws ++ ending) F ok.file in
      let from-after : drop (4 + F + W) b ≡ ending = sym (drop-drop W (4 + F) b) ∙ ap (drop W) from-words ∙ drop_at ws ending W sized in
      let before : word_at b 0 ≡ flag_number r.before = rw nested (flag-bytes r.before) in
      let file : take F (drop 4 b) ≡ r.file = rw nested (take_at r.file (ws ++ ending) F ok.file) in
      let words : words_of (take W (drop (4 + F) b)) ≡ r.words = rw (from-words, take_at ws ending W sized) (fours-words r.words ok.words) in
      let after : word_at b (4 + F + W) ≡ flag_number r.after = word-drop b (4 + F + W) 0 (4 + F + W) (omega arith) ∙ rw from-after (flag-bytes r.after) in
      let end : 4 + F + W + 4 ≡ 8 + F + W = omega arith in
      let left : drop (8 + F + W) b ≡ r.left = rw (← end, ← drop-drop 4 (4 + F + W) b, from-after) in
      rw (before, file, words, after, left)

-- ---- entries and bodies of a list in two parts

bodies-append : (us vs : List Recording) → bodies_of (us ++ vs) ≡ bodies_of us ++ bodies_of vs
unfolding bodies_of
bodies-append [] vs = refl
bodies-append (u ∷ us) vs = rw (bodies-append us vs, append_assoc)

entries-append : (s : ℕ) (us vs : List Recording) → entries_from s (us ++ vs) ≡ entries_from s us ++ entries_from (s + length (bodies_of us)) vs
unfolding entries_from bodies_of
entries-append s [] vs = rw add-zero
entries-append s (u ∷ us) vs =
    let next : s + length (body_bytes u) + length (bodies_of us) ≡ s + length (body_bytes u ++ bodies_of us) = simp length-append (omega arith) in
    rw (entries-append (s + length (body_bytes u)) us vs, next, append_assoc)

entries-length : (s : ℕ) (rs : List Recording) → length (entries_from s rs) ≡ 12 * length rs
unfolding entries_from entry_bytes four_of
entries-length s [] = refl
entries-length s (r ∷ rs) = omega (arith, entries-length (s + length (body_bytes r)) rs)

-- ---- recording k of a list

module _ {A : Type 0} where
  pub at_there : (l : List A) (k : ℕ) (a : A) → get_elem? l k ≡ some a → (k < length l) × (take (suc k) l ≡ take k l ++ (a ∷ []))
  at_there [] k a e = let z : ◌≡◌ {A = ℕ} 0 1 = cc in absurd (omega arith)
  at_there (x ∷ l) zero a e = (omega arith, let same : x ≡ a = cc in rw same)
  at_there (x ∷ l) (suc k) a e = let h = at_there l k a e in (omega (arith, h.0), rw h.1)

  there-at : (l : List A) (k : ℕ) → k < length l → (a : A) × (get_elem? l k ≡ some a)
  there-at [] k h = absurd (omega arith)
  there-at (x ∷ l) zero h = (x, refl)
  there-at (x ∷ l) (suc k) h = there-at l k (omega arith)

-- ---- a trace

cut : (s u v : List ℕ) (n : ℕ) → s ≡ u ++ v → length u ≡ n → drop n s ≡ v
cut s u v n e l = rw e (drop_at u v n l)

module _ (rs : List Recording) (all : AllRecordable rs) where
  abbrev t : List ℕ
  t = trace_of rs

  abbrev contents : ℕ
  contents = 4 + 12 * length rs

  -- where case k's body starts
  abbrev start : ℕ → ℕ
  start k = contents + length (bodies_of (take k rs))

  trace-cases : cases_of t ≡ length rs
  unfolding trace_of four_of word_at
  trace-cases = four_bytes (length rs) (omega (arith, all.few))

  trace-length : length t ≡ contents + length (bodies_of rs)
  unfolding trace_of four_of
  trace-length = simp length-append (omega (arith, entries-length contents rs))

  module _ (k : ℕ) (r : Recording) (here : At rs k r) where
    ok : Recordable r
    ok = all.each k r here

    abbrev behind : List Recording
    behind = drop (suc k) rs

    whole : rs ≡ take k rs ++ r ∷ behind
    whole = sym (take-append-drop (suc k) rs) ∙ ap (λ xs. xs ++ behind) (at_there rs k r here).1 ∙ append_snoc (take k rs) r behind

    next_start : start (suc k) ≡ start k + length (body_bytes r)
    unfolding bodies_of
    next_start = rw ((at_there rs k r here).1, bodies-append (take k rs) (r ∷ [])) (simp length-append (omega arith))

    split-bodies : bodies_of rs ≡ bodies_of (take k rs) ++ (body_bytes r ++ bodies_of behind)
    unfolding bodies_of
    split-bodies = ap bodies_of whole ∙ bodies-append (take k rs) (r ∷ behind)

    within : start k ≤ 65536
    within = omega (arith, all.short, trace-length, simp length-append at (ap length split-bodies))

    -- the trace from the entry on, and from the body on
    abbrev from-entry : List ℕ
    from-entry = entry_bytes (start k) r ++ (entries_from (start k + length (body_bytes r)) behind ++ bodies_of rs)

    at_entry : drop (4 + 12 * k) t ≡ from-entry
    unfolding trace_of entries_from four_of
    at_entry =
        let front : List ℕ = four_of (length rs) ++ entries_from contents (take k rs) in
        let size : length front ≡ 4 + 12 * k = omega (arith, entries-length contents (take k rs), length-take k rs, (at_there rs k r here).0) in
        let split : entries_from contents rs ≡ entries_from contents (take k rs) ++ entries_from (start k) (r ∷ behind) =
        ap (entries_from contents) whole ∙ entries-append contents (take k rs) (r ∷ behind) in
        rw split (cut _ front from-entry (4 + 12 * k) (simp append_assoc) size)

    at_body : drop (start k) t ≡ body_bytes r ++ bodies_of behind
    unfolding trace_of four_of
    at_body =
        let front : List ℕ = four_of (length rs) ++ entries_from contents rs ++ bodies_of (take k rs) in
        let size : length front ≡ start k = simp length-append (omega (arith, entries-length contents rs)) in
        rw split-bodies (cut _ front (body_bytes r ++ bodies_of behind) (start k) (simp append_assoc) size)

    entry-word : (at m : ℕ) → m ≡ 4 + 12 * k + at → word_at t m ≡ word_at from-entry at
    entry-word at m e = word-drop t (4 + 12 * k) at m e ∙ ap (λ x. word_at x at) at_entry

    read-bits : length_at t k ≡ r.bits
    unfolding entry_bytes four_of word_at
    read-bits = entry-word 0 (4 + 12 * k) (omega arith) ∙ four_bytes r.bits (omega (arith, ((legal-exact _).0 ok.ok).most))

    read_count : count_at t k ≡ length r.words
    unfolding entry_bytes four_of word_at
    read_count = entry-word 4 (8 + 12 * k) (omega arith) ∙ four_bytes (length r.words) (omega (arith, ok.few))

    read-start : start_at t k ≡ start k
    unfolding entry_bytes four_of word_at
    read-start = entry-word 8 (12 + 12 * k) (omega arith) ∙ four_bytes (start k) (omega (arith, within))

    read-body : body_of t k ≡ body_bytes r
    unfolding body_of
    read-body = rw (read-bits, read_count, read-start, at_body) (take_at (body_bytes r) (bodies_of behind) _ (body-length r ok))

    pub recorded-body : Reads t k r
    recorded-body = record { bits = read-bits; count = read_count; body = rw (read-bits, read_count, read-body) (body-parts r ok) }

    read_next : begins t k ≡ start k → begins t (suc k) ≡ start (suc k)
    unfolding begins
    read_next e = rw (e, next_start, read-bits, read_count, body-length r ok)

  -- ---- and it is accepted

  read-begins : (k : ℕ) → k ≤ length rs → begins t k ≡ start k
  unfolding begins bodies_of
  read-begins zero l = rw trace-cases (sym (add-zero contents))
  read-begins (suc k) l = let at = there-at rs k (omega arith) in read_next k at.0 at.1 (read-begins k (omega arith))

  entries : (k : ℕ) → k < cases_of t → EntryAllowed t k
  entries k l =
      let below : k < length rs = omega (arith, trace-cases) in
      let at = there-at rs k below in
      let ok = all.each k at.0 at.1 in
      record {
        ok = ap legal (read-bits k at.0 at.1) ∙ ok.ok;
        few = omega (arith, read_count k at.0 at.1, ok.few);
        start = read-start k at.0 at.1 ∙ sym (read-begins k (omega arith));
      }

  total : length t ≡ total_of t
  total = rw (trace-cases, read-begins (length rs) (omega arith), take-length rs) trace-length

  pub recorded-accepted : accepted_of t ≡ Ok (length rs)
  unfolding accepted_of
  recorded-accepted =
      let whole : contents_size t ≤ length t = omega (arith, trace-cases, trace-length) in
      let some : 1 ≤ cases_of t = omega (arith, trace-cases, all.some) in
      let few : cases_of t ≤ 1024 = omega (arith, trace-cases, all.few) in
      let first = (contents-exact t).1 (record { whole = whole; some = some; few = few; entries = entries }) in
      let then = (total-exact t).1 (record { short = all.short; exact = total }) in
      rw (first, then, trace-cases)
