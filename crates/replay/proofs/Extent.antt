-- The table of contents, entry by entry. `body-ends`, `body_refused`: the tests of an entry. `entry-cut`, `entry_read`: an entry is read. `entries-..`:
-- the entries before case k are allowed. Assumes nothing.
use mathlib.Core.Path.{◌≡◌, refl, sym, ap, subst, ◌∙◌}
use mathlib.Core.List.{List}
use mathlib.Core.Bool.{Bool, true, false, cond, ◌&&◌, true≢false}
use Prim.Native.Nat.{ℕ, suc, ◌+◌, ◌*◌, ◌<◌, ◌≤◌}
use native.Mathlib.Numerals.{add-one}
use native.Mathlib.Omega.{arith}
use lib.Dec.{leb, eqb}
use lib.ListN.{length}
use borrow.Author.Tests.{leb-true, leb-false, eqb-true, eqb-false, le-leb, lt-leb, eq-eqb}
use Rattle.isa.specs.Bytes.{word_at}
use Rattle.isa.specs.File.{legal}
use Rattle.isa.proofs.Fields.{and_left, and_right}
use Rattle.isa.proofs.File.{cases as cases'}
use Rattle.trace.specs.Trace.{cases_of, length_at, count_at, start_at, body_size, begins}
use Rattle.trace.specs.Returned.{EntryAllowed, ContentsAllowed}
use Rattle.trace.proofs.Contents.{and_both, contents-exact, contents-refused, begins-short}
use Rattle.replay.specs.Extent.{body_end, entry_of, entries_of, count_of, Counted}
use Rattle.replay.specs.Read.{number_at}
use Rattle.replay.proofs.Read.{read_number, read-cut, cond_none}
use Rattle.std.specs.Prelude.{Some, None}
use Rattle.std.proofs.lemmas.Option.{cond_some}

-- ---- the numbers of an entry

module _ (L W start due : ℕ) (b : Bool) (e : b ≡ legal L) where
  abbrev tested : Bool
  tested = b && (leb W 4096 && eqb start due)

  tests : (legal L && (leb W 4096 && eqb start due)) ≡ tested
  tests = ap (λ x. x && (leb W 4096 && eqb start due)) (sym e)

  pub body-ends : tested ≡ true → (size : ℕ) → size ≡ body_size L W → Some (due + size) ≡ body_end L W start due
  unfolding body_end
  body-ends h size s = rw (tests ∙ h) (ap (λ (n : ℕ). Some (due + n)) s)

  pub body_refused : tested ≡ false → None ≡ body_end L W start due
  unfolding body_end
  body_refused h = rw (tests ∙ h)

  pub tested-length : tested ≡ true → legal L ≡ true
  tested-length h = sym e ∙ and_left b (leb W 4096 && eqb start due) h

  pub tested-words : tested ≡ true → W ≤ 4096
  tested-words h = leb-true _ _ (and_left (leb W 4096) (eqb start due) (and_right b (leb W 4096 && eqb start due) h))

-- ---- an entry

module _ (t : List ℕ) (k due : ℕ) where
  -- its three numbers were read from its place on
  module _ (a b c : ℕ) (first : a ≡ 4 + 12 * k) (second : b ≡ a + 4) (third : c ≡ b + 4) where
    pub entry_read : (L W start : ℕ) → number_at t a ≡ Some L → number_at t b ≡ Some W → number_at t c ≡ Some start → body_end L W start due ≡ entry_of t k due
    unfolding entry_of
    entry_read L W start l w s =
        let p = read_number t a L l in
        let q = read_number t b W w in
        let r = read_number t c start s in
        let other : b ≡ 8 + 12 * k = omega arith in
        let last : c ≡ 12 + 12 * k = omega arith in
        rw (le-leb (16 + 12 * k) (length t) (omega (arith, r.0)), ← first, ← other, ← last, p.1, q.1, r.1)

    -- or one of them is cut short
    pub entry-cut : (at : ℕ) → at ≤ c → number_at t at ≡ None → None ≡ entry_of t k due
    unfolding entry_of
    entry-cut at l e = let short = read-cut t at e in rw (lt-leb (16 + 12 * k) (length t) (omega arith))

  -- ---- what its answer tells

  picked-ends : (a b : Bool) (n e : ℕ) → cond a (cond b (Some n) None) None ≡ Some e → (a ≡ true) × (b ≡ true) × (n ≡ e)
  picked-ends true true n e h = (refl, refl, cc)
  picked-ends true false n e h = let z : ◌≡◌ {A = ℕ} 0 1 = cc in absurd (omega arith)
  picked-ends false b n e h = let z : ◌≡◌ {A = ℕ} 0 1 = cc in absurd (omega arith)

  picked-refused : (a b : Bool) (n : ℕ) → cond a (cond b (Some n) None) None ≡ None → a ≡ true → b ≡ true → ⊥
  picked-refused true true n h e f = let z : ◌≡◌ {A = ℕ} 0 1 = cc in omega arith
  picked-refused true false n h e f = true≢false (sym f)
  picked-refused false b n h e f = true≢false (sym e)

  abbrev words-start : Bool
  words-start = leb (count_at t k) 4096 && eqb (start_at t k) due

  pub entry-ends : (e : ℕ) → due ≡ begins t k → entry_of t k due ≡ Some e → (16 + 12 * k ≤ length t) × EntryAllowed t k × (e ≡ begins t (suc k))
  unfolding entry_of body_end begins
  entry-ends e same h =
      let p = picked-ends (leb (16 + 12 * k) (length t)) (legal (length_at t k) && words-start) (due + body_size (length_at t k) (count_at t k)) e h in
      let rest = and_right (legal (length_at t k)) words-start p.1 in (
        leb-true _ _ p.0,
        record {
          ok = and_left (legal (length_at t k)) words-start p.1;
          few = leb-true _ _ (and_left (leb (count_at t k) 4096) (eqb (start_at t k) due) rest);
          start = eqb-true _ _ (and_right (leb (count_at t k) 4096) (eqb (start_at t k) due) rest) ∙ same;
        },
        sym p.2 ∙ ap (λ (n : ℕ). n + body_size (length_at t k) (count_at t k)) same,
      )

  pub entry-refused : due ≡ begins t k → entry_of t k due ≡ None → 16 + 12 * k ≤ length t → EntryAllowed t k → ⊥
  unfolding entry_of body_end
  entry-refused same h there a =
      picked-refused (leb (16 + 12 * k) (length t)) (legal (length_at t k) && words-start) (due + body_size (length_at t k) (count_at t k)) h (le-leb _ _ there)
      (and_both a.ok (and_both (le-leb _ _ a.few) (eq-eqb _ _ (a.start ∙ sym same))))

-- ---- the loop over the entries: those before k are allowed

pub record EntriesBefore (t : List ℕ) (cases due k : ℕ) : Type 0 where
  pub within : k ≤ cases
  pub there : 4 + 12 * k ≤ length t
  pub place : due ≡ begins t k
  pub entries : (j : ℕ) → j < k → EntryAllowed t j

module _ (t : List ℕ) (cases : ℕ) (c : Counted t cases) where
  pub entries-starts : (place : ℕ) → place ≡ 4 + 12 * cases → EntriesBefore t cases place 0
  unfolding begins
  entries-starts place e =
      record { within = omega arith; there = c.there; place = e ∙ ap (λ (n : ℕ). 4 + 12 * n) c.same; entries = λ j l. absurd (omega arith) }

  module _ (due k : ℕ) (l : EntriesBefore t cases due k) where
    -- far below what a number holds
    pub entries-short : due ≤ 0x400_0000
    entries-short = omega (arith, l.place, begins-short t k (omega (arith, c.same, c.few)) l.entries, l.within, c.few)

    pub entries-on : k < cases → (e : ℕ) → entry_of t k due ≡ Some e → EntriesBefore t cases e (k + 1)
    entries-on more e h =
        let a = entry-ends t k due e l.place h in
        record {
          within = omega arith;
          there = omega (arith, a.0);
          place = a.2 ∙ ap (begins t) (sym (add-one k));
          entries = λ j b. cases' (eqb j k) (λ same. subst (EntryAllowed t) (sym (eqb-true j k same)) a.1) (λ other. let ne = eqb-false j k other in l.entries j (omega (arith, ne)));
        }

    pub entries-refused : k < cases → entry_of t k due ≡ None → None ≡ entries_of t
    unfolding entries_of
    entries-refused more h =
        let none : ContentsAllowed t → ⊥ = λ a. entry-refused t k due l.place h (omega (arith, a.whole, c.same)) (a.entries k (omega (arith, c.same))) in
        rw (contents-refused t none)

    pub entries-ends : cases ≤ k → Some due ≡ entries_of t
    unfolding entries_of
    entries-ends past =
        let all : k ≡ cases_of t = let w = l.within in omega (arith, c.same) in
        let allowed : ContentsAllowed t = record {
          whole = omega (arith, l.there, all);
          some = omega (arith, c.some, c.same);
          few = omega (arith, c.few, c.same);
          entries = λ j b. l.entries j (omega (arith, all));
        } in
        rw ((contents-exact t).1 allowed) (ap Some (l.place ∙ ap (begins t) all))

-- ---- the number of cases

module _ (t : List ℕ) where
  pub count_cut : number_at t 0 ≡ None → None ≡ count_of t
  unfolding count_of
  count_cut e = rw (lt-leb 4 (length t) (read-cut t 0 e))

  pub count_small : (n : ℕ) → number_at t 0 ≡ Some n → (leb 1 n && leb n 1024) ≡ true → Some n ≡ count_of t
  unfolding count_of
  count_small n e l =
      let r = read_number t 0 n e in
      rw (le-leb 4 (length t) r.0, r.1, l)

  pub count-large : (n : ℕ) → number_at t 0 ≡ Some n → (leb 1 n && leb n 1024) ≡ false → None ≡ count_of t
  unfolding count_of
  count-large n e l =
      let r = read_number t 0 n e in
      rw (le-leb 4 (length t) r.0, r.1, l)

  pub count_none : count_of t ≡ None → ContentsAllowed t → ⊥
  unfolding count_of
  count_none h c =
      let there = le-leb 4 (length t) (omega (arith, c.whole)) in
      let allowed = and_both (le-leb 1 (cases_of t) c.some) (le-leb (cases_of t) 1024 c.few) in
      true≢false (sym (and_both there allowed) ∙ cond_none (leb 4 (length t) && (leb 1 (cases_of t) && leb (cases_of t) 1024)) (cases_of t) h)

  pub count-some : (n : ℕ) → count_of t ≡ Some n → Counted t n
  unfolding count_of
  count-some n h =
      let p = cond_some (leb 4 (length t) && (leb 1 (cases_of t) && leb (cases_of t) 1024)) (cases_of t) n h in
      let allowed = and_right (leb 4 (length t)) (leb 1 (cases_of t) && leb (cases_of t) 1024) p.0 in
      record {
        there = leb-true _ _ (and_left (leb 4 (length t)) (leb 1 (cases_of t) && leb (cases_of t) 1024) p.0);
        same = sym p.1;
        some = rw p.1 at (leb-true 1 (cases_of t) (and_left (leb 1 (cases_of t)) (leb (cases_of t) 1024) allowed));
        few = rw p.1 at (leb-true (cases_of t) 1024 (and_right (leb 1 (cases_of t)) (leb (cases_of t) 1024) allowed));
      }
