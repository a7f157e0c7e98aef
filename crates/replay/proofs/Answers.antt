-- The answers of `check` and `judge`. `accepted-..`: by what the contents were found to be. `asked-..`: what is known of a case that is asked for.
-- Assumes nothing.
use mathlib.Core.Path.{◌≡◌, refl, sym, ap, ap₂, ◌∙◌}
use mathlib.Core.List.{List}
use mathlib.Core.Bool.{Bool, true, false, cond, ◌&&◌}
use Prim.Native.Nat.{ℕ, ◌+◌, ◌*◌, ◌-◌, ◌<◌, ◌≤◌}
use native.Mathlib.Nat.{add-sub_cancel_left}
use native.Mathlib.Omega.{arith}
use lib.Dec.{leb, ltb, eqb}
use lib.ListN.{length, take, drop, length-take, length-drop}
use borrow.Author.Tests.{lt-ltb, le-ltb}
use Rattle.isa.specs.Bytes.{word_at}
use Rattle.isa.proofs.File.{legal-exact}
use Rattle.trace.specs.Trace.{cases_of, length_at, count_at, start_at, body_size, total_of, body_of, contents_allowed, total_allowed}
use Rattle.trace.specs.Verdict.{pick_accepted, accepted_of, verdict_of, case_of, judged_after, judge_of}
use Rattle.trace.specs.Returned.{EntryAllowed, ContentsAllowed}
use Rattle.trace.specs.declared.types.Verdict.{Verdict}
use Rattle.replay.proofs.Read.{cond_none}
use Rattle.std.proofs.lemmas.Option.{cond_some}
use Rattle.trace.proofs.Contents.{contents-exact, contents-refused, total-exact, body-within}
use Rattle.replay.specs.Body.{Whole}
use Rattle.replay.specs.Extent.{entries_of, CaseThere}
use Rattle.trace.specs.declared.types.TraceRefusal.{TraceRefusal}
use Rattle.trace.specs.declared.types.CaseRefusal.{CaseRefusal}
use Rattle.std.specs.Prelude.{Some, None, Result, Ok, Err}

module _ (t : List ℕ) where
  -- ---- the check of a trace

  pub accepted-none : (ContentsAllowed t → ⊥) → (Err TraceRefusal.BadContents) ≡ accepted_of t
  unfolding accepted_of
  accepted-none no_more = rw (contents-refused t no_more)

  pub accepted-refused : entries_of t ≡ None → (Err TraceRefusal.BadContents) ≡ accepted_of t
  unfolding accepted_of entries_of
  accepted-refused h = rw (cond_none (contents_allowed t) (total_of t) h)

  module _ (total : ℕ) (h : entries_of t ≡ Some total) where
    known : (contents_allowed t ≡ true) × (total_of t ≡ total)
    unfolding entries_of
    known = cond_some (contents_allowed t) (total_of t) total h

    tests : total_allowed t ≡ (leb (length t) 65536 && eqb (length t) total)
    tests = ap (λ (n : ℕ). leb (length t) 65536 && eqb (length t) n) known.1

    pub accepted-cases : (n : ℕ) → n ≡ cases_of t → (leb (length t) 65536 && eqb (length t) total) ≡ true → Ok n ≡ accepted_of t
    unfolding accepted_of
    accepted-cases n e s = rw (known.0, tests ∙ s, e)

    pub accepted-total : (leb (length t) 65536 && eqb (length t) total) ≡ false → (Err TraceRefusal.BadTotal) ≡ accepted_of t
    unfolding accepted_of
    accepted-total s = rw (known.0, tests ∙ s)

  -- ---- a case asked for

  pub judged-as : (k : Result ℕ TraceRefusal) (n : ℕ) → accepted_of t ≡ k → judged_after k t n ≡ judge_of t n
  unfolding judge_of
  judged-as k n e = rw e

  module _ (c n : ℕ) (e : accepted_of t ≡ Ok c) where
    pub judged-case : (v : Verdict) → v ≡ case_of t n → n < c → Ok v ≡ judge_of t n
    judged-case v s l = rw (← judged-as (Ok c) n e, lt-ltb n c l, s)

    pub judged-none : c ≤ n → (Err CaseRefusal.NoCase) ≡ judge_of t n
    judged-none l = rw (← judged-as (Ok c) n e, le-ltb n c l)

    picked-cases : (a b : Bool) (m : ℕ) → pick_accepted a (pick_accepted b (Ok m) (Err TraceRefusal.BadTotal)) (Err TraceRefusal.BadContents) ≡ Ok c → (a ≡ true) × (b ≡ true) × (m ≡ c)
    picked-cases true true m h = (refl, refl, cc)
    picked-cases true false m h = let z : ◌≡◌ {A = ℕ} 0 2 = cc in absurd (omega arith)
    picked-cases false b m h = let z : ◌≡◌ {A = ℕ} 0 1 = cc in absurd (omega arith)

    pub judged-asked : n < c → CaseThere t n
    unfolding accepted_of
    judged-asked l =
        let p = picked-cases (contents_allowed t) (total_allowed t) (cases_of t) e in
        record { contents = p.0; total = p.1; below = omega (arith, p.2) }

  module _ (n : ℕ) (a : CaseThere t n) where
    pub asked-contents : ContentsAllowed t
    asked-contents = (contents-exact t).0 a.contents

    pub asked_entry : EntryAllowed t n
    asked_entry = asked-contents.entries n a.below

    -- its body ends within the trace
    pub asked-within : start_at t n + body_size (length_at t n) (count_at t n) ≤ length t
    asked-within = omega (arith, asked_entry.start, body-within t n a.below, ((total-exact t).0 a.total).exact)

    pub asked-short : length t ≤ 65536
    asked-short = ((total-exact t).0 a.total).short

    -- its entry is there
    pub asked-there : 16 + 12 * n ≤ length t
    asked-there = omega (arith, asked-contents.whole, a.below)

    -- its three numbers were read from place p on, and its body is cut out
    module _ (p L W start : ℕ) (place : p ≡ 4 + 12 * n) (l : L ≡ word_at t p) (w : W ≡ word_at t (p + 4)) (s : start ≡ word_at t (p + 8)) where
      length-is : L ≡ length_at t n
      length-is = l ∙ ap (word_at t) place

      words_are : W ≡ count_at t n
      words_are = let q : p + 4 ≡ 8 + 12 * n = omega arith in w ∙ ap (word_at t) q

      start_is : start ≡ start_at t n
      start_is = let q : p + 8 ≡ 12 + 12 * n = omega arith in s ∙ ap (word_at t) q

      pub read_small : (L ≤ 2048) × (W ≤ 4096)
      read_small = (rw length-is ((legal-exact (length_at t n)).0 asked_entry.ok).most, rw words_are asked_entry.few)

      module _ (size : ℕ) (e : size ≡ body_size L W) where
        pub read-within : start + size ≤ length t
        read-within = rw (e, length-is, words_are, start_is) asked-within

        body : take (start + size - start) (drop start t) ≡ take (body_size L W) (drop start t)
        body = ap (λ (k : ℕ). take k (drop start t)) (add-sub_cancel_left start size ∙ e)

        pub read_whole : Whole L W (take (start + size - start) (drop start t))
        read_whole = record {
          ok = rw length-is asked_entry.ok;
          few = read_small.1;
          sized = ap length body ∙ simp (length-take, length-drop) (let r = read-within in omega arith);
        }

        pub read-case : verdict_of L W (take (start + size - start) (drop start t)) ≡ case_of t n
        unfolding case_of body_of
        read-case = ap (verdict_of L W) body ∙ (λ i. verdict_of (length-is i) (words_are i) (take (body_size (length-is i) (words_are i)) (drop (start_is i) t)))
