-- The loop over the patterns. Assumes nothing.
use Prim.Native.Nat.{ℕ, suc, ◌+◌, ◌≤◌, ◌<◌, max}
use mathlib.Core.Path.{◌≡◌, sym, ap, ◌∙◌}
use mathlib.Core.Bool.{true, not}
use mathlib.Core.List.{List, []}
use mathlib.Core.Logic.{◌≢◌}
use native.Mathlib.Omega.{arith}
use borrow.Author.Tests.{eq-eqb}
use lib.Dec.{eqb}
use lib.ListN.{length, get_or, drop, drop_of_length-le}
use lib.Seq.{drop-cons}
use Rattle.std.specs.Prelude.{Result, Ok, Err}
use Rattle.grammar.specs.declared.types.NotLine.{NotLine}
use Rattle.grammar.specs.Template.{Item}
use Rattle.grammar.specs.Follow.{Followed, Fixed}
use Rattle.grammar.specs.Search.{blank, search}
use Rattle.grammar.specs.Grammar.{variables, templates, pattern_count}
use Rattle.grammar.specs.Read.{make_at, stops_at, read_as, read_of}
use Rattle.line_reader.specs.Steps.{values_in, Follows, TriedAs, Tried, Reached}
use Rattle.grammar.proofs.Guess.{differ}
use Rattle.grammar.proofs.Follow.{fixed-stop}
use Rattle.grammar.proofs.Search.{search-miss, search-from}
use Rattle.grammar.proofs.Alphabet.{most, readable}
use Rattle.grammar.proofs.Lines.{read-by-pattern}

-- no pattern before this one has the text, and they go so far
pub record Finding (s : List ℕ) (far pattern : ℕ) : Type 0 where
  pub within : pattern ≤ pattern_count
  pub later : search variables templates s 0 0 ≡ search variables (drop pattern templates) s pattern far

-- how far one pattern goes is known before the first is tried
pub finding-starts : (s : List ℕ) (far : ℕ) → Reached s far → Finding s far 0
finding-starts s far r =
    record {
      within = omega arith;
      later = search-from variables most readable templates s 0 0 far r.pattern r.low (omega (arith, r.is));
    }

pub finding-on : {s : List ℕ} {far pattern n : ℕ} (stop : NotLine) → Finding s far pattern → pattern < pattern_count → Tried pattern s far (Err stop) → n ≡ max far stop.reach → Finding s n (pattern + 1)
finding-on {s} {far} {pattern} {n} stop f h t z =
    let next : suc pattern ≡ pattern + 1 = omega arith in
    record {
      within = omega arith;
      later =
          f.later ∙ ap (λ (ts : List (List Item)). search variables ts s pattern far) (drop-cons templates pattern [] h)
          ∙ search-miss variables most readable (get_or templates pattern []) (drop (suc pattern) templates) s pattern far t.0
          ∙ ap (search variables (drop (suc pattern) templates) s (suc pattern)) (sym (z ∙ t.1))
          ∙ ap (λ (k : ℕ). search variables (drop k templates) s k n) next;
    }

-- no pattern is left
pub finding-ends : {s : List ℕ} {far pattern : ℕ} → Finding s far pattern → pattern_count ≤ pattern → stops_at far ≡ read_of s
unfolding search read_of
finding-ends {s} {far} {pattern} f h =
    let past : length templates ≤ pattern = h in
    sym (ap read_as (f.later ∙ ap (λ (ts : List (List Item)). search variables ts s pattern far) (drop_of_length-le templates past)))

-- ---- one pattern tried

pub other_byte : (a b : ℕ) → not (eqb a b) ≡ true → a ≢ b
other_byte a b e h = differ (sym (sym (ap not (eq-eqb a b h)) ∙ e))

-- the mark shows that the pattern goes no further
pub tried-short : (pattern : ℕ) (s : List ℕ) (far at b : ℕ) → Fixed (get_or templates pattern []) at b → at ≤ far → (get_or s at 0 ≢ b) → Tried pattern s far (Err (record { reach = far }))
tried-short pattern s far at b f h n =
    let o = fixed-stop variables most readable (get_or templates pattern []) at b blank s f n in
    (o.0, omega (arith, o.1))

-- the template was followed
pub tried-whole : (far : ℕ) (f : Followed) (r : Result (List ℕ) NotLine) → Follows r f → TriedAs f far r
tried-whole far f (Ok vs) p = p
tried-whole far f (Err stop) p = (p.0, ap (max far) p.1)

-- the pattern that has the text is the one that it is read by
pub tried-read : (s vs : List ℕ) (pattern far : ℕ) → pattern < pattern_count → Tried pattern s far (Ok vs) → Ok (make_at pattern (values_in vs)) ≡ read_of s
tried-read s vs pattern far h t = ap (λ (r : ℕ → ℕ). Ok (make_at pattern r)) t.1 ∙ sym (read-by-pattern pattern s h t.0)

-- the one that is tried first, where nothing is known yet
pub first-reached : (s : List ℕ) (pattern : ℕ) (stop : NotLine) → pattern < pattern_count → Tried pattern s 0 (Err stop) → Reached s stop.reach
first-reached s pattern stop h t = record { pattern = pattern; low = h; is = omega (arith, t.1) }
