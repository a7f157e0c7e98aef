-- Lines. `line-exact`: a text is read as an operation exactly where it is that operation's line. `line-unique`: two operations never have one line.
-- `longest`: what is read as no line comes with the longest beginning that some line has; `cut_off`, `empty-line`. Assumes nothing.
use Prim.Native.Nat.{ℕ, ◌+◌, ◌≤◌, ◌<◌}
use mathlib.Core.Path.{◌≡◌, refl, sym, ap, ◌∙◌, subst}
use mathlib.Core.Bool.{true}
use mathlib.Core.List.{List, [], ◌++◌}
use mathlib.Core.Logic.{⊎_elim}
use native.Mathlib.Omega.{arith}
use lib.ListN.{length, get_or, take, drop}
use lib.Seq.{take-length}
use Rattle.isa.specs.declared.types.Op.{Op}
use Rattle.std.specs.Prelude.{Result, Ok, Err}
use Rattle.grammar.specs.declared.types.NotLine.{NotLine}
use Rattle.grammar.specs.Template.{fill}
use Rattle.grammar.specs.Follow.{common_prefix, follow}
use Rattle.grammar.specs.Search.{Search, read, unread, blank, search}
use Rattle.grammar.specs.Grammar.{variables, templates, pattern_count, pattern_of, values_of, line_of}
use Rattle.grammar.specs.Line.{LineOf, Begins, NoLine}
use Rattle.grammar.specs.Read.{make_at, stops_at, read_as, read_of}
use Rattle.grammar.specs.Number.{line_read_length}
use Rattle.grammar.proofs.Prefix.{common-le-right, common-take, common-begins}
use Rattle.grammar.proofs.Follow.{Made, lower, upper, sound}
use Rattle.grammar.proofs.Search.{found-is, Unread, unread-is, finds, clear_at, filled-good, blank-agrees, blank-partly}
use Rattle.grammar.proofs.Alphabet.{most, readable, templates-clear, templates-apart}
use Rattle.grammar.proofs.Patterns.{pattern-makes}
use Rattle.grammar.proofs.Remakes.{remakes}

-- what a pattern makes of values for its letters is an operation with that line
made-line : (p : ℕ) (r : ℕ → ℕ) (s : List ℕ) → p < pattern_count → Made variables most readable (get_or templates p []) r s → LineOf (make_at p r) s
unfolding line_of
made-line p r s h m =
    let o = pattern-makes p h r m.filled in
    record { writable = o.writable; text = ap (λ (q : ℕ). fill variables (get_or templates q []) (values_of (make_at p r))) o.pattern ∙ o.text ∙ m.text }

-- ---- what is read as an operation is its line

same_op : (a b : Op) → ◌≡◌ {A = Result Op NotLine} (Ok a) (Ok b) → a ≡ b
same_op a b e = cc

same_length : (a b : ℕ) → stops_at a ≡ stops_at b → a ≡ b
unfolding line_read_length
same_length a b e = ap line_read_length e

not-operation : (a : Op) (k : ℕ) → ◌≡◌ {A = Result Op NotLine} (Ok a) (stops_at k) → ⊥
not-operation a k e = let z : ◌≡◌ {A = ℕ} 0 1 = cc in omega arith

line-of-read : (s : List ℕ) (op : Op) (a : Search) → search variables templates s 0 0 ≡ a → read_as a ≡ Ok op → LineOf op s
line-of-read s op (read i r) e h =
    let f = found-is variables most readable templates s 0 0 i r e in
    let q : i ≡ f.place = f.here ∙ omega arith in
    subst (λ (x : Op). LineOf x s) (ap (λ (j : ℕ). make_at j r) (sym q) ∙ same_op _ op h) (made-line f.place r s f.within f.made)
line-of-read s op (unread k) e h = absurd (not-operation op k (sym h))

read-of-line : (s : List ℕ) (op : Op) → LineOf op s → read_of s ≡ Ok op
unfolding read_of line_of
read-of-line s op l =
    let m = remakes op l.writable in
    let f = finds variables most readable templates s 0 0 (pattern_of op) (values_of op) templates-clear templates-apart m.within m.good l.text in
    let z : 0 + pattern_of op ≡ pattern_of op = omega arith in
    ap read_as f.is ∙ ap (λ (j : ℕ). Ok (make_at j f.values)) z ∙ ap Ok (m.again f.values f.agrees f.made.filled)

-- a pattern that has a text whole is the one that it is read by
pub read-by-pattern : (p : ℕ) (s : List ℕ) → p < pattern_count → (follow variables (get_or templates p []) blank s).whole ≡ true → read_of s ≡ Ok (make_at p (follow variables (get_or templates p []) blank s).values)
read-by-pattern p s h w =
    read-of-line s (make_at p (follow variables (get_or templates p []) blank s).values)
    (made-line p (follow variables (get_or templates p []) blank s).values s h (sound variables most readable (get_or templates p []) blank s (blank-partly most) w))

pub line-exact : (s : List ℕ) (op : Op) → (read_of s ≡ Ok op → LineOf op s) × (LineOf op s → read_of s ≡ Ok op)
unfolding read_of
line-exact s op = (line-of-read s op (search variables templates s 0 0) refl, read-of-line s op)

-- one reading: two operations that can be written never have one line
pub line-unique : (a b : Op) (s : List ℕ) → LineOf a s → LineOf b s → a ≡ b
line-unique a b s l m = same_op a b (sym (read-of-line s a l) ∙ read-of-line s b m)

-- ---- what is read as no line

-- a beginning that some line has is not longer than what some pattern reaches
begins-below : (s : List ℕ) (n j : ℕ) → Unread variables most readable templates s 0 n → j ≤ length s → Begins (take j s) → j ≤ n
unfolding line_of
begins-below s n j u h b =
    let m = remakes b.op b.writable in
    let p : ℕ = pattern_of b.op in
    let reached = upper variables most readable (get_or templates p []) blank (values_of b.op) s (clear_at variables templates p templates-clear m.within) m.good (blank-agrees (values_of b.op)) in
    let along : j ≤ common_prefix (line_of b.op) s = rw b.text (common-begins j s b.rest h) in
    omega (arith, reached, along, u.least p m.within)

-- some pattern's reach is a beginning that some line has
begins-at : (s : List ℕ) (p : ℕ) → p < pattern_count → Begins (take (follow variables (get_or templates p []) blank s).reach s)
begins-at s p h =
    let t = get_or templates p [] in
    let o = lower variables most readable t blank s (blank-partly most) in
    let l = made-line p o.values (fill variables t o.values) h (record { text = refl; filled = filled-good variables most readable t o.values o.good }) in
    let k : ℕ = (follow variables t blank s).reach in
    record {
      op = make_at p o.values;
      writable = l.writable;
      rest = drop k (fill variables t o.values);
      text = l.text ∙ subst (λ (n : ℕ). fill variables t o.values ≡ take n s ++ drop n (fill variables t o.values)) o.goes (common-take (fill variables t o.values) s);
    }

reach-within : (s : List ℕ) (p : ℕ) → p < pattern_count → (follow variables (get_or templates p []) blank s).reach ≤ length s
reach-within s p h =
    let t = get_or templates p [] in
    let o = lower variables most readable t blank s (blank-partly most) in
    subst (λ (n : ℕ). n ≤ length s) o.goes (common-le-right (fill variables t o.values) s)

no_line : (s : List ℕ) (k : ℕ) → Unread variables most readable templates s 0 k → ((op : Op) → LineOf op s → ⊥) → NoLine s k
no_line s k u none =
    ⊎_elim
    (λ e.
    let b = begins-at s 0 (omega arith) in
    let z : (follow variables (get_or templates 0 []) blank s).reach ≡ k = omega (arith, u.least 0 (omega arith)) in
    record { none = none; within = omega arith; begins = subst (λ (n : ℕ). Begins (take n s)) z b; longest = λ j h c. begins-below s k j u h c })
    (λ q.
    record {
      none = none;
      within = subst (λ (n : ℕ). n ≤ length s) q.2 (reach-within s q.0 q.1);
      begins = subst (λ (n : ℕ). Begins (take n s)) q.2 (begins-at s q.0 q.1);
      longest = λ j h c. begins-below s k j u h c;
    })
    u.met

no-line-of-read : (s : List ℕ) (k : ℕ) (a : Search) → search variables templates s 0 0 ≡ a → read_as a ≡ stops_at k → NoLine s k
unfolding read_of
no-line-of-read s k (read i r) e h = absurd (not-operation _ k h)
no-line-of-read s k (unread n) e h =
    let q = same_length n k h in
    subst (NoLine s) q (no_line s n (unread-is variables most readable templates s 0 0 n e) (λ op l. not-operation op n (sym (read-of-line s op l) ∙ ap read_as e)))

-- two answers for one text
longest-once : (s : List ℕ) (k n : ℕ) → NoLine s k → NoLine s n → k ≡ n
longest-once s k n a b = omega (arith, a.longest n b.within b.begins, b.longest k a.within a.begins)

read-of-no-line : (s : List ℕ) (k : ℕ) → NoLine s k → (a : Result Op NotLine) → read_of s ≡ a → read_of s ≡ stops_at k
unfolding read_of
read-of-no-line s k n (Ok op) e = absurd (n.none op ((line-exact s op).0 e))
read-of-no-line s k n (Err m) e = e ∙ ap stops_at (longest-once s m.reach k (no-line-of-read s m.reach (search variables templates s 0 0) refl e) n)

pub longest : (s : List ℕ) (k : ℕ) → (read_of s ≡ stops_at k → NoLine s k) × (NoLine s k → read_of s ≡ stops_at k)
unfolding read_of
longest s k = (no-line-of-read s k (search variables templates s 0 0) refl, (λ n. read-of-no-line s k n (read_of s) refl))

-- ---- a line that is cut off, and no text at all

pub cut_off : (s : List ℕ) → Begins s → ((op : Op) → LineOf op s → ⊥) → read_of s ≡ stops_at (length s)
cut_off s b none =
    (longest s (length s)).1
    (record { none = none; within = omega arith; begins = subst Begins (sym (take-length s)) b; longest = λ j h c. h })

pub empty-line : read_of [] ≡ stops_at 0
unfolding read_of search follow variables common_prefix
empty-line = refl
