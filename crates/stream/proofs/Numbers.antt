-- What a byte of the contents brings, by the tests that are made of it. `count-..`: of the number of cases. `start-..`: of the start of a body. `number-..`: of
-- a number of an entry. Assumes nothing.
use mathlib.Core.Path.{◌≡◌, refl, sym, ◌∙◌}
use mathlib.Core.List.{List}
use mathlib.Core.Bool.{Bool, true, false, ◌&&◌, ◌||◌, true≢false}
use Prim.Native.Nat.{ℕ, ◌+◌, ◌*◌, ◌-◌, ◌%◌, ◌<◌, ◌≤◌}
use lib.Dec.{leb, ltb, eqb}
use lib.ListN.{replicate}
use borrow.Author.Tests.{leb-true, ltb-false, lt-ltb, le-ltb, eq-eqb, ne_eqb}
use Rattle.isa.specs.Bytes.{word_at}
use Rattle.isa.specs.File.{legal}
use Rattle.isa.proofs.Fields.{and_right}
use Rattle.replay.specs.Extent.{body_end}
use Rattle.stream.specs.Contents.{refused_on, listed_on, opened_on, count_on, start_on, number_on}
use Rattle.stream.specs.declared.state.Stepped.{Stepped}
use Rattle.stream.proofs.Padded.{padded-none}
use Rattle.trace.specs.declared.types.TraceRefusal.{TraceRefusal}
use Rattle.std.specs.Prelude.{Some, None, Err}

pub count-few : (n : ℕ) → (leb 1 n && leb n 1024) ≡ true → n ≤ 1024
count-few n t = leb-true n 1024 (and_right (leb 1 n) (leb n 1024) t)

module _ (at : ℕ) (held : List ℕ) where
  pub count-on : at < 3 → listed_on 0 0 (at + 1) held ≡ count_on at held
  unfolding count_on
  count-on l = rw (lt-ltb at 3 l)

  module _ (l : 3 ≤ at) (n : ℕ) (e : n ≡ word_at held 0) where
    pub count-listed : (leb 1 n && leb n 1024) ≡ true → (end : ℕ) → end ≡ 4 + 12 * n → listed_on n end 4 (replicate 4 0) ≡ count_on at held
    unfolding count_on
    count-listed t end f = rw (le-ltb at 3 l, ← e, t, f, padded-none 4)

    pub count-refused : (leb 1 n && leb n 1024) ≡ false → refused_on (Err TraceRefusal.BadContents) ≡ count_on at held
    unfolding count_on
    count-refused t = rw (le-ltb at 3 l, ← e, t)

neither : (a b : Bool) → (a || b) ≡ false → (a ≡ false) × (b ≡ false)
neither false b e = (refl, e)
neither true b e = absurd (true≢false e)

pub start_small : (cases due : ℕ) → (ltb 1024 cases || ltb 0x400_0000 due) ≡ false → (cases ≤ 1024) × (due ≤ 0x400_0000)
start_small cases due t =
    let both = neither (ltb 1024 cases) (ltb 0x400_0000 due) t in
    (ltb-false 1024 cases both.0, ltb-false 0x400_0000 due both.1)

module _ (contents : List ℕ) (cases due at start : ℕ) where
  pub start-free : (ltb 1024 cases || ltb 0x400_0000 due) ≡ true → refused_on (Err TraceRefusal.BadContents) ≡ start_on contents cases due at start
  unfolding start_on
  start-free t = rw t

  module _ (t : (ltb 1024 cases || ltb 0x400_0000 due) ≡ false) (l w : ℕ) (e : l ≡ word_at contents (at - 15)) (f : w ≡ word_at contents (at - 11)) where
    pub start-refused : body_end l w start due ≡ None → refused_on (Err TraceRefusal.BadContents) ≡ start_on contents cases due at start
    unfolding start_on
    start-refused g = rw (t, ← e, ← f, g)

    module _ (end : ℕ) (g : body_end l w start due ≡ Some end) (last : ℕ) (p : last ≡ 4 + 12 * cases) where
      pub start-opens : at + 1 ≡ last → opened_on cases end ≡ start_on contents cases due at start
      unfolding start_on
      start-opens s = rw (t, ← e, ← f, g, eq-eqb _ _ (s ∙ p))

      pub start-on : (at + 1 ≡ last → ⊥) → listed_on cases end (at + 1) (replicate 4 0) ≡ start_on contents cases due at start
      unfolding start_on
      start-on s = rw (t, ← e, ← f, g, ne_eqb (at + 1) (4 + 12 * cases) (λ q. s (q ∙ sym p)), padded-none 4)

module _ (contents : List ℕ) (cases due at n : ℕ) (e : n ≡ word_at contents (at - 7)) where
  pub number-start : (at - 4) % 12 ≡ 11 → (r : Stepped) → r ≡ start_on contents cases due at n → r ≡ number_on contents cases due at
  unfolding number_on
  number-start c r f = rw (eq-eqb _ _ c, ← e) f

  module _ (c : (at - 4) % 12 ≡ 11 → ⊥) (ok : Bool) (f : ok ≡ legal n) where
    pub number-on : ((ok && eqb ((at - 4) % 12) 3) || (leb n 4096 && eqb ((at - 4) % 12) 7)) ≡ true →
        listed_on cases due (at + 1) (replicate 4 0) ≡ number_on contents cases due at
    unfolding number_on
    number-on t = rw (ne_eqb _ _ c, ← e, ← f, t, padded-none 4)

    pub number-refused : ((ok && eqb ((at - 4) % 12) 3) || (leb n 4096 && eqb ((at - 4) % 12) 7)) ≡ false →
        refused_on (Err TraceRefusal.BadContents) ≡ number_on contents cases due at
    unfolding number_on
    number-refused t = rw (ne_eqb _ _ c, ← e, ← f, t)
