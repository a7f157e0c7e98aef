-- One byte more is read, or stored; one store of zeros more is cleared. Assumes nothing.
use mathlib.Core.Path.{◌≡◌, refl, sym, ap, subst, ◌∙◌}
use mathlib.Core.Logic.{◌≢◌}
use Prim.Native.Nat.{ℕ, ◌+◌, ◌-◌, ◌<◌, ◌≤◌}
use native.Mathlib.Omega.{arith}
use mathlib.Core.List.{List}
use lib.ListN.{length, get_or, set, length-set}
use lib.Seq.{get_or-set_same, get_or-set_other}
use lib.Dec.{ltb, eqb}
use borrow.Author.Tests.{ltb-true, ltb-false, eqb-true, eqb-false}
use Rattle.isa.proofs.File.{cases}
use Rattle.regfile.specs.Bytes.{Loaded, Stored, Cleared}

pub load-none : (file : List ℕ) (at : ℕ) (r : List ℕ) → Loaded file at 0 r
load-none file at r = record { read = λ i h. absurd (omega arith) }

pub load-more : (file : List ℕ) (at i : ℕ) (r : List ℕ) → i < length r → Loaded file at i r → Loaded file at (i + 1) (set r i (get_or file (at + i) 0))
load-more file at i r h l = record {
  read = λ x b. cases (eqb x i)
      (λ e.
      let here = eqb-true x i e in
      subst (λ y. get_or (set r i (get_or file (at + i) 0)) y 0 ≡ get_or file (at + y) 0) (sym here) (get_or-set_same r i _ 0 h))
      (λ e.
      let ne : x ≢ i = eqb-false x i e in
      get_or-set_other r i x _ 0 ne ∙ l.read x (omega arith));
}

pub store-none : (file : List ℕ) (at : ℕ) (new : List ℕ) → Stored file at 0 new file
store-none file at new = record { size = refl; inside = λ i h. absurd (omega arith); low = λ x h. refl; high = λ x h. refl }

pub store-more : (file : List ℕ) (at i : ℕ) (new after : List ℕ) → at + i < length after → Stored file at i new after →
    Stored file at (i + 1) new (set after (at + i) (get_or new i 0))
store-more file at i new after h s = record {
  size = length-set after (at + i) _ ∙ s.size;
  inside = λ x b. cases (eqb x i)
      (λ e.
      let here = eqb-true x i e in
      subst (λ y. get_or (set after (at + i) (get_or new i 0)) (at + y) 0 ≡ get_or new y 0) (sym here) (get_or-set_same after (at + i) _ 0 h))
      (λ e.
      let ne : x ≢ i = eqb-false x i e in
      let off : at + x ≢ at + i = omega arith in
      get_or-set_other after (at + i) (at + x) _ 0 off ∙ s.inside x (omega arith));
  low = λ x b.
      let off : x ≢ at + i = omega arith in
      get_or-set_other after (at + i) x _ 0 off ∙ s.low x b;
  high = λ x b.
      let off : x ≢ at + i = omega arith in
      get_or-set_other after (at + i) x _ 0 off ∙ s.high x (omega arith);
}

pub clear_none : (file : List ℕ) (from : ℕ) → Cleared file from from file
clear_none file from = record { size = refl; inside = λ x h l. absurd (omega arith); low = λ x h. refl; high = λ x h. refl }

pub clear-more : (file : List ℕ) (from to count : ℕ) (zeros g after : List ℕ) → from ≤ to → Cleared file from to g → Stored g to count zeros after →
    ((i : ℕ) → get_or zeros i 0 ≡ 0) → Cleared file from (to + count) after
clear-more file from to count zeros g after order c s none = record {
  size = s.size ∙ c.size;
  inside = λ x h l. cases (ltb x to)
      (λ e. s.low x (ltb-true x to e) ∙ c.inside x h (ltb-true x to e))
      (λ e.
      let past : to ≤ x = ltb-false x to e in
      ap (λ k. get_or after k 0) (omega arith) ∙ s.inside (x - to) (omega arith) ∙ none (x - to));
  low = λ x h. s.low x (omega arith) ∙ c.low x h;
  high = λ x h. s.high x h ∙ c.high x (omega arith);
}
