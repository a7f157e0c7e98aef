-- Writing by its checks. `encode-exact`: each number, with the word beside it, is answered exactly when document 01's line holds and no earlier
-- check fails. `word-exact`: the word is answered exactly when every check passes. `same_answer`: a word that is right where every check passes
-- gives the same answer. Assumes nothing.
use Prim.Native.Nat.{ℕ}
use mathlib.Core.Path.{◌≡◌, refl, ap, subst}
use mathlib.Core.Logic.{◌↔◌}
use mathlib.Core.Bool.{Bool, true, false}
use native.Mathlib.Omega.{arith}
use Rattle.isa.specs.declared.types.Op.{Op}
use Rattle.std.specs.Prelude.{Ok}
use Rattle.isa.specs.Encode.{WriteChecks, answer, write_checks, encode_of}
use Rattle.isa.specs.Number.{written_number, written_word}
use Rattle.isa.specs.Returned.{WriteReturns, WritesAs, done, no_size, no_rotation, register_limit, group_start, index_limit}

module _ (op : Op) where
  returned : (s r g t i : Bool) → (write_checks op).size ≡ s → (write_checks op).rotation ≡ r → (write_checks op).registers ≡ g → (write_checks op).start ≡ t →
      (write_checks op).index ≡ i → WriteReturns op (written_number (encode_of op)) (written_word (encode_of op))
  unfolding encode_of answer written_number written_word
  returned false r g t i es er eg et ei = rw es (no_size es)
  returned true false g t i es er eg et ei = rw (es, er) (no_rotation es er)
  returned true true false t i es er eg et ei = rw (es, er, eg) (register_limit es er eg)
  returned true true true false i es er eg et ei = rw (es, er, eg, et) (group_start es er eg et)
  returned true true true true false es er eg et ei = rw (es, er, eg, et, ei) (index_limit es er eg et ei)
  returned true true true true true es er eg et ei = rw (es, er, eg, et, ei) (done es er eg et ei)

  answered : {n w : ℕ} → WriteReturns op n w → WritesAs op n w
  unfolding encode_of answer written_number written_word
  answered (done es er eg et ei) = rw (es, er, eg, et, ei) (refl, refl)
  answered (no_size es) = rw es (refl, refl)
  answered (no_rotation es er) = rw (es, er) (refl, refl)
  answered (register_limit es er eg) = rw (es, er, eg) (refl, refl)
  answered (group_start es er eg et) = rw (es, er, eg, et) (refl, refl)
  answered (index_limit es er eg et ei) = rw (es, er, eg, et, ei) (refl, refl)

  pub encode-exact : (n w : ℕ) → WritesAs op n w ↔ WriteReturns op n w
  encode-exact n w =
      ((λ e. subst (λ x. WriteReturns op x w) e.0 (subst (WriteReturns op _) e.1 (returned _ _ _ _ _ refl refl refl refl refl))), answered)

-- every check passes, and the word is w
pub record ChecksPassed (k : WriteChecks) (w : ℕ) : Type 0 where
  pub size : k.size ≡ true
  pub rotation : k.rotation ≡ true
  pub registers : k.registers ≡ true
  pub start : k.start ≡ true
  pub index : k.index ≡ true
  pub word : k.word ≡ w

pub passes : (k : WriteChecks) (w : ℕ) → ChecksPassed k w → answer k ≡ Ok w
unfolding answer
passes k w p = rw (p.size, p.rotation, p.registers, p.start, p.index, p.word)

-- 0 is returned where every check passes
pub passed : (op : Op) (n w : ℕ) → WriteReturns op n w → n ≡ 0 → ChecksPassed (write_checks op) w
passed op n w (done es er eg et ei) z = record { size = es; rotation = er; registers = eg; start = et; index = ei; word = refl }
passed op n w (no_size es) z = absurd (omega arith)
passed op n w (no_rotation es er) z = absurd (omega arith)
passed op n w (register_limit es er eg) z = absurd (omega arith)
passed op n w (group_start es er eg et) z = absurd (omega arith)
passed op n w (index_limit es er eg et ei) z = absurd (omega arith)

pub word-exact : (op : Op) (w : ℕ) → (encode_of op ≡ Ok w) ↔ ChecksPassed (write_checks op) w
unfolding encode_of written_number written_word
word-exact op w = ((λ e. passed op 0 w ((encode-exact op 0 w).0 (ap written_number e, ap written_word e)) refl), passes (write_checks op) w)

abbrev pub with_word : WriteChecks → ℕ → WriteChecks
with_word k w = record { size = k.size; rotation = k.rotation; registers = k.registers; start = k.start; index = k.index; word = w }

pub same_answer : (k : WriteChecks) {w : ℕ} → (ChecksPassed k k.word → w ≡ k.word) → answer (with_word k w) ≡ answer k
unfolding answer
same_answer k {w} right = by k.size k.rotation k.registers k.start k.index refl refl refl refl refl
  where
    by : (s r g t i : Bool) → k.size ≡ s → k.rotation ≡ r → k.registers ≡ g → k.start ≡ t → k.index ≡ i → answer (with_word k w) ≡ answer k
    by false r g t i es er eg et ei = rw es
    by true false g t i es er eg et ei = rw (es, er)
    by true true false t i es er eg et ei = rw (es, er, eg)
    by true true true false i es er eg et ei = rw (es, er, eg, et)
    by true true true true false es er eg et ei = rw (es, er, eg, et, ei)
    by true true true true true es er eg et ei =
        let e = right (record { size = es; rotation = er; registers = eg; start = et; index = ei; word = refl }) in
        rw (es, er, eg, et, ei, e)
