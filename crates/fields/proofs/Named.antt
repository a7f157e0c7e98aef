-- Which operation eight numbers name, case by case. Assumes nothing.
use mathlib.Core.Path.{◌≡◌, refl, sym, ap}
use Prim.Native.Nat.{ℕ, zero, suc, ◌+◌, ◌≤◌}
use native.Mathlib.Omega.{arith}
use mathlib.Core.Bool.{Bool, true, false}
use lib.ListN.{get_or, get_or-eq_default}
use Rattle.isa.specs.declared.types.Form.{Form}
use Rattle.fields.specs.declared.types.Numbers.{Numbers}
use Rattle.std.specs.Prelude.{Option, Some, None, MatchOption, IsSomeAnd}
use Rattle.std.proofs.lemmas.Option.{MatchOption-at_some, MatchOption-at_none}
use Rattle.isa.specs.declared.types.Op.{Op}
use Rattle.fields.specs.Named.{within_of, form_of, named_if, families, family_named, named_of}

pub form-rest : (n : ℕ) → 2 ≤ n → Form.Vector128 ≡ form_of n
form-rest zero h = absurd (omega arith)
form-rest (suc zero) h = absurd (omega arith)
form-rest (suc (suc n)) h = refl

-- what carries the fields of a family to its operation carries them where they are named
pub mapped : {A : Type 0} (f : A → Op) {o : Option A} {r : Option Op} (b : Bool) (a : A) → o ≡ named_if b a → MatchOption o (r ≡ None) (λ x. IsSomeAnd r (λ y. y ≡ f x)) → r ≡ named_if b (f a)
mapped f {o} {r} true a e h = only r (f a) (MatchOption-at_some (r ≡ None) (λ x. IsSomeAnd r (λ y. y ≡ f x)) a e h)
  where
    only : (r : Option Op) (y : Op) → IsSomeAnd r (λ z. z ≡ y) → r ≡ Some y
    only (Some x) y h = ap Some h
    only None y h = absurd h
mapped f {o} {r} false a e h = MatchOption-at_none (r ≡ None) (λ x. IsSomeAnd r (λ y. y ≡ f x)) e h

-- ---- by the family

pub family-at : (n : Numbers) (k : ℕ) → n.family ≡ k → get_or (families n) k None ≡ family_named n
unfolding family_named
family-at n k e = ap (λ (x : ℕ). get_or (families n) x None) (sym e)

-- four arms of a match that a number is none of
past : (k f : ℕ) → k ≤ f → (f ≡ k → ⊥) → (f ≡ k + 1 → ⊥) → (f ≡ k + 2 → ⊥) → (f ≡ k + 3 → ⊥) → k + 4 ≤ f
past k f h n₀ n₁ n₂ n₃ = omega arith

past_one : (k f : ℕ) → k ≤ f → (f ≡ k → ⊥) → k + 1 ≤ f
past_one k f h n = omega arith

-- the last arm: the family is none of the nine
module _ (n : Numbers) where
  abbrev Not : ℕ → Type 0
  Not k = n.family ≡ k → ⊥

  pub family-rest : Not 0 → Not 1 → Not 2 → Not 3 → Not 4 → Not 5 → Not 6 → Not 7 → Not 8 → None ≡ family_named n
  unfolding family_named
  family-rest n₀ n₁ n₂ n₃ n₄ n₅ n₆ n₇ n₈ =
      let f = n.family in
      let eight : 8 ≤ f = past 4 f (past 0 f (omega arith) n₀ n₁ n₂ n₃) n₄ n₅ n₆ n₇ in
      let nine : 9 ≤ f = past_one 8 f eight n₈ in
      sym (get_or-eq_default (families n) None nine)

pub named-within : (n : Numbers) → within_of n ≡ true → family_named n ≡ named_of n
unfolding named_of
named-within n e = rw e

pub named_past : (n : Numbers) → within_of n ≡ false → None ≡ named_of n
unfolding named_of
named_past n e = rw e
