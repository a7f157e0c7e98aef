-- What is known of a case. `known_picked`, `open-picked`, `closed-picked`: the choice by a verdict that is known in part. `executed`: words that are run.
-- Assumes nothing.
use mathlib.Core.Path.{◌≡◌, refl, sym, ap, ◌∙◌}
use mathlib.Core.List.{List, [], ◌∷◌}
use mathlib.Core.Bool.{true, false, true≢false}
use Prim.Native.Nat.{ℕ, ◌+◌}
use types.Run.{OneOf, miss}
use denote.Enum.Declared.{tag_of}
use Rattle.isa.specs.Run.{Outcome}
use Rattle.isa.specs.declared.types.Ran.{Ran}
use Rattle.trace.specs.declared.types.Verdict.{Verdict}
use Rattle.trace.specs.contracts.types.Verdict.{the_type}
use Rattle.stream.specs.Body.{stop_said}
use Rattle.stream.specs.Steps.{pick_agrees, pick_open, Worked, worked_by}

module _ {A : Type 0} (a b : A) where
  pub agrees-picked : (v : Verdict) → v ≡ Verdict.Agrees → pick_agrees v a b ≡ a
  agrees-picked v e = rw e

  pub known_picked : (v : Verdict) → OneOf (1 ∷ 2 ∷ 3 ∷ 4 ∷ 5 ∷ []) (tag_of the_type v) → pick_agrees v a b ≡ b
  known_picked Verdict.Agrees h = absurd (miss (1 ∷ 2 ∷ 3 ∷ 4 ∷ 5 ∷ []) 0 tt h)
  known_picked (Verdict.FileDiffers i x) h = refl
  known_picked Verdict.FlagDiffers h = refl
  known_picked (Verdict.Outside k) h = refl
  known_picked (Verdict.Reserved k) h = refl
  known_picked Verdict.BadFlag h = refl

  pub open-picked : (v : Verdict) → pick_open v true false ≡ true → pick_open v a b ≡ a
  open-picked Verdict.Agrees e = refl
  open-picked (Verdict.FileDiffers i x) e = absurd (true≢false (sym e))
  open-picked Verdict.FlagDiffers e = refl
  open-picked (Verdict.Outside k) e = absurd (true≢false (sym e))
  open-picked (Verdict.Reserved k) e = absurd (true≢false (sym e))
  open-picked Verdict.BadFlag e = absurd (true≢false (sym e))

  pub closed-picked : (v : Verdict) → pick_open v true false ≡ false → pick_open v a b ≡ b
  closed-picked Verdict.Agrees e = absurd (true≢false e)
  closed-picked (Verdict.FileDiffers i x) e = refl
  closed-picked Verdict.FlagDiffers e = absurd (true≢false e)
  closed-picked (Verdict.Outside k) e = refl
  closed-picked (Verdict.Reserved k) e = refl
  closed-picked Verdict.BadFlag e = refl

pub executed : (done : ℕ) (v : Verdict) → v ≡ Verdict.Agrees → (o : Outcome) (r : Ran) (left : List ℕ) → record { answer = r; file = left } ≡ o → (said : Verdict) →
    said ≡ stop_said r.ending (done + r.done) → (other : Worked) →
    record { standing = record { said = said; qc = r.qc }; file = left } ≡ pick_agrees v (worked_by o done) other
executed done v e o r left h said f other =
    ap (λ (w : Verdict). record { standing = record { said = w; qc = r.qc }; file = left }) f ∙ ap (λ (p : Outcome). worked_by p done) h
    ∙ sym (agrees-picked (worked_by o done) other v e)
