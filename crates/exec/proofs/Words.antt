-- One word of a run, and the loop over the words. `refused-word`, `done-word`: what the step of a word answers. `words-start`, `words-on`, `words-stop`,
-- `words-end`: the run from word i on is the run from the start. Assumes nothing.
use mathlib.Core.Path.{◌≡◌, refl, sym, ap, subst, ◌∙◌}
use mathlib.Core.Logic.{⊎_elim}
use mathlib.Core.List.{List, [], ◌∷◌}
use mathlib.Core.Bool.{Bool, ◌||◌}
use Prim.Native.Nat.{ℕ, ◌+◌, ◌*◌, ◌<◌, ◌≤◌}
use native.Mathlib.Omega.{arith}
use lib.ListN.{length, get_or}
use Rattle.std.proofs.Common.{Result, Ok, Err}
use types.Run.{OneOf}
use denote.Enum.Declared.{tag_of}
use Rattle.isa.specs.contracts.types.Decoded.{the_type}
use Rattle.isa.specs.declared.types.Op.{Op}
use Rattle.isa.specs.declared.types.Decoded.{Decoded}
use Rattle.isa.specs.declared.types.Ending.{Ending}
use Rattle.isa.specs.declared.types.Ran.{Ran}
use Rattle.isa.specs.Decode.{decode_of}
use Rattle.isa.specs.Meaning.{flag_after}
use Rattle.isa.specs.File.{byte_at}
use Rattle.isa.specs.Run as isa
use Rattle.isa.proofs.Run.{reserved, outside}
use Rattle.isa.proofs.Going.{Going, going-starts, going_on, going-stops, going-ends}
use Rattle.exec.specs.declared.carried.Carried.{Carried}
use Rattle.exec.specs.Step.{Executed, ran_of, stepped_of, file_after, refusal_of}

-- ---- one word

tag-above : (x : ℕ) → OneOf (1 ∷ 2 ∷ []) x → 0 < x
tag-above x h = ⊎_elim (λ e. omega arith) (λ e. omega arith) h

module _ (L : ℕ) (file : List ℕ) (s : Carried) where
  no-operation : (k : Decoded) → OneOf (1 ∷ 2 ∷ []) (tag_of the_type k) → (Err (ran_of (refusal_of k) s) ≡ stepped_of k L file s) × (file ≡ file_after k L file)
  no-operation (Decoded.Operation op) h = let z = tag-above 0 h in absurd (omega arith)
  no-operation Decoded.Reserved h = (refl, refl)
  no-operation Decoded.Outside h = (refl, refl)

  -- a word that is no operation
  pub refused-word : (k known : Decoded) (e : Ending) (r : Ran) → OneOf (1 ∷ 2 ∷ []) (tag_of the_type k) → k ≡ known → e ≡ refusal_of k → r ≡ ran_of e s →
      (Err r ≡ stepped_of known L file s) × (file ≡ file_after known L file)
  refused-word k known e r h p q a =
      let o = no-operation k h in
      (ap Err (a ∙ ap (λ x. ran_of x s) q) ∙ o.0 ∙ ap (λ x. stepped_of x L file s) p, o.1 ∙ ap (λ x. file_after x L file) p)

  -- a word that is one
  pub done-word : (known : Decoded) (op : Op) (after : List ℕ) (clamped : Bool) (next : Carried) → known ≡ Decoded.Operation op →
      Executed L op file after clamped → (next.qc ≡ (s.qc || clamped)) × (next.done ≡ s.done + 1) →
      (Ok next ≡ stepped_of known L file s) × (after ≡ file_after known L file)
  done-word known op after clamped next p w n =
      let flag : next.qc ≡ flag_after op (byte_at L file) s.qc = n.0 ∙ sym (w.flag s.qc) in
      ((λ t. Ok (record { qc = flag t; done = n.1 t })) ∙ ap (λ x. stepped_of x L file s) (sym p), w.left ∙ ap (λ x. file_after x L file) (sym p))

-- ---- the words in order

-- the defined run's state: the file, and what the code carries
abbrev pub state_of : List ℕ → Carried → isa.State
state_of file s = record { file = file; qc = s.qc; done = s.done }

pub words-start : (L : ℕ) (words file : List ℕ) (qc : Bool) (s : Carried) → length file ≡ 4 * L → (s.qc ≡ qc) × (s.done ≡ 0) →
    Going L words (isa.start file qc) (state_of file s) 0
words-start L words file qc s h e =
    let flag = sym e.0 in
    let none = sym e.1 in
    subst (λ x. Going L words (isa.start file qc) x 0) (λ t. record { file = file; qc = flag t; done = none t }) (going-starts L words file qc h)

module _ (L : ℕ) (words : List ℕ) (s₀ : isa.State) (file : List ℕ) (s : Carried) (i : ℕ) (g : Going L words s₀ (state_of file s) i) where
  on-by : (more : i < length words) (next : Carried) (d : Decoded) → decode_of (get_or words i 0) ≡ d → stepped_of d L file s ≡ Ok next →
      Going L words s₀ (state_of (file_after d L file) next) (i + 1)
  unfolding isa.after
  on-by more next (Decoded.Operation op) e h =
      let same : record { qc = flag_after op (byte_at L file) s.qc; done = s.done + 1 } ≡ next = cc in
      subst (λ n. Going L words s₀ (state_of (file_after (Decoded.Operation op) L file) n) (i + 1)) same (going_on L words s₀ (state_of file s) i g op more e)
  on-by more next Decoded.Reserved e h = let z : ◌≡◌ {A = ℕ} 0 1 = cc in absurd (omega arith)
  on-by more next Decoded.Outside e h = let z : ◌≡◌ {A = ℕ} 0 1 = cc in absurd (omega arith)

  stop-by : (more : i < length words) (r : Ran) (d : Decoded) → decode_of (get_or words i 0) ≡ d → stepped_of d L file s ≡ Err r →
      record { answer = r; file = file_after d L file } ≡ isa.run L words s₀
  stop-by more r (Decoded.Operation op) p h = let z : ◌≡◌ {A = ℕ} 0 1 = cc in absurd (omega arith)
  stop-by more r Decoded.Reserved p h =
      let same : ran_of Ending.Reserved s ≡ r = cc in
      ap (λ x. record { answer = x; file = file }) (sym same) ∙ going-stops L words s₀ (state_of file s) i g reserved more p
  stop-by more r Decoded.Outside p h =
      let same : ran_of Ending.Outside s ≡ r = cc in
      ap (λ x. record { answer = x; file = file }) (sym same) ∙ going-stops L words s₀ (state_of file s) i g outside more p

  -- the word was an operation, and `next` and `after` are what it left
  pub words-on : i < length words → (next : Carried) (stepped : Result Carried Ran) (after : List ℕ) →
      (stepped ≡ stepped_of (decode_of (get_or words i 0)) L file s) × (after ≡ file_after (decode_of (get_or words i 0)) L file) → stepped ≡ Ok next →
      Going L words s₀ (state_of after next) (i + 1)
  words-on more next stepped after w e =
      subst (λ f. Going L words s₀ (state_of f next) (i + 1)) (sym w.1) (on-by more next (decode_of (get_or words i 0)) refl (sym w.0 ∙ e))

  -- it was none, and the run ends
  pub words-stop : i < length words → (r : Ran) (stepped : Result Carried Ran) (after : List ℕ) →
      (stepped ≡ stepped_of (decode_of (get_or words i 0)) L file s) × (after ≡ file_after (decode_of (get_or words i 0)) L file) → stepped ≡ Err r →
      record { answer = r; file = after } ≡ isa.run L words s₀
  words-stop more r stepped after w p =
      (λ t. record { answer = r; file = w.1 t }) ∙ stop-by more r (decode_of (get_or words i 0)) refl (sym w.0 ∙ p)

  -- no word is left
  pub words-end : length words ≤ i → (r : Ran) → r ≡ ran_of Ending.Done s →
      record { answer = r; file = file } ≡ isa.run L words s₀
  words-end h r q = (λ t. record { answer = q t; file = file }) ∙ going-ends L words s₀ (state_of file s) i g h

-- ---- the loop over any list of words that is the program's

module _ (ws words : List ℕ) (i : ℕ) where
  pub same-more : ws ≡ words → i < length ws → i < length words
  same-more same h = subst (λ (v : List ℕ). i < length v) same h

  pub same-end : ws ≡ words → length ws ≤ i → length words ≤ i
  same-end same h = subst (λ (v : List ℕ). length v ≤ i) same h

  pub same-step : (l L : ℕ) (s : Carried) (file : List ℕ) (r : Result Carried Ran) (after : List ℕ) → ws ≡ words → l ≡ L →
      (r ≡ stepped_of (decode_of (get_or ws i 0)) l file s) × (after ≡ file_after (decode_of (get_or ws i 0)) l file) →
      (r ≡ stepped_of (decode_of (get_or words i 0)) L file s) × (after ≡ file_after (decode_of (get_or words i 0)) L file)
  same-step l L s file r after same e w =
      subst (λ (v : List ℕ). (r ≡ stepped_of (decode_of (get_or v i 0)) L file s) × (after ≡ file_after (decode_of (get_or v i 0)) L file)) same
      (subst (λ (k : ℕ). (r ≡ stepped_of (decode_of (get_or ws i 0)) k file s) × (after ≡ file_after (decode_of (get_or ws i 0)) k file)) e w)
