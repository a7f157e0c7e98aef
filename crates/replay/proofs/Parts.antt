-- A body's parts and the verdict on them. `done-verdict`, `stopped-verdict`: a run on a copy of the file is the run of the body. `cut_parts`: where the
-- code cuts them they have their sizes. `verdict-judged`, `verdict-refused`: the verdict on them is the body's. Assumes nothing.
use mathlib.Core.Path.{◌≡◌, refl, sym, ap, ap₂, ◌∙◌}
use mathlib.Core.List.{List}
use mathlib.Core.Logic.{◌⊎◌, inl, inr}
use mathlib.Core.Bool.{Bool, true, false, ◌&&◌}
use Prim.Native.Nat.{ℕ, ◌+◌, ◌*◌, ◌-◌, ◌<◌, ◌≤◌}
use native.Mathlib.Omega.{arith}
use lib.ListN.{length, take, drop, length-take, length-drop}
use lib.Seq.{take_all}
use Rattle.isa.specs.Bytes.{word_at, words_of}
use Rattle.isa.specs.Run.{Outcome, outcome_of}
use Rattle.isa.specs.declared.types.Ending.{Ending}
use Rattle.isa.specs.declared.types.Ran.{Ran}
use Rattle.trace.specs.Verdict.{Body, parts_of, is_flag, flag_of, flags, compared, ended_verdict, besides, verdict_of}
use Rattle.trace.specs.declared.types.Verdict.{Verdict}
use Rattle.replay.specs.Body.{Whole, Parts}

-- ---- the run, beside what was recorded
module _ (L : ℕ) (before : Bool) (file words : List ℕ) (after : Bool) (left : List ℕ) (r : Ran) (copy now : List ℕ) (same : copy ≡ file)
    (ran : record { answer = r; file = now } ≡ outcome_of L copy before (words_of words)) where
  abbrev ours : Outcome
  ours = record { answer = r; file = now }

  beside : ended_verdict r.ending ours after left ≡ besides (outcome_of L file before (words_of words)) after left
  beside = ap (λ (o : Outcome). besides o after left) (ran ∙ ap (λ (f : List ℕ). outcome_of L f before (words_of words)) same)

  pub stopped-verdict : (e : Ending) → r.ending ≡ e → ended_verdict e ours after left ≡ besides (outcome_of L file before (words_of words)) after left
  stopped-verdict e h = ap (λ (d : Ending). ended_verdict d ours after left) (sym h) ∙ beside

  pub refused-verdict : (r.ending ≡ Ending.BadLength) ⊎ ((r.ending ≡ Ending.NotPowerOfTwo) ⊎ ((r.ending ≡ Ending.BadSize) ⊎ (r.ending ≡ Ending.TooLong))) →
      Verdict.BadFlag ≡ besides (outcome_of L file before (words_of words)) after left
  refused-verdict (inl e) = stopped-verdict _ e
  refused-verdict (inr (inl e)) = stopped-verdict _ e
  refused-verdict (inr (inr (inl e))) = stopped-verdict _ e
  refused-verdict (inr (inr (inr e))) = stopped-verdict _ e

  pub done-verdict : r.ending ≡ Ending.Done → (v : Verdict) → v ≡ flags r.qc after → compared 0 now left v ≡ besides (outcome_of L file before (words_of words)) after left
  done-verdict e v f = ap (compared 0 now left) f ∙ ap (λ (d : Ending). ended_verdict d ours after left) (sym e) ∙ beside

-- ---- where they stand

module _ (L W : ℕ) (body : List ℕ) (b : Whole L W body) where
  -- the words start at p, and the flag after stands at f
  module _ (p f : ℕ) (program : p ≡ 4 + 4 * L) (flag : f ≡ 4 + 4 * L + 4 * W) where
    abbrev file : List ℕ
    file = take (p - 4) (drop 4 body)

    abbrev words : List ℕ
    words = take (f - p) (drop p body)

    abbrev left : List ℕ
    left = take (length body - (f + 4)) (drop (f + 4) body)

    file-is : file ≡ take (4 * L) (drop 4 body)
    file-is = let n : p - 4 ≡ 4 * L = omega arith in ap (λ (n : ℕ). take n (drop 4 body)) n

    words_are : words ≡ take (4 * W) (drop (4 + 4 * L) body)
    words_are = let n : f - p ≡ 4 * W = omega arith in ap₂ (λ (n k : ℕ). take n (drop k body)) n program

    left_is : left ≡ drop (8 + 4 * L + 4 * W) body
    left_is =
        let e : f + 4 ≡ 8 + 4 * L + 4 * W = omega arith in
        take_all (length body - (f + 4)) (drop (f + 4) body) (simp length-drop (omega arith)) ∙ ap (λ (n : ℕ). drop n body) e

    pub cut_parts : Parts L file words left
    cut_parts =
        let size = b.sized in
        record {
          ok = b.ok;
          sized = ap length file-is ∙ simp (length-take, length-drop) (omega arith);
          few = rw words_are (simp (length-take, length-drop) (omega (arith, b.few)));
          beside = ap length left_is ∙ simp length-drop (omega arith);
        }

    module _ (before after : ℕ) (e : before ≡ word_at body 0) (g : after ≡ word_at body f) where
      after_is : after ≡ word_at body (4 + 4 * L + 4 * W)
      after_is = g ∙ ap (word_at body) flag

      pub verdict-judged : (is_flag before && is_flag after) ≡ true → (v : Verdict) →
          v ≡ besides (outcome_of L file (flag_of before) (words_of words)) (flag_of after) left → v ≡ verdict_of L W body
      unfolding verdict_of parts_of
      verdict-judged t v h = rw (← e, ← after_is, t) (h ∙ (λ i. besides (outcome_of L (file-is i) (flag_of before) (words_of (words_are i))) (flag_of after) (left_is i)))

      pub verdict-refused : (is_flag before && is_flag after) ≡ false → Verdict.BadFlag ≡ verdict_of L W body
      unfolding verdict_of parts_of
      verdict-refused t = rw (← e, ← after_is, t)
