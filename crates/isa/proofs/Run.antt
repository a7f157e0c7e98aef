-- How a run goes. `run-count`: the words done are at most the program's, and all of them exactly when it ends with done. `run-stops`: where it ends with
-- outside or reserved, the word after those done is the first that decodes to no operation, and it decodes to that. `run-exact`: such a count and ending
-- are the run's. `run-prefix`: it leaves the file and flag that a run of the words done alone leaves. `run-elim`: induction over a run. Assumes nothing.
use mathlib.Core.Path.{◌≡◌, refl, ap, subst, ◌∙◌}
use Prim.Native.Nat.{ℕ, zero, suc, ◌+◌, ◌<◌, ◌≤◌}
use native.Mathlib.Omega.{arith}
use mathlib.Core.Bool.{Bool}
use mathlib.Core.Logic.{◌↔◌}
use mathlib.Core.List.{List, [], ◌∷◌}
use lib.ListN.{length, get_or, take}
use Rattle.isa.specs.declared.types.Op.{Op}
use Rattle.isa.specs.declared.types.Decoded.{Decoded}
use Rattle.isa.specs.declared.types.Ending.{Ending}
use Rattle.isa.specs.Decode.{decode_of}
use Rattle.isa.specs.Run.{State, start, after, Outcome, ended, next, run}

-- a decoded word that ends a run, and how
pub data Stop : Decoded → Ending → Type 0 where
  outside : Stop Decoded.Outside Ending.Outside
  reserved : Stop Decoded.Reserved Ending.Reserved

module _ (L w : ℕ) (words : List ℕ) (s : State) where
  pub run_on : {op : Op} → decode_of w ≡ Decoded.Operation op → run L (w ∷ words) s ≡ run L words (after L op s)
  unfolding run
  run_on e = rw e

  pub run-stop : {d : Decoded} {e : Ending} → Stop d e → decode_of w ≡ d → run L (w ∷ words) s ≡ ended e s
  unfolding run
  run-stop outside h = rw h
  run-stop reserved h = rw h

-- ---- induction: no word left, a word that stops the run, a word that is worked

module _
    (L : ℕ) (P : List ℕ → State → Outcome → Type 0)
    (none : (s : State) → P [] s (ended Ending.Done s))
    (stop : (w : ℕ) (words : List ℕ) (s : State) (d : Decoded) (e : Ending) → Stop d e → decode_of w ≡ d → P (w ∷ words) s (ended e s))
    (on : (w : ℕ) (words : List ℕ) (s : State) (op : Op) → decode_of w ≡ Decoded.Operation op →
    P words (after L op s) (run L words (after L op s)) → P (w ∷ words) s (run L words (after L op s))) where
  by_word : (w : ℕ) (words : List ℕ) (s : State) → ((op : Op) → P words (after L op s) (run L words (after L op s))) →
      (d : Decoded) → decode_of w ≡ d → P (w ∷ words) s (next d s (λ op. run L words (after L op s)))
  by_word w words s rest (Decoded.Operation op) e = on w words s op e (rest op)
  by_word w words s rest Decoded.Reserved e = stop w words s Decoded.Reserved Ending.Reserved reserved e
  by_word w words s rest Decoded.Outside e = stop w words s Decoded.Outside Ending.Outside outside e

  pub run-elim : (words : List ℕ) (s : State) → P words s (run L words s)
  unfolding run
  run-elim [] s = none s
  run-elim (w ∷ words) s = by_word w words s (λ op. run-elim words (after L op s)) (decode_of w) refl

-- ---- the course of a run

-- the first n words decode to operations
abbrev pub Worked : List ℕ → ℕ → Type 0
Worked words n = (i : ℕ) → i < n → (op : Op) × (decode_of (get_or words i 0) ≡ Decoded.Operation op)

-- how a run ends after n words: there are no more, or word n stops it
pub data Ends (words : List ℕ) (n : ℕ) : Ending → Type 0 where
  all : n ≡ length words → Ends words n Ending.Done
  stop : {d : Decoded} {e : Ending} → Stop d e → n < length words → decode_of (get_or words n 0) ≡ d → Ends words n e

-- the same file, flag and count, with the ending 0
abbrev pub finished : Outcome → Outcome
finished o = record { answer = record { ending = Ending.Done; done = o.answer.done; qc = o.answer.qc }; file = o.file }

-- a run from state s has done n words
pub record Course (L : ℕ) (words : List ℕ) (s : State) (o : Outcome) : Type 0 where
  pub n : ℕ
  pub count : o.answer.done ≡ s.done + n
  pub worked : Worked words n
  pub ends : Ends words n o.answer.ending
  pub prefix : run L (take n words) s ≡ finished o

worked-none : (words : List ℕ) → Worked words 0
worked-none words i h = absurd (omega arith)

worked-more : (w : ℕ) (words : List ℕ) (op : Op) → decode_of w ≡ Decoded.Operation op → (n : ℕ) → Worked words n → Worked (w ∷ words) (suc n)
worked-more w words op e n worked zero h = (op, e)
worked-more w words op e n worked (suc i) h = worked i (omega arith)

ends_more : {w n : ℕ} {words : List ℕ} {e : Ending} → Ends words n e → Ends (w ∷ words) (suc n) e
ends_more (all h) = all (ap suc h)
ends_more (stop k l h) = stop k (omega arith) h

pub course : (L : ℕ) (words : List ℕ) (s : State) → Course L words s (run L words s)
unfolding run after
course L =
    run-elim L (Course L)
    (λ s. record { n = 0; count = omega arith; worked = worked-none []; ends = all refl; prefix = refl })
    (λ w words s d e k h. record { n = 0; count = omega arith; worked = worked-none (w ∷ words); ends = stop k (omega arith) h; prefix = refl })
    (λ w words s op e c. record {
      n = suc c.n;
      count = omega arith;
      worked = worked-more w words op e c.n c.worked;
      ends = ends_more c.ends;
      prefix = run_on L w (take c.n words) s e ∙ c.prefix;
    })

-- and there is no other: words that decode to operations are worked, and the word after them tells the ending
ends-less : {w n : ℕ} {words : List ℕ} {e : Ending} → Ends (w ∷ words) (suc n) e → Ends words n e
ends-less (all h) = all (omega arith)
ends-less (stop k l h) = stop k (omega arith) h

pub run-exact : (L : ℕ) (words : List ℕ) (s : State) (n : ℕ) (e : Ending) → Worked words n → Ends words n e →
    ((run L words s).answer.done ≡ s.done + n) × ((run L words s).answer.ending ≡ e)
unfolding run after
run-exact L [] s zero e worked (all h) = (omega arith, refl)
run-exact L [] s (suc n) e worked (all h) = absurd (omega arith)
run-exact L [] s n e worked (stop k l h) = absurd (omega arith)
run-exact L (w ∷ words) s zero e worked (all h) = absurd (omega arith)
run-exact L (w ∷ words) s zero e worked (stop k l h) = rw (run-stop L w words s k h) (omega arith, refl)
run-exact L (w ∷ words) s (suc n) e worked ends =
    let first = worked 0 (omega arith) in
    let rest = run-exact L words (after L first.0 s) n e (λ i h. worked (suc i) (omega arith)) (ends-less ends) in
    rw (run_on L w words s first.1) (omega (arith, rest.0), rest.1)

-- ---- of a run from the start

-- word n is the first that decodes to no operation, and it decodes to d
pub record FirstStop (words : List ℕ) (n : ℕ) (d : Decoded) : Type 0 where
  pub within : n < length words
  pub earlier : Worked words n
  pub here : decode_of (get_or words n 0) ≡ d

module _ (words : List ℕ) (n : ℕ) where
  ends-most : {e : Ending} → Ends words n e → n ≤ length words
  ends-most (all h) = omega arith
  ends-most (stop k l h) = omega arith

  ends-done : Ends words n Ending.Done → n ≡ length words
  ends-done (all h) = h
  ends-done (stop {d = d} k _ _) = elim k [ ]

  ends-all : {e : Ending} → Ends words n e → n ≡ length words → e ≡ Ending.Done
  ends-all (all h) t = refl
  ends-all (stop k l h) t = absurd (omega arith)

  ends-stop : {d : Decoded} {e : Ending} → Stop d e → Worked words n → Ends words n e → FirstStop words n d
  ends-stop outside worked (stop outside l h) = record { within = l; earlier = worked; here = h }
  ends-stop reserved worked (stop reserved l h) = record { within = l; earlier = worked; here = h }

module _ (L : ℕ) (words file : List ℕ) (qc : Bool) where
  abbrev ran : Outcome
  ran = run L words (start file qc)

  -- the start has 0 words, so the number of words worked is the count
  number : (course L words (start file qc)).n ≡ ran.answer.done
  number = let c = course L words (start file qc) in omega arith

  pub run_ends : Worked words ran.answer.done × Ends words ran.answer.done ran.answer.ending
  run_ends =
      let c = course L words (start file qc) in
      subst (λ n. Worked words n × Ends words n ran.answer.ending) number (c.worked, c.ends)

  pub run-count : (ran.answer.done ≤ length words) × ((ran.answer.ending ≡ Ending.Done) ↔ (ran.answer.done ≡ length words))
  run-count =
      let ends = run_ends.1 in
      (ends-most words _ ends, ((λ e. ends-done words _ (subst (Ends words _) e ends)), ends-all words _ ends))

  pub run-stops : (d : Decoded) (e : Ending) → Stop d e → ran.answer.ending ≡ e → FirstStop words ran.answer.done d
  run-stops d e k h = ends-stop words _ k run_ends.0 (subst (Ends words _) h run_ends.1)

  pub run-prefix : run L (take ran.answer.done words) (start file qc) ≡ finished ran
  run-prefix = subst (λ n. run L (take n words) (start file qc) ≡ finished ran) number (course L words (start file qc)).prefix
