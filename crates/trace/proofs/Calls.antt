-- How a stream is cut does not matter. `calls-whole`: whatever the calls, they bring the verdicts and leave the status of all bytes in one piece; so
-- `calls_same`: two callers with the same bytes get the same. `calls-some`: there are such calls. `whole_append`: verdicts that were handed out stand.
-- `feed-over`, `end-over`: after a refusal or the end every call gives that same answer. `feed-piece`: one call, by a piece of its bytes of which only the last
-- may bring something; `piece-quiet`, `piece-case`, `piece-over`: by what it brings. `takes_first`: a call takes its bytes up to and with the first that brings something, else all; `feed-taken`: no
-- more than there are. Assumes nothing.
use mathlib.Core.Path.{◌≡◌, refl, sym, ap, ◌∙◌, subst}
use mathlib.Core.List.{List, [], ◌∷◌, ◌++◌}
use mathlib.Core.Bool.{Bool, true, false, true≢false}
use Prim.Native.Nat.{ℕ, zero, suc, ◌+◌, ◌<◌, ◌≤◌}
use native.Mathlib.Omega.{arith}
use lib.ListN.{length, take, drop}
use lib.Seq.{append_snoc}
use Rattle.trace.specs.Stream.{due_of, then, Status, live, over}
use Rattle.trace.specs.Feed.{Fed, more, goes_on, feed_from, feed_of, end_of, Whole, told_of, whole_on, whole_from, whole_of, Calls, none, rest, call}
use Rattle.trace.specs.Streamed.{TakesFirst}
use Rattle.trace.specs.declared.types.Verdict.{Verdict}
use Rattle.trace.specs.declared.types.Told.{Told}
use Rattle.trace.specs.Stream.{End}

-- ---- one call with a piece of the bytes, and the rest

-- what all bytes bring, by one call with a piece of them
abbrev after_call : Fed → List ℕ → List ℕ → Whole
after_call f piece later = told_of f.told (whole_of f.status (drop f.taken piece ++ later))

feed-by : (b : ℕ) (piece later n : List ℕ) → whole_from (piece ++ later) n ≡ after_call (feed_from piece n) piece later →
    (d : Told) → whole_on d n (whole_from (piece ++ later)) ≡ after_call (goes_on d n (feed_from piece)) (b ∷ piece) later
feed-by b piece later n ih Told.Nothing = ih
feed-by b piece later n ih (Told.Case v) = refl
feed-by b piece later n ih (Told.Over e) = refl

feed-from : (piece later h : List ℕ) → whole_from (piece ++ later) h ≡ after_call (feed_from piece h) piece later
unfolding feed_from whole_from
feed-from [] later h = refl
feed-from (b ∷ piece) later h = feed-by b piece later (then h b) (feed-from piece later (then h b)) (due_of (then h b))

pub feed-whole : (s : Status) (piece later : List ℕ) → whole_of s (piece ++ later) ≡ after_call (feed_of s piece) piece later
feed-whole (live h) piece later = feed-from piece later h
feed-whole (over e) piece later = refl

-- ---- all calls

nothing_left : (s : Status) → record { verdicts = []; status = s } ≡ whole_of s []
unfolding whole_from
nothing_left (live h) = refl
nothing_left (over e) = refl

pub calls-whole : {s : Status} {bytes : List ℕ} {w : Whole} → Calls s bytes w → w ≡ whole_of s bytes
calls-whole (none {s = s}) = nothing_left s
calls-whole rest = refl
calls-whole (call {s = s} piece later c) = ap (told_of (feed_of s piece).told) (calls-whole c) ∙ sym (feed-whole s piece later)

pub calls_same : {s : Status} {bytes : List ℕ} {v w : Whole} → Calls s bytes v → Calls s bytes w → v ≡ w
calls_same a b = calls-whole a ∙ sym (calls-whole b)

-- ---- there are such calls: byte by byte

call_by : (s : Status) (w : Whole) (piece later : List ℕ) (f : Fed) → feed_of s piece ≡ f → Calls f.status (drop f.taken piece ++ later) w →
    Calls s (piece ++ later) (told_of f.told w)
call_by s w piece later f e c =
    subst (λ (g : Fed). Calls s (piece ++ later) (told_of g.told w)) e
    (call piece later (subst (λ (g : Fed). Calls g.status (drop g.taken piece ++ later) w) (sym e) c))

module _ (b : ℕ) (bytes h : List ℕ) where
  one_byte : (d : Told) → due_of (then h b) ≡ d → Calls (live (then h b)) bytes (whole_from bytes (then h b)) →
      Calls (live h) (b ∷ bytes) (whole_on d (then h b) (whole_from bytes))
  unfolding feed_from
  one_byte Told.Nothing e c = call_by (live h) _ (b ∷ []) bytes (record { taken = 1; told = Told.Nothing; status = live (then h b) }) (rw e) c
  one_byte (Told.Case v) e c = call_by (live h) _ (b ∷ []) bytes (record { taken = 1; told = Told.Case v; status = live (then h b) }) (rw e) c
  one_byte (Told.Over f) e c = call_by (live h) _ (b ∷ []) bytes (record { taken = 1; told = Told.Over f; status = over f }) (rw e) rest

from-live : (bytes h : List ℕ) → Calls (live h) bytes (whole_from bytes h)
unfolding whole_from
from-live [] h = none
from-live (b ∷ bytes) h = one_byte b bytes h (due_of (then h b)) refl (from-live bytes (then h b))

pub calls-some : (s : Status) (bytes : List ℕ) → Calls s bytes (whole_of s bytes)
calls-some (live h) bytes = from-live bytes h
calls-some (over e) bytes = rest

-- ---- verdicts that were handed out stand, whatever follows

abbrev pub joined : Whole → List ℕ → Whole
joined w bytes = record { verdicts = w.verdicts ++ (whole_of w.status bytes).verdicts; status = (whole_of w.status bytes).status }

append-by : (a b n : List ℕ) → whole_from (a ++ b) n ≡ joined (whole_from a n) b → (d : Told) →
    whole_on d n (whole_from (a ++ b)) ≡ joined (whole_on d n (whole_from a)) b
append-by a b n ih Told.Nothing = ih
append-by a b n ih (Told.Case v) = ap (told_of (Told.Case v)) ih
append-by a b n ih (Told.Over e) = refl

append-from : (a b h : List ℕ) → whole_from (a ++ b) h ≡ joined (whole_from a h) b
unfolding whole_from
append-from [] b h = refl
append-from (x ∷ a) b h = append-by a b (then h x) (append-from a b (then h x)) (due_of (then h x))

pub whole_append : (s : Status) (a b : List ℕ) → whole_of s (a ++ b) ≡ joined (whole_of s a) b
whole_append (live h) a b = append-from a b h
whole_append (over e) a b = refl

-- ---- after a refusal or the end

pub feed-over : (e : End) (bytes : List ℕ) → feed_of (over e) bytes ≡ record { taken = 0; told = Told.Over e; status = over e }
feed-over e bytes = refl

pub end-over : (e : End) → end_of (over e) ≡ e
end-over e = refl

-- ---- one call, by a piece of its bytes

-- a call that took n bytes
abbrev pub took_of : ℕ → Fed → Fed
took_of n f = record { taken = n; told = f.told; status = f.status }

-- n bytes, with whose last something or nothing falls due, and what the bytes behind them bring
abbrev pub fed_on : ℕ → Told → List ℕ → Fed → Fed
fed_on n Told.Nothing h f = took_of (n + f.taken) f
fed_on n (Told.Case v) h f = record { taken = n; told = Told.Case v; status = live h }
fed_on n (Told.Over e) h f = record { taken = n; told = Told.Over e; status = over e }

-- with none of the bytes but the last something falls due
abbrev pub Quiet : List ℕ → List ℕ → Type 0
Quiet h piece = (j : ℕ) → 0 < j → j < length piece → due_of (h ++ take j piece) ≡ Told.Nothing

feed-first : (d : Told) (n : List ℕ) (later : List ℕ → Fed) → goes_on d n later ≡ fed_on 1 d n (later n)
feed-first Told.Nothing n later = ap (λ (k : ℕ). took_of k (later n)) (omega arith)
feed-first (Told.Case v) n later = refl
feed-first (Told.Over e) n later = refl

feed-later : (d : Told) (m : ℕ) (n : List ℕ) (f : Fed) → more (fed_on m d n f) ≡ fed_on (suc m) d n f
feed-later Told.Nothing m n f = ap (λ (k : ℕ). took_of k f) (omega arith)
feed-later (Told.Case v) m n f = refl
feed-later (Told.Over e) m n f = refl

pub feed-piece : (h piece later : List ℕ) → 0 < length piece → Quiet h piece →
    feed_from (piece ++ later) h ≡ fed_on (length piece) (due_of (h ++ piece)) (h ++ piece) (feed_from later (h ++ piece))
unfolding feed_from
feed-piece h [] later some quiet = absurd (omega arith)
feed-piece h (b ∷ []) later some quiet = feed-first (due_of (then h b)) (then h b) (feed_from later)
feed-piece h (b ∷ c ∷ piece) later some quiet =
    let shift : (xs : List ℕ) → then h b ++ xs ≡ h ++ b ∷ xs = append_snoc h b in
    let first : due_of (then h b) ≡ Told.Nothing = quiet 1 (omega arith) (omega arith) in
    let still : Quiet (then h b) (c ∷ piece) = λ j l m. ap due_of (shift (take j (c ∷ piece))) ∙ quiet (suc j) (omega arith) (omega arith) in
    let behind = feed-piece (then h b) (c ∷ piece) later (omega arith) still in
    ap (λ (d : Told). goes_on d (then h b) (feed_from (c ∷ piece ++ later))) first
    ∙ ap more behind
    ∙ feed-later (due_of (then h b ++ c ∷ piece)) (length (c ∷ piece)) (then h b ++ c ∷ piece) (feed_from later (then h b ++ c ∷ piece))
    ∙ ap (λ (n : List ℕ). fed_on (length (b ∷ c ∷ piece)) (due_of n) n (feed_from later n)) (shift (c ∷ piece))

module _ (h piece later : List ℕ) (some : 0 < length piece) (quiet : Quiet h piece) where
  told-by : (d : Told) → due_of (h ++ piece) ≡ d → feed_from (piece ++ later) h ≡ fed_on (length piece) d (h ++ piece) (feed_from later (h ++ piece))
  told-by d e = feed-piece h piece later some quiet ∙ ap (λ (t : Told). fed_on (length piece) t (h ++ piece) (feed_from later (h ++ piece))) e

  pub piece-quiet : due_of (h ++ piece) ≡ Told.Nothing →
      feed_from (piece ++ later) h ≡ took_of (length piece + (feed_from later (h ++ piece)).taken) (feed_from later (h ++ piece))
  piece-quiet e = told-by Told.Nothing e

  pub piece-case : (v : Verdict) → due_of (h ++ piece) ≡ Told.Case v →
      feed_from (piece ++ later) h ≡ record { taken = length piece; told = Told.Case v; status = live (h ++ piece) }
  piece-case v e = told-by (Told.Case v) e

  pub piece-over : (e : End) → due_of (h ++ piece) ≡ Told.Over e →
      feed_from (piece ++ later) h ≡ record { taken = length piece; told = Told.Over e; status = over e }
  piece-over e f = told-by (Told.Over e) f

-- ---- a call takes its bytes up to and with the first that brings something

abbrev is_nothing : Told → Bool
is_nothing Told.Nothing = true
is_nothing (Told.Case v) = false
is_nothing (Told.Over e) = false

module _ (h : List ℕ) (b : ℕ) (bytes : List ℕ) where
  -- the first byte brings something
  first-here : (d : Told) → is_nothing d ≡ false → due_of (then h b) ≡ d → (status : Status) →
      TakesFirst h (b ∷ bytes) (record { taken = 1; told = d; status = status })
  first-here d n e status = record {
    within = omega arith;
    some = λ l. omega arith;
    none = λ z. absurd (omega arith);
    quiet = λ j l m. absurd (omega arith);
    told = λ l. sym e;
    all = λ f. absurd (true≢false (sym (ap is_nothing f) ∙ n));
  }

  -- it brings nothing
  module _ (f : Fed) (e : due_of (then h b) ≡ Told.Nothing) (r : TakesFirst (then h b) bytes f) where
    onward : (j : ℕ) → due_of (then h b ++ take j bytes) ≡ due_of (h ++ take (suc j) (b ∷ bytes))
    onward j = ap due_of (append_snoc h b (take j bytes))

    later-quiet : (j : ℕ) → 0 < j → j < suc f.taken → due_of (h ++ take j (b ∷ bytes)) ≡ Told.Nothing
    later-quiet zero l m = absurd (omega arith)
    later-quiet (suc zero) l m = e
    later-quiet (suc (suc j)) l m = sym (onward (suc j)) ∙ r.quiet (suc j) (omega arith) (omega arith)

    later-told : (n : ℕ) → f.taken ≡ n → f.told ≡ due_of (h ++ take (suc n) (b ∷ bytes))
    later-told zero z = r.none z ∙ sym e
    later-told (suc k) z = r.told (omega arith) ∙ ap (λ (i : ℕ). due_of (then h b ++ take i bytes)) z ∙ onward (suc k)

    first-later : TakesFirst h (b ∷ bytes) (more f)
    first-later = record {
      within = omega (arith, r.within);
      some = λ l. omega arith;
      none = λ z. absurd (omega arith);
      quiet = later-quiet;
      told = λ l. later-told f.taken refl;
      all = λ t. ap suc (r.all t);
    }

  first_by : (d : Told) → due_of (then h b) ≡ d → ((g : List ℕ) → TakesFirst g bytes (feed_from bytes g)) → TakesFirst h (b ∷ bytes) (goes_on d (then h b) (feed_from bytes))
  first_by Told.Nothing e ih = first-later (feed_from bytes (then h b)) e (ih (then h b))
  first_by (Told.Case v) e ih = first-here (Told.Case v) refl e (live (then h b))
  first_by (Told.Over x) e ih = first-here (Told.Over x) refl e (over x)

pub takes_first : (bytes h : List ℕ) → TakesFirst h bytes (feed_from bytes h)
unfolding feed_from
takes_first [] h = record {
  within = omega arith;
  some = λ l. l;
  none = λ z. refl;
  quiet = λ j l m. absurd (omega arith);
  told = λ l. absurd (omega arith);
  all = λ t. refl;
}
takes_first (b ∷ bytes) h = first_by h b bytes (due_of (then h b)) refl (takes_first bytes)

pub feed-taken : (bytes h : List ℕ) → (feed_from bytes h).taken ≤ length bytes
feed-taken bytes h = (takes_first bytes h).within
