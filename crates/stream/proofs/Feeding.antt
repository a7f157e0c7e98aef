-- The bytes of a call. `step-contents`, `step-bodies`, `step-ended`: some of them, by what comes next. `taking-starts`, `taking-on`, `taking-stops`,
-- `taking-ends`: all of them, up to the first that brings something. `taking-within`: no more are taken than there are. Assumes nothing.
use mathlib.Core.Path.{◌≡◌, refl, sym, ap, ◌∙◌}
use mathlib.Core.List.{List, [], ◌∷◌, ◌++◌, append-nil, append_assoc}
use Prim.Native.Nat.{ℕ, ◌+◌, ◌-◌, ◌<◌, ◌≤◌}
use native.Mathlib.Nat.{zero-add}
use native.Mathlib.Omega.{arith}
use lib.ListN.{length, get_or, take, drop, length-drop, take-append-drop, drop_of_length-le}
use lib.Seq.{length-take-le, take_all, take_at, drop_at, take-add, drop-drop}
use types.Run.{OneOf, miss}
use denote.Enum.Declared.{tag_of}
use Rattle.trace.specs.Stream.{live}
use Rattle.trace.specs.Feed.{Fed, status_after, feed_from}
use Rattle.trace.specs.declared.types.Told.{Told}
use Rattle.trace.specs.contracts.types.Told.{the_type}
use Rattle.trace.proofs.Calls.{took_of, fed_on, feed-piece}
use Rattle.stream.specs.Contents.{refused_on}
use Rattle.stream.specs.Kept.{listing, within}
use Rattle.stream.specs.Steps.{KeptHeld, KeptAs, Steps, Lists, Judges, Takes, FedAs, Fills}
use Rattle.stream.specs.declared.state.Phase.{Phase}
use Rattle.stream.specs.declared.state.Marks.{Marks}
use Rattle.stream.specs.declared.state.Stepped.{Stepped}
use Rattle.stream.proofs.Phases.{contents-bodies, contents-ended, bodies-ended, listing-phase}
use Rattle.stream.proofs.Rows.{first_byte, one-taken}
use Rattle.trace.specs.Stream.{End}

-- ---- what comes next

module _ (held : List ℕ) (m : Marks) (bytes : List ℕ) (size : length held ≡ 20480) (some : 0 < length bytes) (r : Stepped) where
  module _ (last : List ℕ) (same : length last ≡ length (take (length held - 8192) (drop 8192 held))) where
    contents-whole : take (length held - 8192) (drop 8192 held) ≡ drop 8192 held
    contents-whole = take_all (length held - 8192) (drop 8192 held) (simp length-drop (omega arith))

    -- the contents in their place
    abbrev put : List ℕ
    put = take 8192 held ++ (last ++ drop (length held - 8192) (drop 8192 held))

    put-image : take 8192 put ≡ take 8192 held
    put-image = take_at (take 8192 held) _ 8192 (length-take-le 8192 held (omega arith))

    put-contents : drop 8192 put ≡ last
    put-contents =
        let none : drop (length held - 8192) (drop 8192 held) ≡ [] =
        drop_of_length-le (drop 8192 held) {i = length held - 8192} (simp length-drop (omega arith)) in
        drop_at (take 8192 held) _ 8192 (length-take-le 8192 held (omega arith)) ∙ ap (λ (x : List ℕ). last ++ x) none ∙ append-nil last

    module _ (p : m.phase ≡ Phase.Contents) (one : r.taken ≡ 1) (lists : Lists (take (length held - 8192) (drop 8192 held)) m (get_or bytes 0 0) r last) where
      by-kept : (h : List ℕ) → KeptHeld held m (live h) → Steps h (take r.taken bytes) r (take 8192 put) (drop 8192 put)
      by-kept _ (listing h v kept) =
          let piece : take r.taken bytes ≡ get_or bytes 0 0 ∷ [] = ap (λ (n : ℕ). take n bytes) one ∙ first_byte bytes some in
          rw (piece, put-image, put-contents) (lists h (take 8192 held) v (rw (← contents-whole) at kept))
      by-kept _ (within h k v kept) = contents-bodies p kept.phase

      pub step-contents : Takes held m bytes r put
      step-contents = record { some = omega arith; most = omega arith; steps = by-kept }

  module _ (held' : List ℕ) (p : m.phase ≡ Phase.Bodies) (judges : Judges held m bytes r held') where
    bodies_kept : (h : List ℕ) → KeptHeld held m (live h) → Steps h (take r.taken bytes) r (take 8192 held') (drop 8192 held')
    bodies_kept _ (listing h v kept) = contents-bodies (listing-phase kept) p
    bodies_kept _ (within h k v kept) = judges h k v kept

    pub step-bodies : 1 ≤ r.taken → r.taken ≤ length bytes → Takes held m bytes r held'
    step-bodies l n = record { some = l; most = n; steps = bodies_kept }

  module _ (e : End) (p : m.phase ≡ Phase.Ended e) (refused : r ≡ refused_on e) where
    ended-kept : (h : List ℕ) → KeptHeld held m (live h) → Steps h (take r.taken bytes) r (take 8192 held) (drop 8192 held)
    ended-kept _ (listing h v kept) = contents-ended (listing-phase kept) p
    ended-kept _ (within h k v kept) = bodies-ended kept.phase p

    pub step-ended : Takes held m bytes r held
    step-ended = let one = one-taken bytes e r some refused in record { some = one.0; most = one.1; steps = ended-kept }

-- ---- the bytes taken so far

-- a call that took n bytes more
abbrev ahead : ℕ → Fed → Fed
ahead n f = took_of (n + f.taken) f

-- none of the first `at` bytes brings anything, and the state is that behind them
record Reached (h bytes held : List ℕ) (m : Marks) (at : ℕ) : Type 0 where
  kept : KeptHeld held m (live (h ++ take at bytes))
  rest : feed_from bytes h ≡ ahead at (feed_from (drop at bytes) (h ++ take at bytes))

pub record Taking (held₀ : List ℕ) (m₀ : Marks) (bytes held : List ℕ) (m : Marks) (at : ℕ) : Type 0 where
  pub sized : length held ≡ 20480
  pub most : at ≤ length bytes
  reached : (h : List ℕ) → KeptHeld held₀ m₀ (live h) → Reached h bytes held m at

pub taking-starts : (held : List ℕ) (m : Marks) (bytes : List ℕ) → length held ≡ 20480 → Taking held m bytes held m 0
taking-starts held m bytes size = record {
  sized = size;
  most = omega arith;
  reached = λ h kept. record { kept = rw (append-nil h) kept; rest = rw (append-nil h, zero-add) };
}

module _ {held₀ : List ℕ} {m₀ : Marks} {bytes held : List ℕ} {m : Marks} {at : ℕ} (t : Taking held₀ m₀ bytes held m at) where
  -- all bytes are taken
  pub taking-ends : length bytes ≤ at → Fills held₀ m₀ bytes (record { taken = at; told = Told.Nothing; marks = m }) held
  unfolding feed_from
  taking-ends all = record { most = t.most; answers = answers }
    where
      answers : (h : List ℕ) → KeptHeld held₀ m₀ (live h) →
          FedAs (feed_from bytes h) (record { taken = at; told = Told.Nothing; marks = m }) (λ s. KeptAs s (take 8192 held) (drop 8192 held) m)
      answers h kept =
          let r = t.reached h kept in
          let none : drop at bytes ≡ [] = drop_of_length-le bytes {i = at} all in
          let e = r.rest ∙ ap (λ (x : List ℕ). ahead at (feed_from x (h ++ take at bytes))) none in
          rw e (record { taken = omega arith; told = refl; left = r.kept })

  -- some bytes more
  module _ {r : Stepped} {held' : List ℕ} (takes : Takes held m (take (length bytes - at) (drop at bytes)) r held') where
    some_more : Takes held m (drop at bytes) r held'
    some_more = rw (take_all (length bytes - at) (drop at bytes) (simp length-drop (omega arith))) at takes

    pub taking-within : at + r.taken ≤ length bytes
    taking-within = omega (arith, t.most, some_more.most, length-drop at bytes)

    abbrev piece : List ℕ
    piece = take r.taken (drop at bytes)

    piece-length : length piece ≡ r.taken
    piece-length = length-take-le r.taken (drop at bytes) some_more.most

    module _ (h : List ℕ) (kept : KeptHeld held₀ m₀ (live h)) where
      abbrev behind : List ℕ
      behind = h ++ take at bytes

      steps : Steps behind piece r (take 8192 held') (drop 8192 held')
      steps = some_more.steps behind (t.reached h kept).kept

      -- what the bytes from `at` on bring
      feed-next : (d : Told) → r.told ≡ d →
          feed_from bytes h ≡ ahead at (fed_on r.taken d (behind ++ piece) (feed_from (drop (at + r.taken) bytes) (behind ++ piece)))
      feed-next d e =
          (t.reached h kept).rest
          ∙ ap (λ (x : List ℕ). ahead at (feed_from x behind)) (sym (take-append-drop r.taken (drop at bytes)))
          ∙ ap (ahead at) (feed-piece behind piece _ (omega (arith, piece-length, some_more.some)) steps.quiet)
          ∙ rw (piece-length, drop-drop r.taken at bytes, ← steps.told, e)

    pub taking-on : length held' ≡ length held → r.told ≡ Told.Nothing → Taking held₀ m₀ bytes held' r.marks (at + r.taken)
    taking-on same e = record { sized = same ∙ t.sized; most = taking-within; reached = on }
      where
        on : (h : List ℕ) → KeptHeld held₀ m₀ (live h) → Reached h bytes held' r.marks (at + r.taken)
        on h kept =
            let joined : h ++ take (at + r.taken) bytes ≡ behind h kept ++ piece =
            ap (λ (x : List ℕ). h ++ x) (take-add at r.taken bytes) ∙ sym (append_assoc h (take at bytes) piece) in
            let later : Fed = feed_from (drop (at + r.taken) bytes) (behind h kept ++ piece) in
            record {
              kept = rw joined (rw e at (steps h kept).kept);
              rest = feed-next h kept Told.Nothing e ∙ rw joined (ap (λ (n : ℕ). took_of n later) (omega arith));
            }

    -- a verdict or a refusal
    pub taking-stops : OneOf (1 ∷ 2 ∷ []) (tag_of the_type r.told) →
        Fills held₀ m₀ bytes (record { taken = at + r.taken; told = r.told; marks = r.marks }) held'
    taking-stops other = record { most = taking-within; answers = λ h kept. stops h kept r.told refl other (steps h kept).kept }
      where
        stops : (h : List ℕ) (kept : KeptHeld held₀ m₀ (live h)) (d : Told) → r.told ≡ d → OneOf (1 ∷ 2 ∷ []) (tag_of the_type d) →
            KeptAs (status_after d (behind h kept ++ piece)) (take 8192 held') (drop 8192 held') r.marks →
            FedAs (feed_from bytes h) (record { taken = at + r.taken; told = d; marks = r.marks })
            (λ s. KeptAs s (take 8192 held') (drop 8192 held') r.marks)
        stops h kept Told.Nothing e other left = absurd (miss (1 ∷ 2 ∷ []) 0 tt other)
        stops h kept (Told.Case v) e other left = rw (feed-next h kept (Told.Case v) e) (record { taken = refl; told = refl; left = left })
        stops h kept (Told.Over f) e other left = rw (feed-next h kept (Told.Over f) e) (record { taken = refl; told = refl; left = left })
