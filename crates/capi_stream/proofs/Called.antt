-- The calls on a state of the right length: `feed-called`, `end-called`. `feed-after`, `end_after`: those after a refusal or the end. Assumes nothing.
use mathlib.Core.Path.{◌≡◌, ap, ◌∙◌}
use mathlib.Core.List.{List, ◌++◌}
use Prim.Native.Nat.{ℕ, ◌-◌, ◌%◌}
use native.Mathlib.Omega.{arith}
use lib.ListN.{length, take, drop, replicate, length-drop, length-replicate}
use lib.Seq.{length-take-le, take_all}
use Rattle.trace.specs.Number.{end_number, told_number, told_kind, told_place}
use Rattle.trace.specs.Stream.{Status, over}
use Rattle.trace.specs.Feed.{end_of}
use Rattle.stream.specs.Kept.{ended_marks}
use Rattle.stream.specs.Steps.{KeptHeld, FeedsHeld, ClosesMarks}
use Rattle.stream.specs.declared.state.Marks.{Marks}
use Rattle.stream.specs.declared.state.Stepped.{Stepped}
use Rattle.capi_stream.specs.Marks.{marks_bytes}
use Rattle.capi_stream.specs.Read.{marks_of}
use Rattle.capi_stream.specs.Calls.{KeptBytes, parts_packed, fed_packed, FeedCall, EndCall}
use Rattle.capi_stream.proofs.Held.{kept-held, kept-marks, bytes_one, bytes-kept, zeros-over}
use Rattle.capi_stream.proofs.Answer.{packed-taken, packed-fed}
use Rattle.trace.specs.Stream.{End}

module _ (state : List ℕ) (size : length state ≡ 20544) (m : Marks) (read : m ≡ marks_of (take (length state - 20480) (drop 20480 state))) where
  held-length : length (take 20480 state) ≡ 20480
  held-length = length-take-le 20480 state (omega arith)

  -- the marks that were read are those of the stream
  read_held : {s : Status} → KeptBytes state s → KeptHeld (take 20480 state) m s
  read_held k =
      let all = take_all (length state - 20480) (drop 20480 state) (simp length-drop (omega arith)) in
      rw (read, all, kept-marks k) (kept-held k)

  -- image and contents are left as `held`, and the marks as `stored`
  module _ (held stored left : List ℕ) (both : left ≡ held ++ stored) where
    kept-left : {n : Marks} {s : Status} → length held ≡ 20480 → stored ≡ marks_bytes n → KeptHeld held n s → KeptBytes left s
    kept-left e f k = rw (both, f) (bytes-kept held e k)

    pub feed-called : (bytes : List ℕ) (step : Stepped) (r : ℕ) → FeedsHeld (take 20480 state) m bytes step held → length held ≡ 20480 →
        stored ≡ marks_bytes step.marks →
        r ≡ parts_packed (told_number step.told) (told_kind step.told) (told_place step.told % 0x1_0000) (step.taken % 0x1_0000_0000) →
        FeedCall state bytes r left
    feed-called bytes step r feeds e f answer = record {
      refused = λ other. absurd (other size);
      most = rw answer (omega (arith, packed-taken step.told step.taken, feeds.most));
      answers = λ s k.
          let a = feeds.answers s (read_held k) in
          (answer ∙ packed-fed bytes step.told step.taken k.kept a.told a.taken, kept-left e f a.left);
    }

    pub end-called : (end : End) (next : Marks) (r : ℕ) → ClosesMarks m end → held ≡ replicate (length (take 20480 state)) 0 → stored ≡ marks_bytes next →
        next ≡ ended_marks end → r ≡ end_number end → EndCall state r left
    end-called end next r closes e f g answer =
        let zeros : held ≡ replicate 20480 0 = e ∙ ap (λ (n : ℕ). replicate n 0) held-length in
        let over-kept : KeptHeld held next (over end) = rw (g, zeros) (zeros-over end) in
        record {
          refused = λ other. absurd (other size);
          answers = λ s k.
              let told : end ≡ end_of s = closes _ _ s (read_held k) in
              (answer ∙ ap end_number told, rw told at (kept-left (ap length zeros ∙ length-replicate {A = ℕ} 20480 0) f over-kept));
        }

-- ---- after a refusal or the end every call gives that same answer, takes nothing and leaves the state

pub feed-after : {state bytes left : List ℕ} {r : ℕ} {e : End} → KeptBytes state (over e) → FeedCall state bytes r left → (r ≡ end_number e) × (left ≡ state)
unfolding fed_packed
feed-after {e = e} k c = let a = c.answers (over e) k in (omega (arith, a.0), bytes_one a.1 k)

pub end_after : {state left : List ℕ} {r : ℕ} {e : End} → KeptBytes state (over e) → EndCall state r left → (r ≡ end_number e) × (left ≡ state)
end_after {e = e} k c = let a = c.answers (over e) k in (a.0, bytes_one a.1 k)
