-- The bytes of a state. `kept-held`, `kept-marks`: what they hold of a stream. `bytes_one`: a stream leaves one state. `bytes-kept`: what was stored is kept.
-- `zeros-over`: zeros before the marks of an end. `zeros-start`: zeros are the start. Assumes nothing.
use mathlib.Core.Path.{◌≡◌, refl, sym, ap, subst, ◌∙◌}
use mathlib.Core.List.{List, [], ◌++◌}
use Prim.Native.Nat.{ℕ, ◌+◌}
use native.Mathlib.Omega.{arith}
use lib.ListN.{length, take, drop, replicate, take-append-drop, length-append, length-drop, length-replicate, replicate-append-replicate}
use lib.Seq.{take-append-le, drop-append-le, take-take, drop-drop, take_at, drop_at}
use Rattle.trace.specs.Recorded.{four_of, fours_of}
use Rattle.trace.specs.Stream.{Status, over, start}
use Rattle.trace.proofs.Live.{live-empty}
use Rattle.stream.specs.Body.{padded}
use Rattle.stream.specs.Kept.{listing_marks, ended_marks, Kept}
use Rattle.stream.specs.Steps.{KeptHeld}
use Rattle.stream.specs.declared.state.Marks.{Marks}
use Rattle.stream.specs.declared.state.State.{State}
use Rattle.stream.proofs.Called.{zeros-image, zeros-contents}
use Rattle.stream.proofs.Cut.{kept-one}
use Rattle.capi_stream.specs.Marks.{marks_bytes}
use Rattle.capi_stream.specs.Read.{marks_of}
use Rattle.capi_stream.specs.Calls.{KeptBytes}
use Rattle.capi_stream.proofs.Parts.{drop-take}
use Rattle.capi_stream.proofs.Stored.{marks-length, marks-back}
use Rattle.capi_stream.proofs.Bounds.{kept_small}
use Rattle.trace.specs.Stream.{End}

-- ---- of a stream

module _ {state : List ℕ} {s : Status} (k : KeptBytes state s) where
  pub kept-held : KeptHeld (take 20480 state) k.marks s
  kept-held = rw (take-take 8192 20480 state (omega arith), drop-take 8192 12288 state (omega (arith, k.size))) k.kept

  pub kept-marks : marks_of (drop 20480 state) ≡ k.marks
  kept-marks = ap marks_of k.stored ∙ marks-back k.marks (kept_small k.kept)

-- all bytes are those of the image, of the contents and of the marks
bytes-all : (state : List ℕ) → state ≡ take 8192 state ++ (take 12288 (drop 8192 state) ++ drop 20480 state)
bytes-all state =
    let behind : drop 8192 state ≡ take 12288 (drop 8192 state) ++ drop 20480 state =
    sym (take-append-drop 12288 (drop 8192 state)) ∙ ap (λ (x : List ℕ). take 12288 (drop 8192 state) ++ x) (drop-drop 12288 8192 state) in
    sym (take-append-drop 8192 state) ∙ ap (λ (x : List ℕ). take 8192 state ++ x) behind

-- the state whose bytes they are
abbrev state_of : {state : List ℕ} {s : Status} → KeptBytes state s → State
state_of {state} k = record { image = take 8192 state; contents = take 12288 (drop 8192 state); marks = k.marks }

pub bytes_one : {a b : List ℕ} {s : Status} → KeptBytes a s → KeptBytes b s → a ≡ b
bytes_one {a} {b} {s} j k =
    let same = kept-one (state_of j) (state_of k) s j.kept k.kept in
    let marks = j.stored ∙ ap (λ (x : State). marks_bytes x.marks) same ∙ sym k.stored in
    bytes-all a ∙ (λ i. (same i).image ++ ((same i).contents ++ marks i)) ∙ sym (bytes-all b)

-- ---- what was stored

pub bytes-kept : (held : List ℕ) {m : Marks} {s : Status} → length held ≡ 20480 → KeptHeld held m s → KeptBytes (held ++ marks_bytes m) s
bytes-kept held {m} {s} e k =
    let image = take-append-le 8192 held (marks_bytes m) (omega arith) in
    let contents = drop-append-le 8192 held (marks_bytes m) (omega arith) in
    let rest = take_at (drop 8192 held) (marks_bytes m) 12288 (simp length-drop (omega arith)) in
    record {
      size = length-append held (marks_bytes m) ∙ omega (arith, marks-length m (kept_small k));
      marks = m;
      stored = drop_at held (marks_bytes m) 20480 e;
      kept = rw (image, contents, rest) k;
    }

-- ---- zeros

pub zeros-over : (e : End) → KeptHeld (replicate 20480 0) (ended_marks e) (over e)
zeros-over e = Kept.ended e (record { empty = zeros-image 8192 12288; entries = zeros-contents 8192 12288; marks = refl })

start-bytes : marks_bytes (listing_marks []) ≡ replicate 64 0
unfolding marks_bytes fours_of four_of padded
start-bytes = refl

pub zeros-start : KeptBytes (replicate 20544 0) start
zeros-start =
    let k : KeptHeld (replicate 20480 0) (listing_marks []) start =
    Kept.listing [] live-empty (record { empty = zeros-image 8192 12288; entries = zeros-contents 8192 12288; marks = refl }) in
    subst (λ (x : List ℕ). KeptBytes x start) (ap (λ (x : List ℕ). replicate 20480 0 ++ x) start-bytes ∙ replicate-append-replicate 20480 64 0)
    (bytes-kept (replicate 20480 0) (length-replicate {A = ℕ} 20480 0) k)
