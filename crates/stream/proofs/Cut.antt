-- How a stream is cut does not matter to the code. `kept-one`: a stream has one state, byte for byte. `cut-free`: the same bytes, cut in any two ways,
-- bring the same verdicts and leave the same state. `end-one`: an end then tells the same. `runs-streamed`: and it is what A9's rules say. Assumes nothing.
use mathlib.Core.Path.{◌≡◌, refl, sym, ap, subst, ◌∙◌}
use mathlib.Core.List.{List, [], ◌++◌}
use Prim.Native.Nat.{ℕ, suc, ◌<◌}
use native.Mathlib.Omega.{arith}
use native.Mathlib.Decide.{dec_le}
use lib.ListN.{drop}
use Rattle.trace.specs.Stream.{Within, Status, start, live, over}
use Rattle.trace.specs.Feed.{feed_of, told_of, Whole, Calls, none, rest, call}
use Rattle.trace.specs.Streamed.{Streamed}
use Rattle.trace.specs.declared.types.Verdict.{Verdict}
use Rattle.trace.specs.declared.types.Told.{Told}
use Rattle.trace.proofs.Contents.{begins-mono}
use Rattle.trace.proofs.Live.{contents-whole}
use Rattle.trace.proofs.Calls.{calls_same}
use Rattle.trace.proofs.Streamed.{streamed}
use Rattle.stream.specs.Body.{InBody}
use Rattle.stream.specs.Cut.{handed, Runs, done, feed, stop, SameRun}
use Rattle.stream.specs.Kept.{KeptWithin, listing, within, ended, Keeps, Closes}
use Rattle.stream.specs.declared.state.Course.{Course}
use Rattle.stream.specs.declared.state.State.{State}
use Rattle.stream.specs.declared.state.Closed.{Closed}
use Rattle.stream.proofs.Called.{feed-behind}
use Rattle.trace.specs.Stream.{End}

-- ---- a stream has one state

-- the bytes end in one body
one-case : (h : List ℕ) (k j : ℕ) → Within h k → Within h j → k < j → ⊥
one-case h k j v w l = omega (arith, v.to (omega (arith, w.few)), begins-mono h (suc k) j (omega arith), w.from)

same_case : (h : List ℕ) (k j : ℕ) → Within h k → Within h j → j ≡ k
same_case h k j v w =
    elim (dec_le k j) [
      | yes l ↦ elim (dec_le j k) [ yes m ↦ omega arith | no m ↦ absurd (one-case h k j v w (omega arith)) ]
      | no l ↦ absurd (one-case h j k w v (omega arith))
    ]

one-course : {L W : ℕ} {b image image' : List ℕ} (c c' : Course) → InBody L W b image c → InBody L W b image' c' → c ≡ c'
one-course c c' p q =
    let at = p.at ∙ sym q.at in
    let held = p.held ∙ sym q.held in
    let standing = p.stands.standing ∙ sym q.stands.standing in
    λ i. record { at = at i; held = held i; standing = standing i }

module _ (a b : State) where
  alike : a.image ≡ b.image → a.contents ≡ b.contents → a.marks ≡ b.marks → a ≡ b
  alike image contents marks = λ i. record { image = image i; contents = contents i; marks = marks i }

  one-within : (h : List ℕ) (k : ℕ) → KeptWithin h k a.image a.contents a.marks → KeptWithin h k b.image b.contents b.marks → a ≡ b
  one-within h k p q =
      let phase = p.phase ∙ sym q.phase in
      let cases = p.cases ∙ sym q.cases in
      let case = p.case ∙ sym q.case in
      let due = p.due ∙ sym q.due in
      let course = one-course _ _ p.body q.body in
      alike (p.body.stands.file ∙ sym q.body.stands.file) (p.entries ∙ sym q.entries)
      (λ i. record { phase = phase i; cases = cases i; case = case i; due = due i; course = course i })

  pub kept-one : (s : Status) → Keeps a s → Keeps b s → a ≡ b
  kept-one _ (listing h v p) (listing _ w q) = alike (p.empty ∙ sym q.empty) (p.entries ∙ sym q.entries) (p.marks ∙ sym q.marks)
  kept-one _ (listing h v p) (within _ k w q) = absurd (omega (arith, v.short, contents-whole h k w))
  kept-one _ (within h k v p) (listing _ w q) = absurd (omega (arith, w.short, contents-whole h k v))
  kept-one _ (within h k v p) (within _ j w q) = one-within h k p (rw (same_case h k j v w) at q)
  kept-one _ (ended e p) (ended _ q) = alike (p.empty ∙ sym q.empty) (p.entries ∙ sym q.entries) (p.marks ∙ sym q.marks)

-- ---- runs of the code are calls with the stream's bytes

record AsCalls (s : Status) (bytes : List ℕ) (verdicts : List Verdict) (last : State) : Type 0 where
  whole : Whole
  calls : Calls s bytes whole
  told : verdicts ≡ whole.verdicts
  kept : Keeps last whole.status

handed-told : (d : Told) (w : Whole) → handed d w.verdicts ≡ (told_of d w).verdicts
handed-told Told.Nothing w = refl
handed-told (Told.Case v) w = refl
handed-told (Told.Over e) w = refl

told-status : (d : Told) (w : Whole) → (told_of d w).status ≡ w.status
told-status Told.Nothing w = refl
told-status (Told.Case v) w = refl
told-status (Told.Over e) w = refl

-- a call, and the calls behind it
called-by : (s : Status) (piece later : List ℕ) (d : Told) (verdicts : List Verdict) (last : State) → d ≡ (feed_of s piece).told →
    AsCalls (feed_of s piece).status (drop (feed_of s piece).taken piece ++ later) verdicts last → AsCalls s (piece ++ later) (handed d verdicts) last
called-by s piece later d verdicts last e c = record {
  whole = told_of (feed_of s piece).told c.whole;
  calls = call piece later c.calls;
  told = rw (e, c.told) (handed-told (feed_of s piece).told c.whole);
  kept = rw (told-status (feed_of s piece).told c.whole) c.kept;
}

refused_over : (s : Status) (piece : List ℕ) (e : End) → (feed_of s piece).told ≡ Told.Over e → (feed_of s piece).status ≡ over e
refused_over (live h) piece e t = let b = feed-behind piece h in b.1 ∙ rw t
refused_over (over f) piece e t = ap over (cc)

runs-called : {state last : State} {bytes : List ℕ} {verdicts : List Verdict} (s : Status) → Keeps state s → Runs state bytes verdicts last →
    AsCalls s bytes verdicts last
runs-called s kept done = record { whole = record { verdicts = []; status = s }; calls = none; told = refl; kept = kept }
runs-called s kept (feed {last = last} {verdicts = verdicts} piece later r feeds more) =
    let a = feeds.answers s kept in
    called-by s piece later r.told verdicts last a.told (rw a.taken at (runs-called (feed_of s piece).status a.state more))
runs-called s kept (stop piece later r e feeds t) =
    let a = feeds.answers s kept in
    let ends = refused_over s piece e (sym a.told ∙ t) in
    called-by s piece later (Told.Over e) [] r.state (sym t ∙ a.told)
    (rw ends (record { whole = record { verdicts = []; status = over e }; calls = rest; told = refl; kept = rw ends at a.state }))

-- ---- the same bytes, from two states of one stream, such as two of `State::new` at `start`

pub cut-free : {a b last last' : State} {bytes : List ℕ} {v w : List Verdict} (s : Status) → Keeps a s → Keeps b s →
    Runs a bytes v last → Runs b bytes w last' → SameRun v w last last'
cut-free {last = last} {last' = last'} s p q m n =
    let c = runs-called s p m in
    let d = runs-called s q n in
    let same : d.whole ≡ c.whole = calls_same d.calls c.calls in
    record {
      verdicts = c.told ∙ sym (d.told ∙ ap (λ (x : Whole). x.verdicts) same);
      state = kept-one last last' c.whole.status c.kept (subst (λ (x : Whole). Keeps last' x.status) same d.kept);
    }

pub end-one : (state : State) (s : Status) → Keeps state s → (c d : Closed) → Closes state c → Closes state d → c ≡ d
end-one state s kept c d p q =
    let end = p.end s kept ∙ sym (q.end s kept) in
    let last = kept-one c.state d.state (over c.end) p.over (subst (λ (e : End). Keeps d.state (over e)) (sym end) q.over) in
    λ i. record { end = end i; state = last i }

pub runs-streamed : {state last : State} {t : List ℕ} {verdicts : List Verdict} → Keeps state start → Runs state t verdicts last →
    (c : Closed) → Closes last c → Streamed t verdicts c.end
runs-streamed kept runs c closes =
    let d = runs-called start kept runs in
    rw (d.told, closes.end d.whole.status d.kept) (streamed d.calls)
