-- The calls. With the image and the contents held together: `feed-ended`, `feed-goes`, `feed-refused`: a stream that is over, that goes on, and that is
-- refused (`feed-behind`: the stream behind a call). On a state: `new-keeps`: before the first byte. `end-closes`: behind an end. `feed-feeds`: behind bytes;
-- `fronted-room`, `fronted-part`, `joined_is`, `joined-size`, `contents-back`: how its arrays are held together. Assumes nothing.
use mathlib.Core.Path.{◌≡◌, refl, sym, ap, ◌∙◌}
use mathlib.Core.List.{List, [], ◌∷◌, ◌++◌, append-nil}
use Prim.Native.Nat.{ℕ, ◌+◌, ◌≤◌}
use native.Mathlib.Omega.{arith}
use lib.ListN.{length, take, drop, replicate, length-replicate, replicate-append-replicate, length-append, length-take, length-drop, drop_of_length-le}
use lib.Seq.{take_all, take_at, drop_at}
use types.Run.{OneOf, miss}
use denote.Enum.Declared.{tag_of}
use Rattle.trace.specs.Stream.{due_of, Status, then, start}
use Rattle.trace.specs.Feed.{Fed, status_after, goes_on, feed_from, feed_of}
use Rattle.trace.specs.declared.types.Told.{Told}
use Rattle.trace.specs.contracts.types.Told.{the_type}
use Rattle.trace.proofs.Live.{live-empty}
use Rattle.stream.specs.Body.{padded}
use Rattle.stream.specs.Kept.{listing, within, ended, fresh_course, ended_marks, Kept, Keeps, Answers, Feeds, Closes}
use Rattle.stream.specs.Steps.{KeptHeld, KeptAs, FedAs, Fills, FeedsHeld, ClosesMarks}
use Rattle.stream.specs.declared.state.Phase.{Phase}
use Rattle.stream.specs.declared.state.Course.{Course}
use Rattle.stream.specs.declared.state.Marks.{Marks}
use Rattle.stream.specs.declared.state.State.{State}
use Rattle.stream.specs.declared.state.Stepped.{Stepped}
use Rattle.stream.proofs.Padded.{padded-none}
use Rattle.stream.specs.contracts.state.Phase.{the_type as phase-type}
use Rattle.stream.proofs.Phases.{contents-ended, bodies-ended, listing-phase, over-phase}
use Rattle.trace.specs.Stream.{End}

-- ---- the image and the contents held together

-- zeros are an empty image and empty contents
module _ (n m : ℕ) where
  zeros-split : replicate {A = ℕ} (n + m) 0 ≡ replicate n 0 ++ replicate m 0
  zeros-split = sym (replicate-append-replicate n m 0)

  pub zeros-image : take n (replicate (n + m) 0) ≡ padded n []
  zeros-image = ap (take n) zeros-split ∙ take_at (replicate n 0) _ n (length-replicate n 0) ∙ padded-none n

  pub zeros-contents : drop n (replicate (n + m) 0) ≡ padded m []
  zeros-contents = ap (drop n) zeros-split ∙ drop_at (replicate n 0) _ n (length-replicate n 0) ∙ padded-none m

-- the stream behind a call is over with a refusal, and live otherwise
abbrev pub Behind : Fed → Type 0
Behind f = (x : List ℕ) × (f.status ≡ status_after f.told x)

behind-by : (d : Told) (n : List ℕ) (later : List ℕ → Fed) → Behind (later n) → Behind (goes_on d n later)
behind-by Told.Nothing n later b = b
behind-by (Told.Case v) n later b = (n, refl)
behind-by (Told.Over e) n later b = (n, refl)

pub feed-behind : (bytes h : List ℕ) → Behind (feed_from bytes h)
unfolding feed_from
feed-behind [] h = (h, refl)
feed-behind (b ∷ bytes) h = behind-by (due_of (then h b)) (then h b) (feed_from bytes) (feed-behind bytes (then h b))

module _ (held : List ℕ) (m : Marks) (bytes : List ℕ) where
  -- a stream that is over
  module _ (e : End) (p : m.phase ≡ Phase.Ended e) where
    over-answers : (s : Status) → KeptHeld held m s → FedAs (feed_of s bytes) (record { taken = 0; told = Told.Over e; marks = m }) (KeptHeld held m)
    over-answers _ (listing h v kept) = contents-ended (listing-phase kept) p
    over-answers _ (within h k v kept) = bodies-ended kept.phase p
    over-answers _ (ended f kept) = let same : e ≡ f = cc (p, over-phase kept) in record { taken = refl; told = ap Told.Over same; left = ended f kept }

    pub feed-ended : FeedsHeld held m bytes (record { taken = 0; told = Told.Over e; marks = m }) held
    feed-ended = record { most = omega arith; answers = over-answers }

  -- a stream that is live
  module _ (other : OneOf (0 ∷ 1 ∷ []) (tag_of phase-type m.phase)) (r : Stepped) (held' : List ℕ) (fills : Fills held m bytes r held') where
    -- the state at the end, by that before the image and the contents are cleared
    module _
        (last : List ℕ) (turn : (d : Told) (x : List ℕ) → r.told ≡ d → KeptAs (status_after d x) (take 8192 held') (drop 8192 held') r.marks →
        KeptHeld last r.marks (status_after d x)) where
      turned : (h : List ℕ) → FedAs (feed_from bytes h) r (λ s. KeptAs s (take 8192 held') (drop 8192 held') r.marks) →
          FedAs (feed_from bytes h) r (KeptHeld last r.marks)
      turned h fed =
          let b = feed-behind bytes h in
          let d = (feed_from bytes h).told in
          record { taken = fed.taken; told = fed.told; left = rw b.1 (turn d b.0 fed.told (rw b.1 at fed.left)) }

      live-answers : (s : Status) → KeptHeld held m s → FedAs (feed_of s bytes) r (KeptHeld last r.marks)
      live-answers _ (listing h v kept) = turned h (fills.answers h (listing h v kept))
      live-answers _ (within h k v kept) = turned h (fills.answers h (within h k v kept))
      live-answers _ (ended e kept) = absurd (miss (0 ∷ 1 ∷ []) 2 tt (rw (over-phase kept) at other))

      feeds : FeedsHeld held m bytes r last
      feeds = record { most = fills.most; answers = live-answers }

    pub feed-goes : OneOf (0 ∷ 1 ∷ []) (tag_of the_type r.told) → FeedsHeld held m bytes r held'
    feed-goes on = feeds held' turn
      where
        turn : (d : Told) (x : List ℕ) → r.told ≡ d → KeptAs (status_after d x) (take 8192 held') (drop 8192 held') r.marks →
            KeptHeld held' r.marks (status_after d x)
        turn Told.Nothing x e kept = kept
        turn (Told.Case v) x e kept = kept
        turn (Told.Over f) x e kept = absurd (miss (0 ∷ 1 ∷ []) 2 tt (rw e at on))

    pub feed-refused : (e : End) → r.told ≡ Told.Over e → length held' ≡ 20480 → (zeros : List ℕ) → zeros ≡ replicate (length held') 0 →
        FeedsHeld held m bytes r zeros
    feed-refused e told size zeros z = feeds zeros turn
      where
        turn : (d : Told) (x : List ℕ) → r.told ≡ d → KeptAs (status_after d x) (take 8192 held') (drop 8192 held') r.marks →
            KeptHeld zeros r.marks (status_after d x)
        turn Told.Nothing x f kept = let c : ◌≡◌ {A = ℕ} 0 1 = cc (told, f) in absurd (omega arith)
        turn (Told.Case v) x f kept = let c : ◌≡◌ {A = ℕ} 0 1 = cc (told, f) in absurd (omega arith)
        turn (Told.Over g) x f kept = ended g (record {
          empty = ap (take 8192) (z ∙ ap (λ (n : ℕ). replicate n 0) size) ∙ zeros-image 8192 12288;
          entries = ap (drop 8192) (z ∙ ap (λ (n : ℕ). replicate n 0) size) ∙ zeros-contents 8192 12288;
          marks = kept;
        })

-- ---- a state

pub new-keeps : (image contents : List ℕ) (c : Course) → image ≡ replicate 8192 0 → contents ≡ replicate 12288 0 → c ≡ fresh_course →
    Kept image contents (record { phase = Phase.Contents; cases = 0; case = 0; due = 0; course = c }) start
new-keeps image contents c e f g =
    listing [] live-empty (record {
      empty = e ∙ padded-none 8192;
      entries = f ∙ padded-none 12288;
      marks = ap (λ (x : Course). record { phase = Phase.Contents; cases = 0; case = 0; due = 0; course = x }) g;
    })

pub end-closes : (state : State) (end : End) (m : Marks) (image contents : List ℕ) → ClosesMarks state.marks end → m ≡ ended_marks end →
    image ≡ replicate 8192 0 → contents ≡ replicate 12288 0 →
    Closes state (record { end = end; state = record { image = image; contents = contents; marks = m } })
end-closes state end m image contents closes e f g = record {
  over = ended end (record { empty = f ∙ padded-none 8192; entries = g ∙ padded-none 12288; marks = e });
  end = λ s kept. closes state.image state.contents s kept;
}

-- the image and the contents are loaded one behind the other into zeros
abbrev pub zeros : List ℕ
zeros = replicate 20480 0

pub zeros-size : length zeros ≡ 20480
zeros-size = length-replicate {A = ℕ} 20480 0

module _ (none : List ℕ) (z : length none ≡ 20480) {front image : List ℕ} (loaded : front ≡ image) (i : length image ≡ 8192) where
  abbrev fronted : List ℕ
  fronted = front ++ drop 8192 none

  front-size : length front ≡ 8192
  front-size = ap length loaded ∙ i

  pub fronted-room : 20480 ≤ length fronted
  fronted-room = simp (length-append, length-drop) (omega (arith, front-size))

  pub fronted-part : length (take 12288 (drop 8192 fronted)) ≡ 12288
  fronted-part = simp (length-take, length-drop, length-append) (omega (arith, front-size))

  module _ {back contents : List ℕ} (behind : back ≡ contents) (c : length contents ≡ 12288) where
    abbrev joined : List ℕ
    joined = take 8192 fronted ++ (back ++ drop 12288 (drop 8192 fronted))

    pub joined_is : joined ≡ image ++ contents
    joined_is =
        let rest : drop 12288 (drop 8192 none) ≡ [] = drop_of_length-le (drop 8192 none) {i = 12288} (simp length-drop (omega arith)) in
        rw (take_at front (drop 8192 none) 8192 front-size, drop_at front (drop 8192 none) 8192 front-size, rest, append-nil back, loaded, behind)

    pub joined-size : length joined ≡ 20480
    joined-size = ap length joined_is ∙ simp length-append (omega arith)

-- loaded back
pub contents-back : (held : List ℕ) → length held ≡ 20480 → length (take 12288 (drop 8192 held)) ≡ 12288
contents-back held size = simp (length-take, length-drop) (omega arith)

module _ (state : State) (bytes held held' : List ℕ) (r : Stepped) (feeds : FeedsHeld held state.marks bytes r held') where
  pub feed-feeds : held ≡ state.image ++ state.contents → length state.image ≡ 8192 → length held' ≡ 20480 → (image contents : List ℕ) →
      image ≡ take 8192 held' → contents ≡ take 12288 (drop 8192 held') →
      Feeds state bytes (record { taken = r.taken; told = r.told; state = record { image = image; contents = contents; marks = r.marks } })
  feed-feeds e size size' image contents f g = record { within = feeds.most; answers = answers }
    where
      front : take 8192 held ≡ state.image
      front = ap (take 8192) e ∙ take_at state.image state.contents 8192 size

      back : drop 8192 held ≡ state.contents
      back = ap (drop 8192) e ∙ drop_at state.image state.contents 8192 size

      answers : (s : Status) → Keeps state s →
          Answers (feed_of s bytes) (record { taken = r.taken; told = r.told; state = record { image = image; contents = contents; marks = r.marks } })
      answers s kept =
          let whole = take_all 12288 (drop 8192 held') (simp length-drop (omega arith)) in
          let fed = feeds.answers s (rw (front, back) kept) in
          record { taken = fed.taken; told = fed.told; state = rw (f, g, whole) fed.left }
