-- The answer of a call with some bytes is packed, and a caller takes it apart again: `fed-parts`. `packed-fed`, `packed-taken`: what is packed of a stream, and
-- of any state. Assumes nothing.
use mathlib.Core.Path.{◌≡◌, ◌∙◌}
use mathlib.Core.List.{List}
use Prim.Native.Nat.{ℕ, ◌/◌, ◌%◌, ◌<◌, ◌≤◌}
use native.Mathlib.Omega.{arith}
use Rattle.trace.specs.Number.{told_number, told_kind, told_place}
use Rattle.trace.specs.Stream.{Status}
use Rattle.trace.specs.Feed.{feed_of}
use Rattle.trace.specs.declared.types.Told.{Told}
use Rattle.trace.proofs.Few.{within-few, feed-few}
use Rattle.trace.proofs.Place.{within-place, feed-place}
use Rattle.stream.specs.Kept.{Kept}
use Rattle.stream.specs.declared.state.Marks.{Marks}
use Rattle.capi_stream.specs.Calls.{KeptBytes, parts_packed, fed_packed, FedBits}
use Rattle.capi_stream.proofs.Stored.{end-small, kind-range}

-- ---- how large the parts are

told-small : (t : Told) → (told_number t < 0x100) × (told_kind t < 0x100)
told-small Told.Nothing = (omega arith, omega arith)
told-small (Told.Case v) = (omega arith, (kind-range v).1)
told-small (Told.Over e) = (end-small e, omega arith)

-- of a stream
fed-small : {image contents : List ℕ} {m : Marks} {s : Status} (bytes : List ℕ) → Kept image contents m s →
    ((feed_of s bytes).taken ≤ 45068) × (told_place (feed_of s bytes).told < 8192)
fed-small bytes (Kept.listing h v w) = (feed-few h bytes v, feed-place bytes h v)
fed-small bytes (Kept.within h k v w) = (omega (arith, within-few h k bytes v), within-place bytes h k v)
fed-small bytes (Kept.ended e w) = (omega arith, omega arith)

-- ---- packed, and taken apart

module _ (t : Told) (n : ℕ) where
  pub packed-taken : parts_packed (told_number t) (told_kind t) (told_place t % 0x1_0000) (n % 0x1_0000_0000) / 0x1_0000_0000 ≤ n
  packed-taken = omega (arith, (told-small t).0, (told-small t).1)

  packed-fits : told_place t < 0x1_0000 → n < 0x1_0000_0000 →
      parts_packed (told_number t) (told_kind t) (told_place t % 0x1_0000) (n % 0x1_0000_0000) ≡ parts_packed (told_number t) (told_kind t) (told_place t) n
  packed-fits l h = omega arith

pub packed-fed : {image contents : List ℕ} {m : Marks} {s : Status} (bytes : List ℕ) (t : Told) (n : ℕ) → Kept image contents m s →
    t ≡ (feed_of s bytes).told → n ≡ (feed_of s bytes).taken →
    parts_packed (told_number t) (told_kind t) (told_place t % 0x1_0000) (n % 0x1_0000_0000) ≡ fed_packed (feed_of s bytes)
unfolding fed_packed
packed-fed {s = s} bytes t n k e f =
    let small = fed-small bytes k in
    (λ i. parts_packed (told_number (e i)) (told_kind (e i)) (told_place (e i) % 0x1_0000) (f i % 0x1_0000_0000))
    ∙ packed-fits (feed_of s bytes).told (feed_of s bytes).taken (omega (arith, small.1)) (omega (arith, small.0))

pub fed-parts : {state : List ℕ} {s : Status} (bytes : List ℕ) → KeptBytes state s → FedBits (feed_of s bytes) (fed_packed (feed_of s bytes))
unfolding fed_packed
fed-parts {s = s} bytes k =
    let small = fed-small bytes k.kept in
    let told = told-small (feed_of s bytes).told in
    record {
      number = omega (arith, told.0, told.1, small.0, small.1);
      kind = omega (arith, told.0, told.1, small.0, small.1);
      place = omega (arith, told.0, told.1, small.0, small.1);
      taken = omega (arith, told.0, told.1, small.0, small.1);
      few = small.0;
    }
