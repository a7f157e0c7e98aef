-- How many bytes one call takes at most. `within-few`: past the contents 32,776, the longest body. `feed-few`: from within the contents also the 12,292 bytes
-- of the longest contents; `listing-few`: fewer have come of them. Assumes nothing.
use mathlib.Core.Path.{◌≡◌}
use mathlib.Core.List.{List, [], ◌∷◌}
use Prim.Native.Nat.{ℕ, suc, ◌+◌, ◌<◌, ◌≤◌}
use native.Mathlib.Omega.{arith}
use native.Mathlib.Decide.{dec_le}
use lib.ListN.{length, length-append}
use Rattle.isa.proofs.File.{legal-exact}
use Rattle.trace.specs.Trace.{cases_of, begins}
use Rattle.trace.specs.Stream.{Listing, Within, then}
use Rattle.trace.specs.Feed.{goes_on, feed_from}
use Rattle.trace.specs.declared.types.Told.{Told}
use Rattle.trace.proofs.Contents.{contents-exact}
use Rattle.trace.proofs.Live.{listing-cases, cases-kept, begins-kept}
use Rattle.trace.proofs.Byte.{ListingThen, listing-then, WithinThen, within-then}

-- ---- past the contents

module _ (h : List ℕ) (b k : ℕ) (v : Within h k) (bytes : List ℕ) where
  -- in body k the call ends with it at the latest
  body-by : k < cases_of h → (Within (then h b) k → k < cases_of (then h b) → length (then h b) + (feed_from bytes (then h b)).taken ≤ begins (then h b) (suc k)) →
      (d : Told) → WithinThen h b k d → length h + (goes_on d (then h b) (feed_from bytes)).taken ≤ begins h (suc k)
  body-by l ih d (WithinThen.on m w) =
      let c = cases-kept h (b ∷ []) k v in
      omega (arith, length-append h (b ∷ []), begins-kept h (b ∷ []) k v (suc k) l, ih w (omega arith))
  body-by l ih d (WithinThen.whole e w) = omega (arith, length-append h (b ∷ []))
  body-by l ih d (WithinThen.past all) = absurd (omega arith)

  -- behind the last body with one byte
  past_by : k ≡ cases_of h → (d : Told) → WithinThen h b k d → (goes_on d (then h b) (feed_from bytes)).taken ≤ 1
  past_by all d (WithinThen.on l w) = absurd (omega arith)
  past_by all d (WithinThen.whole e w) = omega arith
  past_by all d (WithinThen.past same) = omega arith

body-ends : (bytes h : List ℕ) (k : ℕ) → Within h k → k < cases_of h → length h + (feed_from bytes h).taken ≤ begins h (suc k)
unfolding feed_from
body-ends [] h k v l = omega (arith, v.to l)
body-ends (b ∷ bytes) h k v l = body-by h b k v bytes l (body-ends bytes (then h b) k) _ (within-then h b k v)

past-ends : (bytes h : List ℕ) (k : ℕ) → Within h k → k ≡ cases_of h → (feed_from bytes h).taken ≤ 1
unfolding feed_from
past-ends [] h k v all = omega arith
past-ends (b ∷ bytes) h k v all = past_by h b k v bytes all _ (within-then h b k v)

pub within-few : (h : List ℕ) (k : ℕ) (bytes : List ℕ) → Within h k → (feed_from bytes h).taken ≤ 32776
unfolding begins
within-few h k bytes v =
    elim (dec_le (cases_of h) k) [
      | yes l ↦ omega (arith, past-ends bytes h k v (omega (arith, v.few)))
      | no l ↦
          let here = ((contents-exact h).0 v.contents).entries k (omega arith) in
          omega (arith, body-ends bytes h k v (omega arith), v.from, ((legal-exact _).0 here.ok).most, here.few)
    ]

-- ---- within the contents

pub listing-few : (h : List ℕ) → Listing h → length h < 12292
listing-few h v = elim (dec_le 4 (length h)) [ yes l ↦ omega (arith, v.short, (listing-cases h v l).1) | no l ↦ omega arith ]

listing-by : (h : List ℕ) (b : ℕ) (bytes : List ℕ) → length h < 12292 → (Listing (then h b) → length (then h b) + (feed_from bytes (then h b)).taken ≤ 45068) →
    (d : Told) → ListingThen h b d → length h + (goes_on d (then h b) (feed_from bytes)).taken ≤ 45068
listing-by h b bytes few ih d (ListingThen.on w) = omega (arith, length-append h (b ∷ []), ih w)
listing-by h b bytes few ih d (ListingThen.whole w) = omega (arith, within-few (then h b) 0 bytes w)
listing-by h b bytes few ih d (ListingThen.refused i l short bad) = omega arith

listing-ends : (bytes h : List ℕ) → Listing h → length h + (feed_from bytes h).taken ≤ 45068
unfolding feed_from
listing-ends [] h v = omega (arith, listing-few h v)
listing-ends (b ∷ bytes) h v = listing-by h b bytes (listing-few h v) (listing-ends bytes (then h b)) _ (listing-then h b v)

pub feed-few : (h bytes : List ℕ) → Listing h → (feed_from bytes h).taken ≤ 45068
feed-few h bytes v = omega (arith, listing-ends bytes h v)
