-- The two laws of the operations on which the claims for whole runs rest.
-- Shift: bytes 16k on of what an SVE2 operation writes are what it writes from bytes 16k on of the registers.
-- Locality: the first 16 bytes of what an operation writes depend only on the first 16 bytes of the registers. Assumes nothing.
use mathlib.Core.Path.{◌≡◌, refl, sym, ap, ap₂, ◌∙◌}
use Prim.Native.Nat.{ℕ, zero, suc, ◌+◌, ◌*◌, ◌/◌, ◌%◌, ◌<◌, ◌≤◌}
use native.Mathlib.Omega.{arith}
use native.Mathlib.Nat.{add_assoc}
use mathlib.Core.Bool.{Bool, true, false, cond, ◌||◌, true≢false, false≢true}
use borrow.Author.Tests.{le-ltb}
use lib.IntN.{ℤ}
use Rattle.integer.specs.Number.{signed, changed, end_of}
use Rattle.isa.specs.Register.{Bytes, Regs, window, segment, Size, B, H, S, D, bytes, bits, pairs, little, element, complex, Complex}
use Rattle.isa.specs.Meaning.{Op, Cadd, Sqcadd, Cmla, Sqrdcmlah, CmlaIndexed, SqrdcmlahIndexed, Sqrdmlah, Sqrdmlsh, Sqdmulh, Form, Scalar, Vector64, Vector128, lane_count, indexed, own, pair_bytes, lane_wise, lane_bytes, lane_value, lane_end, lane_clamps, above, any_below, adds, subtracts, writes, written, step, flag_after, advanced_simd}

-- ---- where byte 16k + i stands: its pair, its part of the pair, its place in the element

module _ (k i : ℕ) where
  pair_of : (z : Size) → (16 * k + i) / (2 * bytes z) ≡ pairs z * k + i / (2 * bytes z)
  unfolding bytes pairs
  pair_of B = omega arith
  pair_of H = omega arith
  pair_of S = omega arith
  pair_of D = omega arith

  part_of : (z : Size) → (16 * k + i) / bytes z % 2 ≡ i / bytes z % 2
  unfolding bytes
  part_of B = omega arith
  part_of H = omega arith
  part_of S = omega arith
  part_of D = omega arith

  place_of : (z : Size) → (16 * k + i) % bytes z ≡ i % bytes z
  unfolding bytes
  place_of B = omega arith
  place_of H = omega arith
  place_of S = omega arith
  place_of D = omega arith

  lane_of : (z : Size) → (16 * k + i) / bytes z ≡ 2 * pairs z * k + i / bytes z
  unfolding bytes pairs
  lane_of B = omega arith
  lane_of H = omega arith
  lane_of S = omega arith
  lane_of D = omega arith

  lane-at : (z : Size) → bytes z * (2 * pairs z * k + i) ≡ 16 * k + bytes z * i
  unfolding bytes pairs
  lane-at B = omega arith
  lane-at H = omega arith
  lane-at S = omega arith
  lane-at D = omega arith

  indexed-shift : (z : Size) (index : ℕ) → indexed z index (pairs z * k + i) ≡ pairs z * k + indexed z index i
  unfolding pairs indexed
  indexed-shift B index = omega arith
  indexed-shift H index = omega arith
  indexed-shift S index = omega arith
  indexed-shift D index = omega arith

-- ---- shift

little-shift : (b : Bytes) (a at count : ℕ) → little b (a + at) count ≡ little (λ i. b (a + i)) at count
unfolding little
little-shift b a at zero = refl
little-shift b a at (suc count) =
    ap (λ t. b (a + at) + 256 * t) (ap (λ m. little b m count) (add_assoc a at 1) ∙ little-shift b a (at + 1) count)

module _ (z : Size) (k : ℕ) where
  element-shift : (b : Bytes) (e : ℕ) → element z b (2 * pairs z * k + e) ≡ element z (window k b) e
  unfolding element window
  element-shift b e =
      ap (signed (bits z)) (ap (λ m. little b m (bytes z)) (lane-at k e z) ∙ little-shift b (16 * k) (bytes z * e) (bytes z))

  complex-shift : (b : Bytes) (p : ℕ) → complex z b (pairs z * k + p) ≡ complex z (window k b) p
  unfolding complex
  complex-shift b p =
      let even : element z b (2 * (pairs z * k + p)) ≡ element z (window k b) (2 * p) =
      ap (element z b) (omega arith) ∙ element-shift b (2 * p) in
      let odd : element z b (2 * (pairs z * k + p) + 1) ≡ element z (window k b) (2 * p + 1) =
      ap (element z b) (omega arith) ∙ element-shift b (2 * p + 1) in
      λ i. record { re = even i; im = odd i }

  -- where the pair of the second source moves with the segments
  pair-shift : (choose : ℕ → ℕ) → ((p : ℕ) → choose (pairs z * k + p) ≡ pairs z * k + choose p) →
      (result : Complex → Complex → Complex → Complex) (c n m : Bytes) (i : ℕ) →
      pair_bytes z choose result c n m (16 * k + i) ≡ pair_bytes z choose result (window k c) (window k n) (window k m) i
  unfolding pair_bytes
  pair-shift choose moves result c n m i =
      let q = i / (2 * bytes z) in
      rw (pair_of k i z, part_of k i z, place_of k i z, moves q, complex-shift c q, complex-shift n q, complex-shift m (choose q))

  pub lane-wise-shift : (result : ℤ → ℤ → ℤ) (c m : Bytes) (i : ℕ) → lane_wise z result c m (16 * k + i) ≡ lane_wise z result (window k c) (window k m) i
  unfolding lane_wise
  lane-wise-shift result c m i =
      let e = i / bytes z in
      rw (lane_of k i z, place_of k i z, element-shift c e, element-shift m e)

  own-shift : (p : ℕ) → own (pairs z * k + p) ≡ pairs z * k + own p
  unfolding own
  own-shift p = refl

-- the law of shift
pub written-shift : (op : Op) → advanced_simd op ≡ false → (regs : Regs) (k r i : ℕ) → written op regs r (16 * k + i) ≡ written op (segment k regs) r i
unfolding written advanced_simd segment
written-shift (Cadd o) sve regs k r = pair-shift o.size k own (own-shift o.size k) _ _ _ _
written-shift (Sqcadd o) sve regs k r = pair-shift o.size k own (own-shift o.size k) _ _ _ _
written-shift (Cmla o) sve regs k r = pair-shift o.size k own (own-shift o.size k) _ _ _ _
written-shift (Sqrdcmlah o) sve regs k r = pair-shift o.size k own (own-shift o.size k) _ _ _ _
written-shift (CmlaIndexed o) sve regs k r = pair-shift o.size k (indexed o.size o.index) (λ p. indexed-shift k p o.size o.index) _ _ _ _
written-shift (SqrdcmlahIndexed o) sve regs k r = pair-shift o.size k (indexed o.size o.index) (λ p. indexed-shift k p o.size o.index) _ _ _ _
written-shift (Sqrdmlah o) sve regs k r = absurd (true≢false sve)
written-shift (Sqrdmlsh o) sve regs k r = absurd (true≢false sve)
written-shift (Sqdmulh o) sve regs k r = lane-wise-shift o.size k _ (regs r) (regs o.zm)

-- ---- locality

-- the same first 16 bytes, of a register and of every register
unfoldable pub Near : Bytes → Bytes → Type 0
Near b₁ b₂ = (j : ℕ) → j < 16 → b₁ j ≡ b₂ j

unfoldable pub Alike : Regs → Regs → Type 0
Alike r₁ r₂ = (n : ℕ) → Near (r₁ n) (r₂ n)

little-local : (f g : Bytes) (at count : ℕ) → ((t : ℕ) → t < at + count → f t ≡ g t) → little f at count ≡ little g at count
unfolding little
little-local f g at zero h = refl
little-local f g at (suc count) h =
    ap₂ (λ a b. a + 256 * b) (h at (omega arith)) (little-local f g (at + 1) count (λ t l. h t (omega arith)))

pub lane-fits : (z : Size) (e : ℕ) → e < 2 * pairs z → bytes z * e + bytes z ≤ 16
unfolding bytes pairs
lane-fits B e h = omega arith
lane-fits H e h = omega arith
lane-fits S e h = omega arith
lane-fits D e h = omega arith

pair_small : (z : Size) (i : ℕ) → i < 16 → i / (2 * bytes z) < pairs z
unfolding bytes pairs
pair_small B i h = omega arith
pair_small H i h = omega arith
pair_small S i h = omega arith
pair_small D i h = omega arith

pub lane-small : (z : Size) (i : ℕ) → i < 16 → i / bytes z < 2 * pairs z
unfolding bytes pairs
lane-small B i h = omega arith
lane-small H i h = omega arith
lane-small S i h = omega arith
lane-small D i h = omega arith

pub indexed-small : (z : Size) (index : ℕ) → index < pairs z → (p : ℕ) → p < pairs z → indexed z index p < pairs z
unfolding indexed pairs
indexed-small B index h p l = omega arith
indexed-small H index h p l = omega arith
indexed-small S index h p l = omega arith
indexed-small D index h p l = omega arith

pub own-small : (z : Size) (p : ℕ) → p < pairs z → own p < pairs z
unfolding own
own-small z p h = h

pub count_small : (l : Form) (z : Size) → lane_count l z ≤ 2 * pairs z
unfolding lane_count pairs bits bytes
count_small Scalar B = omega arith
count_small Scalar H = omega arith
count_small Scalar S = omega arith
count_small Scalar D = omega arith
count_small Vector64 B = omega arith
count_small Vector64 H = omega arith
count_small Vector64 S = omega arith
count_small Vector64 D = omega arith
count_small Vector128 B = omega arith
count_small Vector128 H = omega arith
count_small Vector128 S = omega arith
count_small Vector128 D = omega arith

pub any-local : (n : ℕ) (f g : ℕ → Bool) → ((e : ℕ) → e < n → f e ≡ g e) → any_below n f ≡ any_below n g
unfolding any_below
any-local zero f g h = refl
any-local (suc n) f g h = ap₂ ◌||◌ (h n (omega arith)) (any-local n f g (λ e l. h e (omega arith)))

element-local : (z : Size) (b₁ b₂ : Bytes) → Near b₁ b₂ → (e : ℕ) → e < 2 * pairs z → element z b₁ e ≡ element z b₂ e
unfolding element Near
element-local z b₁ b₂ near e h =
    ap (signed (bits z)) (little-local b₁ b₂ (bytes z * e) (bytes z) (λ t l. near t (omega (arith, lane-fits z e h))))

complex-local : (z : Size) (b₁ b₂ : Bytes) → Near b₁ b₂ → (p : ℕ) → p < pairs z → complex z b₁ p ≡ complex z b₂ p
unfolding complex
complex-local z b₁ b₂ near p h =
    let even = element-local z b₁ b₂ near (2 * p) (omega arith) in
    let odd = element-local z b₁ b₂ near (2 * p + 1) (omega arith) in
    λ i. record { re = even i; im = odd i }

-- two sources with the same first 16 bytes
pub lane-wise-local : (z : Size) (result : ℤ → ℤ → ℤ) (c₁ m₁ c₂ m₂ : Bytes) → Near c₁ c₂ → Near m₁ m₂ →
    (i : ℕ) → i < 16 → lane_wise z result c₁ m₁ i ≡ lane_wise z result c₂ m₂ i
unfolding lane_wise
lane-wise-local z result c₁ m₁ c₂ m₂ c m i h =
    let e = i / bytes z in
    let l = lane-small z i h in
    rw (element-local z c₁ c₂ c e l, element-local z m₁ m₂ m e l)

-- three sources with the same first 16 bytes
module _ (z : Size) (c₁ n₁ m₁ c₂ n₂ m₂ : Bytes) (c : Near c₁ c₂) (n : Near n₁ n₂) (m : Near m₁ m₂) where
  pub pair-local : (choose : ℕ → ℕ) → ((p : ℕ) → p < pairs z → choose p < pairs z) → (result : Complex → Complex → Complex → Complex) →
      (i : ℕ) → i < 16 → pair_bytes z choose result c₁ n₁ m₁ i ≡ pair_bytes z choose result c₂ n₂ m₂ i
  unfolding pair_bytes
  pair-local choose small result i h =
      let q = i / (2 * bytes z) in
      let l = pair_small z i h in
      rw (complex-local z c₁ c₂ c q l, complex-local z n₁ n₂ n q l, complex-local z m₁ m₂ m (choose q) (small q l))

  value-local : (index : ℕ) → index < 2 * pairs z → (minus : Bool) (e : ℕ) → e < 2 * pairs z →
      lane_value z index minus c₁ n₁ m₁ e ≡ lane_value z index minus c₂ n₂ m₂ e
  unfolding lane_value
  value-local index small minus e h = rw (element-local z c₁ c₂ c e h, element-local z n₁ n₂ n e h, element-local z m₁ m₂ m index small)

  pub lane-local : (l : Form) (index : ℕ) → index < 2 * pairs z → (minus : Bool) →
      (i : ℕ) → i < 16 → lane_bytes l z index minus c₁ n₁ m₁ i ≡ lane_bytes l z index minus c₂ n₂ m₂ i
  unfolding lane_bytes Near
  lane-local l index small minus i h =
      let lane-same = value-local index small minus (i / bytes z) (lane-small z i h) in
      let byte-same = c i h in
      cc

  pub clamps-local : (l : Form) (index : ℕ) → index < 2 * pairs z → (minus : Bool) →
      lane_clamps l z index minus c₁ n₁ m₁ ≡ lane_clamps l z index minus c₂ n₂ m₂
  unfolding lane_clamps lane_end
  clamps-local l index small minus =
      any-local (lane_count l z) _ _ (λ e h. ap (λ (v : ℤ). changed (end_of (bits z) v)) (value-local index small minus e (omega (arith, count_small l z))))

-- An operation's index stays in its 128-bit segment.
unfoldable pub Fits : Op → Type 0
Fits (Cadd o) = Unit {0}
Fits (Sqcadd o) = Unit {0}
Fits (Cmla o) = Unit {0}
Fits (Sqrdcmlah o) = Unit {0}
Fits (CmlaIndexed o) = o.index < pairs o.size
Fits (SqrdcmlahIndexed o) = o.index < pairs o.size
Fits (Sqrdmlah o) = o.index < 2 * pairs o.size
Fits (Sqrdmlsh o) = o.index < 2 * pairs o.size
Fits (Sqdmulh o) = Unit {0}

-- the law of locality, for the bytes and for the flag
module _ (r₁ r₂ : Regs) (alike : Alike r₁ r₂) where
  pub written-local : (op : Op) → Fits op → (r i : ℕ) → i < 16 → written op r₁ r i ≡ written op r₂ r i
  unfolding written Fits Alike
  written-local (Cadd o) fits r = pair-local o.size _ _ _ _ _ _ (alike o.zdn) (alike o.zdn) (alike o.zm) own (own-small o.size) _
  written-local (Sqcadd o) fits r = pair-local o.size _ _ _ _ _ _ (alike o.zdn) (alike o.zdn) (alike o.zm) own (own-small o.size) _
  written-local (Cmla o) fits r = pair-local o.size _ _ _ _ _ _ (alike o.zda) (alike o.zn) (alike o.zm) own (own-small o.size) _
  written-local (Sqrdcmlah o) fits r = pair-local o.size _ _ _ _ _ _ (alike o.zda) (alike o.zn) (alike o.zm) own (own-small o.size) _
  written-local (CmlaIndexed o) fits r =
      pair-local o.size _ _ _ _ _ _ (alike o.zda) (alike o.zn) (alike o.zm) (indexed o.size o.index) (indexed-small o.size o.index fits) _
  written-local (SqrdcmlahIndexed o) fits r =
      pair-local o.size _ _ _ _ _ _ (alike o.zda) (alike o.zn) (alike o.zm) (indexed o.size o.index) (indexed-small o.size o.index fits) _
  written-local (Sqrdmlah o) fits r = lane-local o.size _ _ _ _ _ _ (alike o.rd) (alike o.rn) (alike o.rm) o.form o.index fits adds
  written-local (Sqrdmlsh o) fits r = lane-local o.size _ _ _ _ _ _ (alike o.rd) (alike o.rn) (alike o.rm) o.form o.index fits subtracts
  written-local (Sqdmulh o) fits r = lane-wise-local o.size _ _ _ _ _ (alike r) (alike o.zm)

  pub flag-local : (op : Op) → Fits op → (flag : Bool) → flag_after op r₁ flag ≡ flag_after op r₂ flag
  unfolding flag_after Fits Alike
  flag-local (Cadd o) fits flag = refl
  flag-local (Sqcadd o) fits flag = refl
  flag-local (Cmla o) fits flag = refl
  flag-local (Sqrdcmlah o) fits flag = refl
  flag-local (CmlaIndexed o) fits flag = refl
  flag-local (SqrdcmlahIndexed o) fits flag = refl
  flag-local (Sqrdmlah o) fits flag = ap (λ b. flag || b) (clamps-local o.size _ _ _ _ _ _ (alike o.rd) (alike o.rn) (alike o.rm) o.form o.index fits adds)
  flag-local (Sqrdmlsh o) fits flag = ap (λ b. flag || b) (clamps-local o.size _ _ _ _ _ _ (alike o.rd) (alike o.rn) (alike o.rm) o.form o.index fits subtracts)
  flag-local (Sqdmulh o) fits flag = refl

-- an SVE2 operation leaves the flag
pub flag-kept : (op : Op) → advanced_simd op ≡ false → (regs : Regs) (flag : Bool) → flag_after op regs flag ≡ flag
unfolding flag_after advanced_simd
flag-kept (Cadd o) sve regs flag = refl
flag-kept (Sqcadd o) sve regs flag = refl
flag-kept (Cmla o) sve regs flag = refl
flag-kept (Sqrdcmlah o) sve regs flag = refl
flag-kept (CmlaIndexed o) sve regs flag = refl
flag-kept (SqrdcmlahIndexed o) sve regs flag = refl
flag-kept (Sqrdmlah o) sve regs flag = absurd (true≢false sve)
flag-kept (Sqrdmlsh o) sve regs flag = absurd (true≢false sve)
flag-kept (Sqdmulh o) sve regs flag = refl

-- Above the first 16 bytes, what an Advanced SIMD operation writes depends on nothing. `lane_above`: for its bytes; `written-above`: for the operation.
pub lane_above : (l : Form) (z : Size) (index : ℕ) (minus : Bool) (c n m : Bytes) (j : ℕ) → 16 ≤ j → lane_bytes l z index minus c n m j ≡ above
unfolding lane_bytes
lane_above l z index minus c n m j h = rw (le-ltb j 16 h)

pub written-above : (op : Op) → advanced_simd op ≡ true → (regs : Regs) (r j : ℕ) → 16 ≤ j → written op regs r j ≡ above
unfolding written advanced_simd
written-above (Cadd o) simd regs r j high = absurd (false≢true simd)
written-above (Sqcadd o) simd regs r j high = absurd (false≢true simd)
written-above (Cmla o) simd regs r j high = absurd (false≢true simd)
written-above (Sqrdcmlah o) simd regs r j high = absurd (false≢true simd)
written-above (CmlaIndexed o) simd regs r j high = absurd (false≢true simd)
written-above (SqrdcmlahIndexed o) simd regs r j high = absurd (false≢true simd)
written-above (Sqrdmlah o) simd regs r j high = lane_above o.form o.size o.index adds _ _ _ j high
written-above (Sqrdmlsh o) simd regs r j high = lane_above o.form o.size o.index subtracts _ _ _ j high
written-above (Sqdmulh o) simd regs r j high = absurd (false≢true simd)

-- ---- the same laws of the whole step

pub step-shift : (op : Op) → advanced_simd op ≡ false → (regs : Regs) (k r i : ℕ) → step op regs r (16 * k + i) ≡ step op (segment k regs) r i
unfolding step segment window
step-shift op sve regs k r i = ap (λ t. cond (writes op r) t (regs r (16 * k + i))) (written-shift op sve regs k r i)

pub step_local : (op : Op) → Fits op → (r₁ r₂ : Regs) → Alike r₁ r₂ → (r i : ℕ) → i < 16 → step op r₁ r i ≡ step op r₂ r i
unfolding step Alike Near
step_local op fits r₁ r₂ alike r i h = ap₂ (cond (writes op r)) (written-local r₁ r₂ alike op fits r i h) (alike r i h)

pub step-above : (op : Op) → advanced_simd op ≡ true → (r₁ r₂ : Regs) (j : ℕ) → 16 ≤ j → ((r : ℕ) → r₁ r j ≡ r₂ r j) →
    (r : ℕ) → step op r₁ r j ≡ step op r₂ r j
unfolding step
step-above op simd r₁ r₂ j high same r = ap₂ (cond (writes op r)) (written-above op simd r₁ r j high ∙ sym (written-above op simd r₂ r j high)) (same r)
