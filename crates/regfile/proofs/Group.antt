-- The registers of a group, worked one 128-bit segment after the other, for a rule that works segment by segment (`BySegment`; `lane-wise` is one). `stored-none`,
-- `stored_more`: the segments of a group stored one register after the other. `group-starts`, `group-room`, `group-on`, `group-ends`: the loop over the segments.
-- The register at m may be one of the group: its segment is read before it is stored. Assumes nothing.
use mathlib.Core.Path.{◌≡◌, refl, sym, ap, subst, ◌∙◌}
use Prim.Native.Nat.{ℕ, ◌+◌, ◌-◌, ◌*◌, ◌/◌, ◌%◌, ◌<◌, ◌≤◌}
use native.Mathlib.Omega.{arith}
use native.Mathlib.Nat.{mul-le-mul_right, add-mul, lt_of_mul-lt-mul_right, div-add-mod'}
use mathlib.Core.List.{List}
use lib.ListN.{length, get_or}
use lib.IntN.{ℤ}
use lib.Dec.{ltb}
use borrow.Author.Tests.{ltb-true, ltb-false}
use Rattle.isa.specs.declared.types.Size.{Size}
use Rattle.isa.specs.Register.{Bytes, window}
use Rattle.isa.specs.Meaning.{lane_wise}
use Rattle.isa.specs.Segment.{bytes_of}
use Rattle.isa.proofs.File.{cases, legal-exact}
use Rattle.isa.proofs.Local.{Near, lane-wise-shift, lane-wise-local}
use Rattle.regfile.specs.Bytes.{Loaded, Stored}
use Rattle.regfile.specs.Sweep.{Held, bytes_from}
use Rattle.regfile.specs.Group.{GroupLying, GroupSwept}
use Rattle.regfile.proofs.Sweep.{near, segment-within}

-- a rule that makes each segment of the same segments of its sources, and of nothing else
pub record BySegment (rule : Bytes → Bytes → Bytes) : Type 0 where
  pub shift : (k : ℕ) (c m : Bytes) (i : ℕ) → rule c m (16 * k + i) ≡ rule (window k c) (window k m) i
  pub local : (c₁ m₁ c₂ m₂ : Bytes) → Near c₁ c₂ → Near m₁ m₂ → (i : ℕ) → i < 16 → rule c₁ m₁ i ≡ rule c₂ m₂ i

pub lane-wise : (z : Size) (result : ℤ → ℤ → ℤ) → BySegment (lane_wise z result)
lane-wise z result = record { shift = λ k. lane-wise-shift z k result; local = lane-wise-local z result }

-- ---- the segments of a group

-- no byte of the first `count` segments from `at` on, w bytes from one to the next
abbrev Beside : ℕ → ℕ → ℕ → ℕ → Type 0
Beside at w count x = (r i : ℕ) → r < count → i < 16 → x ≡ at + r * w + i → ⊥

-- `after` is g with these segments made by the rule, of what they were in g and of the segment at m
pub record GroupStored (rule : Bytes → Bytes → Bytes) (g : List ℕ) (at m w count : ℕ) (after : List ℕ) : Type 0 where
  pub size : length after ≡ length g
  pub inside : (r i : ℕ) → r < count → i < 16 → get_or after (at + r * w + i) 0 ≡ rule (bytes_from g (at + r * w)) (bytes_from g m) i
  pub beside : (x : ℕ) → Beside at w count x → get_or after x 0 ≡ get_or g x 0

module _ {rule : Bytes → Bytes → Bytes} (by : BySegment rule) {g : List ℕ} {at m w : ℕ} where
  pub stored-none : GroupStored rule g at m w 0 g
  stored-none = record { size = refl; inside = λ r i h l. absurd (omega arith); beside = λ x h. refl }

  -- one register more: its segment x and the segment z at m have been read from g, before any was stored
  pub stored_more : {count place : ℕ} {x z new mid after : List ℕ} → 16 ≤ w → place ≡ at + count * w → Loaded g place 16 x → Loaded g m 16 z →
      ((i : ℕ) → i < 16 → bytes_of new i ≡ rule (bytes_of x) (bytes_of z) i) → Stored mid place 16 new after → GroupStored rule g at m w count mid →
      GroupStored rule g at m w (count + 1) after
  stored_more {count} {place} {x} {z} {new} {mid} {after} wide here at_x at-z result stored so_far = record {
    size = stored.size ∙ so_far.size;
    inside = λ r i h l. cases (ltb r count)
        (λ e.
        let below = ltb-true r count e in
        stored.low (at + r * w + i) (omega (arith, mul-le-mul_right w below, here)) ∙ so_far.inside r i below l)
        (λ e.
        let last : r ≡ count = omega (arith, ltb-false r count e) in
        subst (λ n. get_or after (at + n * w + i) 0 ≡ rule (bytes_from g (at + n * w)) (bytes_from g m) i) (sym last)
        (subst (λ n. get_or after (n + i) 0 ≡ rule (bytes_from g n) (bytes_from g m) i) here
        (stored.inside i l ∙ result i l ∙ by.local _ _ _ _ (near g place x at_x) (near g m z at-z) i l)));
    beside = λ x b. cases (ltb x place)
        (λ e. stored.low x (ltb-true x place e) ∙ before x b)
        (λ e. cases (ltb x (place + 16))
        (λ u. absurd (b count (x - place) (omega arith) (omega (arith, ltb-true x (place + 16) u)) (omega (arith, ltb-false x place e, here))))
        (λ u. stored.high x (ltb-false x (place + 16) u) ∙ before x b));
  }
    where
      before : (x : ℕ) → Beside at w (count + 1) x → get_or mid x 0 ≡ get_or g x 0
      before x b = so_far.beside x (λ r i h l. b r i (omega arith) l)

-- a segment that lies in g lies in it still
pub stored-room : {rule : Bytes → Bytes → Bytes} {g after : List ℕ} {at m w count x : ℕ} → GroupStored rule g at m w count after → x ≤ length g → x ≤ length after
stored-room {x = x} s h = subst (λ n. x ≤ n) (sym s.size) h

-- ---- the loop over the segments

-- the segments before byte q of every register of the group have been worked
pub record Grouping (L count : ℕ) (rule : Bytes → Bytes → Bytes) (d m : ℕ) (f g : List ℕ) (q : ℕ) : Type 0 where
  pub aligned : q % 16 ≡ 0
  pub bound : q ≤ L / 8
  pub sized : length g ≡ length f
  pub worked : (r j : ℕ) → r < count → j < q → get_or g (d + r * (L / 8) + j) 0 ≡ rule (bytes_from f (d + r * (L / 8))) (bytes_from f m) j
  pub waiting : (r j : ℕ) → r < count → q ≤ j → j < L / 8 → get_or g (d + r * (L / 8) + j) 0 ≡ get_or f (d + r * (L / 8) + j) 0
  pub low : (x : ℕ) → x < d → get_or g x 0 ≡ get_or f x 0
  pub high : (x : ℕ) → d + count * (L / 8) ≤ x → get_or g x 0 ≡ get_or f x 0

-- the segments at byte q of the group and of the register at m, in a short list
pub record GroupIn (size count w d m q : ℕ) : Type 0 where
  pub dest : (r : ℕ) → r < count → d + r * w + q + 16 ≤ size
  pub second : m + q + 16 ≤ size
  pub short : size ≤ 8192

-- registers of w bytes from d on, and the bytes that are in the segment at q of none
module _ (w d count q : ℕ) (fits : q + 16 ≤ w) where
  -- byte j of register r, before the segment and after it
  beside-before : (r j : ℕ) → j < q → Beside (d + q) w count (d + r * w + j)
  beside-before r j l s i h k e = cases (ltb s r)
      (λ t. omega (arith, mul-le-mul_right w (ltb-true s r t)))
      (λ t. omega (arith, mul-le-mul_right w (ltb-false s r t)))

  beside-after : (r j : ℕ) → q + 16 ≤ j → j < w → Beside (d + q) w count (d + r * w + j)
  beside-after r j l u s i h k e = cases (ltb r s)
      (λ t. omega (arith, mul-le-mul_right w (ltb-true r s t)))
      (λ t. omega (arith, mul-le-mul_right w (ltb-false r s t)))

  beside-low : (x : ℕ) → x < d → Beside (d + q) w count x
  beside-low x l s i h k e = omega arith

  beside-high : (x : ℕ) → d + count * w ≤ x → Beside (d + q) w count x
  beside-high x l s i h k e = omega (arith, mul-le-mul_right w h)

-- a register at m of which byte j lies in the group is one of it
standing : (w d m count j : ℕ) → d % w ≡ 0 → m % w ≡ 0 → j < w → d ≤ m + j → m + j < d + count * w → (m / w - d / w < count) × (d + (m / w - d / w) * w ≡ m)
standing w d m count j at-d at-m l low high =
    (omega (arith, from, to), omega (arith, d-is, m-is, add-mul (d / w) (m / w - d / w) w, ap (λ n. n * w) sum))
  where
    d-is : d / w * w ≡ d
    d-is = omega (arith, div-add-mod' d w)

    m-is : m / w * w ≡ m
    m-is = omega (arith, div-add-mod' m w)

    from : d / w < m / w + 1
    from = lt_of_mul-lt-mul_right w (omega (arith, d-is, m-is, add-mul (m / w) 1 w))

    to : m / w < d / w + count
    to = lt_of_mul-lt-mul_right w (omega (arith, d-is, m-is, add-mul (d / w) count w))

    sum : d / w + (m / w - d / w) ≡ m / w
    sum = omega (arith, from)

module _ (L count : ℕ) (rule : Bytes → Bytes → Bytes) (by : BySegment rule) (d m : ℕ) (f : List ℕ) (lying : GroupLying L f count d m) where
  held : Held L f
  held = lying.held

  -- its registers, which are no shorter than a segment, lie in a short file
  pub group-wide : 16 ≤ L / 8
  group-wide = let k = (legal-exact L).0 held.ok in omega (arith, k.whole, k.least)

  pub group-short : d + count * (L / 8) ≤ 8192
  group-short = omega (arith, lying.group, ((legal-exact L).0 held.ok).most)

  pub group-starts : Grouping L count rule d m f f 0
  group-starts = record {
    aligned = refl;
    bound = omega arith;
    sized = refl;
    worked = λ r j h l. absurd (omega arith);
    waiting = λ r j h l k. refl;
    low = λ x h. refl;
    high = λ x h. refl;
  }

  module _ (g : List ℕ) (q : ℕ) (i : Grouping L count rule d m f g q) where
    pub group-ends : L / 8 ≤ q → GroupSwept L count rule f d m g
    group-ends h = record { sized = i.sized; inside = λ r j l k. i.worked r j l (omega arith); low = i.low; high = i.high }

    module _ (more : q < L / 8) where
      pub group-within : q + 16 ≤ L / 8
      group-within = segment-within L q held.ok i.aligned more

      pub group-room : GroupIn (length g) count (L / 8) d m q
      group-room =
          let most = ((legal-exact L).0 held.ok).most in
          let size : length g ≡ 4 * L = i.sized ∙ held.sized in
          record {
            dest = λ r h. omega (arith, lying.group, group-within, mul-le-mul_right (L / 8) h);
            second = omega (arith, lying.second, group-within);
            short = omega arith;
          }

      -- the segment at byte q of the register at m is still as it was, also where it is one of the group
      still : (j : ℕ) → q ≤ j → j < L / 8 → get_or g (m + j) 0 ≡ get_or f (m + j) 0
      still j h l = cases (ltb (m + j) d)
          (λ e. i.low (m + j) (ltb-true (m + j) d e))
          (λ e. cases (ltb (m + j) (d + count * (L / 8)))
          (λ u. in_group (ltb-false (m + j) d e) (ltb-true (m + j) (d + count * (L / 8)) u))
          (λ u. i.high (m + j) (ltb-false (m + j) (d + count * (L / 8)) u)))
        where
          in_group : d ≤ m + j → m + j < d + count * (L / 8) → get_or g (m + j) 0 ≡ get_or f (m + j) 0
          in_group e u =
              let s = standing (L / 8) d m count j lying.group_start lying.second_start l e u in
              subst (λ n. get_or g (n + j) 0 ≡ get_or f (n + j) 0) s.1 (i.waiting (m / (L / 8) - d / (L / 8)) j s.0 h l)

      -- byte j of the segment at q, worked of the sources as they were
      made : (after : List ℕ) → GroupStored rule g (d + q) (m + q) (L / 8) count after → (r j : ℕ) → r < count → q ≤ j → j < q + 16 →
          get_or after (d + r * (L / 8) + j) 0 ≡ rule (bytes_from f (d + r * (L / 8))) (bytes_from f m) j
      unfolding Near window
      made after stored r j h k l =
          let w = L / 8 in
          let whole : 16 * (q / 16) ≡ q = omega (arith, i.aligned) in
          let place : d + r * w + j ≡ d + q + r * w + (j - q) = omega arith in
          let at_j : 16 * (q / 16) + (j - q) ≡ j = omega (arith, i.aligned) in
          ap (λ n. get_or after n 0) place
          ∙ stored.inside r (j - q) h (omega arith)
          ∙ by.local _ _ (window (q / 16) (bytes_from f (d + r * w))) (window (q / 16) (bytes_from f m))
          (λ b e.
          let here : d + q + r * w + b ≡ d + r * w + (q + b) = omega arith in
          let there : d + r * w + (q + b) ≡ d + r * w + (16 * (q / 16) + b) = omega (arith, whole) in
          ap (λ n. get_or g n 0) here ∙ i.waiting r (q + b) h (omega arith) (omega (arith, group-within)) ∙ ap (λ n. get_or f n 0) there)
          (λ b e.
          let here : m + q + b ≡ m + (q + b) = omega arith in
          let there : m + (q + b) ≡ m + (16 * (q / 16) + b) = omega (arith, whole) in
          ap (λ n. get_or g n 0) here ∙ still (q + b) (omega arith) (omega (arith, group-within)) ∙ ap (λ n. get_or f n 0) there)
          (j - q) (omega arith)
          ∙ sym (by.shift (q / 16) (bytes_from f (d + r * w)) (bytes_from f m) (j - q))
          ∙ ap (rule (bytes_from f (d + r * w)) (bytes_from f m)) at_j

      pub group-on : (after : List ℕ) → GroupStored rule g (d + q) (m + q) (L / 8) count after → Grouping L count rule d m f after (q + 16)
      group-on after stored = record {
        aligned = omega (arith, i.aligned);
        bound = group-within;
        sized = stored.size ∙ i.sized;
        worked = λ r j h l. cases (ltb j q)
            (λ e. stored.beside _ (beside-before (L / 8) d count q group-within r j (ltb-true j q e)) ∙ i.worked r j h (ltb-true j q e))
            (λ e. made after stored r j h (ltb-false j q e) l);
        waiting = λ r j h l k. stored.beside _ (beside-after (L / 8) d count q group-within r j l k) ∙ i.waiting r j h (omega arith) k;
        low = λ x h. stored.beside x (beside-low (L / 8) d count q group-within x h) ∙ i.low x h;
        high = λ x h. stored.beside x (beside-high (L / 8) d count q group-within x h) ∙ i.high x h;
      }
