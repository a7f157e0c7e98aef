-- The segments at one place of each register of a group. `worked-none`, `worked_more`, `worked-by`: worked one register after the other. `filed-none`, `filed_more`, `filed-at`: stored so.
-- `group_stored`: worked and then stored, they are what a group's loop wants. `spread-in`, `spread-next`: where one lies, and the next. Assumes nothing.
use mathlib.Core.Path.{◌≡◌, refl, sym, ap, subst, ◌∙◌}
use Prim.Native.Nat.{ℕ, ◌+◌, ◌-◌, ◌*◌, ◌/◌, ◌%◌, ◌<◌, ◌≤◌}
use native.Mathlib.Omega.{arith}
use native.Mathlib.Nat.{mul-le-mul_right, mul-le-mul_left, add-mul}
use mathlib.Core.Logic.{◌≢◌}
use mathlib.Core.List.{List, []}
use lib.ListN.{length, get_or, set}
use lib.Seq.{get_or-set_same, get_or-set_other}
use lib.Dec.{ltb, eqb}
use borrow.Author.Tests.{ltb-true, ltb-false, eqb-true, eqb-false}
use Rattle.isa.specs.Register.{Bytes}
use Rattle.isa.specs.Segment.{bytes_of}
use Rattle.isa.proofs.File.{cases, legal-exact}
use Rattle.isa.proofs.Local.{Near}
use Rattle.regfile.specs.Bytes.{Loaded, Stored}
use Rattle.regfile.specs.Sweep.{bytes_from}
use Rattle.regfile.specs.Group.{GroupLying, GroupSwept}
use Rattle.regfile.proofs.Sweep.{near}
use Rattle.regfile.proofs.Group.{BySegment, GroupStored, Grouping, group-wide, group-short, group-room, group-on, group-ends}
use Rattle.vector.specs.Spread.{Spread, Worked, Filed}

same-near : (z : List ℕ) → Near (bytes_of z) (bytes_of z)
unfolding Near
same-near z i h = refl

same-from : (file : List ℕ) (at : ℕ) → Near (bytes_from file at) (bytes_from file at)
unfolding Near
same-from file at i h = refl

module _ (at w : ℕ) where
  pub next : (r place : ℕ) → place ≡ at + r * w → place + w ≡ at + (r + 1) * w
  next r place here = omega (arith, here, add-mul r 1 w)

  module _ (size count : ℕ) (spread : Spread size at w count) (r place : ℕ) (here : place ≡ at + r * w) (more : r < count) where
    pub spread-in : place + 16 ≤ size
    spread-in = omega (arith, here, spread.room r more)

    pub spread-next : place + w < 16384
    spread-next = omega (arith, next r place here, spread.short, mul-le-mul_right w more)

  module _ (rule : Bytes → Bytes → Bytes) (file z : List ℕ) where
    pub worked-none : (new : List (List ℕ)) → Worked rule file at w 0 z new
    worked-none new = record { makes = λ r i h l. absurd (omega arith) }

    pub worked_more : BySegment rule → (r place : ℕ) (new : List (List ℕ)) (x made : List ℕ) → r < length new → place ≡ at + r * w → Loaded file place 16 x →
        ((i : ℕ) → i < 16 → bytes_of made i ≡ rule (bytes_of x) (bytes_of z) i) → Worked rule file at w r z new → Worked rule file at w (r + 1) z (set new r made)
    worked_more by r place new x made inside here loaded result so_far = record {
      makes = λ s i h l. cases (eqb s r)
          (λ e.
          let same = eqb-true s r e in
          let from : place ≡ at + s * w = omega (arith, here, ap (λ n. n * w) same) in
          subst (λ n. bytes_of (get_or (set new r made) n []) i ≡ bytes_of made i) (sym same) (ap (λ s. bytes_of s i) (get_or-set_same new r made [] inside))
          ∙ result i l
          ∙ subst (λ n. rule (bytes_of x) (bytes_of z) i ≡ rule (bytes_from file n) (bytes_of z) i) from
          (by.local _ _ _ _ (near file place x loaded) (same-near z) i l))
          (λ e.
          let other : s ≢ r = eqb-false s r e in
          ap (λ s. bytes_of s i) (get_or-set_other new r s made [] other) ∙ so_far.makes s i (omega arith) l);
    }

    -- the same with any second source that is z
    pub worked-by : BySegment rule → (r place : ℕ) (new : List (List ℕ)) (x y made : List ℕ) → r < length new → place ≡ at + r * w → Loaded file place 16 x → y ≡ z →
        ((i : ℕ) → i < 16 → bytes_of made i ≡ rule (bytes_of x) (bytes_of y) i) → Worked rule file at w r z new → Worked rule file at w (r + 1) z (set new r made)
    worked-by by r place new x y made inside here loaded same result =
        worked_more by r place new x made inside here loaded (subst (λ s. (i : ℕ) → i < 16 → bytes_of made i ≡ rule (bytes_of x) (bytes_of s) i) same result)

  module _ (file : List ℕ) (new : List (List ℕ)) where
    pub filed-none : Filed file at w 0 new file
    filed-none = record { size = refl; inside = λ r i h l. absurd (omega arith); beside = λ x h. refl }

    pub filed_more : 16 ≤ w → (r place : ℕ) (mid after : List ℕ) → place ≡ at + r * w → Stored mid place 16 (get_or new r []) after → Filed file at w r new mid →
        Filed file at w (r + 1) new after
    filed_more wide r place mid after here stored so_far = record {
      size = stored.size ∙ so_far.size;
      inside = λ s i h l. cases (ltb s r)
          (λ e.
          let below = ltb-true s r e in
          stored.low (at + s * w + i) (omega (arith, mul-le-mul_right w below, add-mul s 1 w, here)) ∙ so_far.inside s i below l)
          (λ e.
          let last : s ≡ r = omega (arith, ltb-false s r e) in
          subst (λ n. get_or after (at + n * w + i) 0 ≡ bytes_of (get_or new n []) i) (sym last)
          (subst (λ n. get_or after (n + i) 0 ≡ bytes_of (get_or new r []) i) here (stored.inside i l)));
      beside = λ x b. cases (ltb x place)
          (λ e. stored.low x (ltb-true x place e) ∙ so_far.beside x (λ s i h l. b s i (omega arith) l))
          (λ e. cases (ltb x (place + 16))
          (λ u. absurd (b r (x - place) (omega arith) (omega (arith, ltb-true x (place + 16) u)) (omega (arith, ltb-false x place e, here))))
          (λ u. stored.high x (ltb-false x (place + 16) u) ∙ so_far.beside x (λ s i h l. b s i (omega arith) l)));
    }

    -- the same of a segment at any number that is r
    pub filed-at : 16 ≤ w → (r k place : ℕ) (mid after : List ℕ) → k ≡ r → place ≡ at + r * w → Stored mid place 16 (get_or new k []) after → Filed file at w r new mid →
        Filed file at w (r + 1) new after
    filed-at wide r k place mid after same here stored = filed_more wide r place mid after here (subst (λ n. Stored mid place 16 (get_or new n []) after) same stored)

    -- the segment at m has been read from the file as z
    pub group_stored : {rule : Bytes → Bytes → Bytes} → BySegment rule → (count m : ℕ) (z after : List ℕ) → Loaded file m 16 z → Worked rule file at w count z new →
        Filed file at w count new after → GroupStored rule file at m w count after
    group_stored by count m z after loaded worked filed = record {
      size = filed.size;
      inside = λ r i h l. filed.inside r i h l ∙ worked.makes r i h l ∙ by.local _ _ _ _ (same-from file (at + r * w)) (near file m z loaded) i l;
      beside = filed.beside;
    }

-- ---- the loop over the segments, by their number

module _ (L count : ℕ) (rule : Bytes → Bytes → Bytes) (by : BySegment rule) (d m : ℕ) (f : List ℕ) (lying : GroupLying L f count d m)
    (g : List ℕ) (k : ℕ) (i : Grouping L count rule d m f g (16 * k)) where
  whole : L % 128 ≡ 0
  whole = ((legal-exact L).0 lying.held.ok).whole

  pub groups-end : L / 128 ≤ k → GroupSwept L count rule f d m g
  groups-end h = group-ends L count rule by d m f lying g (16 * k) i (omega (arith, whole))

  module _ (q : ℕ) (here : q ≡ 16 * k) (more : k < L / 128) where
    at_q : Grouping L count rule d m f g q
    at_q = subst (Grouping L count rule d m f g) (sym here) i

    within : q < L / 8
    within = omega arith

    pub group_spread : (count * 16 < 9223372036854775808) × Spread (length g) (d + q) (L / 8) count
    group_spread =
        let room = group-room L count rule by d m f lying g q at_q within in
        let wide = group-wide L count rule by d m f lying in
        let short = group-short L count rule by d m f lying in
        let most = ((legal-exact L).0 lying.held.ok).most in
        let at_most : count * 16 ≤ count * (L / 8) = mul-le-mul_left count wide in
        (omega arith, record { apart = wide; room = λ r h. omega (arith, room.dest r h); short = omega arith })

    pub group_next : (z after : List ℕ) (new : List (List ℕ)) → Loaded g (m + q) 16 z → Worked rule g (d + q) (L / 8) count z new → Filed g (d + q) (L / 8) count new after →
        Grouping L count rule d m f after (16 * (k + 1))
    group_next z after new loaded worked filed =
        let next : q + 16 ≡ 16 * (k + 1) = omega arith in
        subst (Grouping L count rule d m f after) next
        (group-on L count rule by d m f lying g q at_q within after (group_stored (d + q) (L / 8) g new by count (m + q) z after loaded worked filed))
