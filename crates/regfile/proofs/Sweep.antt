-- Operations on the lent file. `sweep-starts`, `sweep-on`, `sweep-ends`: the loop over the segments of a register, for a rule. `sweep-room`:
-- its segments lie in the file, which is short. `clear-starts`, `clear_room`, `clear-on`, `clear-ends`: the loop over the segments above the first.
-- `touched`: the first segment of an operation by element. `touched-as`: what was matched. `touched-above`: the whole of its register. Assumes nothing.
use mathlib.Core.Path.{◌≡◌, refl, sym, ap, subst, ◌∙◌}
use Prim.Native.Nat.{ℕ, ◌+◌, ◌*◌, ◌/◌, ◌%◌, ◌<◌, ◌≤◌}
use native.Mathlib.Omega.{arith}
use mathlib.Core.Bool.{Bool, true}
use mathlib.Core.List.{List}
use lib.ListN.{length, get_or}
use lib.IntN.{ℤ}
use lib.Dec.{ltb}
use borrow.Author.Tests.{ltb-true, ltb-false}
use Rattle.isa.specs.declared.types.Size.{Size}
use Rattle.isa.specs.declared.types.Form.{Form}
use Rattle.isa.specs.Register.{Bytes, pairs, window, segment, element}
use Rattle.isa.specs.declared.types.Op.{Op}
use Rattle.isa.specs.Meaning.{written, lane_bytes, lane_clamps, above}
use Rattle.isa.specs.File.{legal, byte_at}
use Rattle.isa.specs.Segment.{bytes_of, ElementsBy}
use Rattle.isa.specs.Sources.{Rule, dest_of, first_of, second_of, made}
use Rattle.isa.proofs.File.{cases, legal-exact}
use Rattle.isa.proofs.Local.{Near, lane-local, clamps-local, lane_above}
use Rattle.isa.proofs.Progress.{progress, progress_start, progress-on, progress-end}
use Rattle.isa.proofs.Fits.{valid-fits}
use Rattle.isa.proofs.Sources.{made_of, valid-below, made-local}
use Rattle.regfile.specs.Bytes.{Loaded, Stored, Cleared}
use Rattle.regfile.specs.Sweep.{Held, Lying, By, Swept, bytes_from, Touched}
use Rattle.regfile.proofs.Bytes.{clear_none, clear-more}

-- what is loaded is near the bytes from its place on
pub near : (file : List ℕ) (at : ℕ) (x : List ℕ) → Loaded file at 16 x → Near (bytes_of x) (bytes_from file at)
unfolding Near
near file at x l i h = l.read i h

-- ---- segment k of the registers, in the file

-- the bytes from a place on are those of the register's segment
from-segment : (L k : ℕ) (g : List ℕ) (r at : ℕ) → at ≡ r * (L / 8) + 16 * k → bytes_from g at ≡ segment k (byte_at L g) r
unfolding segment window byte_at
from-segment L k g r at e = λ t i. get_or g (place i t) 0
  where
    place : (i : ℕ) → at + i ≡ r * (L / 8) + (16 * k + i)
    place i = omega (arith, e)

-- what an operation makes of segments of the file is what it writes there
made-written : (L : ℕ) (op : Op) (k : ℕ) (g : List ℕ) (d n m : ℕ) →
    d ≡ dest_of op * (L / 8) + 16 * k → n ≡ first_of op * (L / 8) + 16 * k → m ≡ second_of op * (L / 8) + 16 * k →
    (i : ℕ) → made op (bytes_from g d) (bytes_from g n) (bytes_from g m) i ≡ written op (segment k (byte_at L g)) (dest_of op) i
made-written L op k g d n m dest first second =
    made_of op (segment k (byte_at L g)) (from-segment L k g (dest_of op) d dest) (from-segment L k g (first_of op) n first) (from-segment L k g (second_of op) m second)

-- ---- the loop over the segments

-- a segment starts at q, so it ends within the register
pub segment-within : (L q : ℕ) → legal L ≡ true → q % 16 ≡ 0 → q < L / 8 → q + 16 ≤ L / 8
segment-within L q ok aligned more = let whole = ((legal-exact L).0 ok).whole in omega (arith, aligned)

-- three segments of a short list
pub record InFile (size d n m : ℕ) : Type 0 where
  pub dest : d + 16 ≤ size
  pub first : n + 16 ≤ size
  pub second : m + 16 ≤ size
  pub short : size ≤ 8192

-- the segments before byte q have been worked
pub record Sweeping (L : ℕ) (rule : Rule) (d n m : ℕ) (f g : List ℕ) (q : ℕ) : Type 0 where
  pub aligned : q % 16 ≡ 0
  pub bound : q ≤ L / 8
  pub sized : length g ≡ length f
  pub so_far : (op : Op) → By L rule d n m op → g ≡ progress L (q / 16) op f

module _ (L : ℕ) (rule : Rule) (d n m : ℕ) (f : List ℕ) (lying : Lying L f d n m) where
  held : Held L f
  held = lying.held

  pub sweep-starts : Sweeping L rule d n m f f 0
  sweep-starts = record {
    aligned = refl;
    bound = omega arith;
    sized = refl;
    so_far = λ op w. progress_start L held.ok op f held.sized;
  }

  module _ (g : List ℕ) (q : ℕ) (i : Sweeping L rule d n m f g q) where
    pub sweep-ends : L / 8 ≤ q → Swept L rule f d n m g
    sweep-ends h =
        let whole = ((legal-exact L).0 held.ok).whole in
        let last : q / 16 ≡ L / 128 = omega (arith, i.bound) in
        record { left = λ op w. i.so_far op w ∙ ap (λ k. progress L k op f) last ∙ progress-end L held.ok op f held.sized }

    module _ (more : q < L / 8) where
      step-within : q + 16 ≤ L / 8
      step-within = segment-within L q held.ok i.aligned more

      pub sweep-room : InFile (length g) (d + q) (n + q) (m + q)
      sweep-room =
          let most = ((legal-exact L).0 held.ok).most in
          let size : length g ≡ 4 * L = i.sized ∙ held.sized in
          record {
            dest = omega (arith, lying.dest, step-within);
            first = omega (arith, lying.first, step-within);
            second = omega (arith, lying.second, step-within);
            short = omega arith;
          }

      pub sweep-on : (x y z new after : List ℕ) → Loaded g (d + q) 16 x → Loaded g (n + q) 16 y → Loaded g (m + q) 16 z →
          ((j : ℕ) → j < 16 → bytes_of new j ≡ rule (bytes_of x) (bytes_of y) (bytes_of z) j) → Stored g (d + q) 16 new after →
          Sweeping L rule d n m f after (q + 16)
      sweep-on x y z new after at-d at_n at-m result stored = record {
        aligned = omega (arith, i.aligned);
        bound = step-within;
        sized = stored.size ∙ i.sized;
        so_far = on;
      }
        where
          on : (op : Op) → By L rule d n m op → after ≡ progress L ((q + 16) / 16) op f
          on op w =
              let whole = ((legal-exact L).0 held.ok).whole in
              let at-q : 16 * (q / 16) ≡ q = omega (arith, i.aligned) in
              let inner : q / 16 < L / 128 = omega (arith, i.aligned) in
              let next : q / 16 + 1 ≡ (q + 16) / 16 = omega arith in
              let dest : d + q ≡ dest_of op * (L / 8) + 16 * (q / 16) = omega (arith, w.placed.dest, at-q) in
              let first : n + q ≡ first_of op * (L / 8) + 16 * (q / 16) = omega (arith, w.placed.first, at-q) in
              let second : m + q ≡ second_of op * (L / 8) + 16 * (q / 16) = omega (arith, w.placed.second, at-q) in
              let fits = valid-fits op w.valid in
              let inside : (j : ℕ) → j < 16 → get_or after (dest_of op * (L / 8) + 16 * (q / 16) + j) 0 ≡ written op (segment (q / 16) (byte_at L g)) (dest_of op) j =
              λ j h. ap (λ x. get_or after x 0) (omega (arith, dest)) ∙ stored.inside j h ∙ result j h ∙ sym (w.same (bytes_of x) (bytes_of y) (bytes_of z) j)
              ∙ made-local _ _ _ _ _ _ (near g (d + q) x at-d) (near g (n + q) y at_n) (near g (m + q) z at-m) op fits j h
              ∙ made-written L op (q / 16) g (d + q) (n + q) (m + q) dest first second j in
              progress-on L held.ok op f held.sized (q / 16) inner fits w.sve (dest_of op) w.only g after (i.so_far op w)
              (valid-below op w.valid).dest (stored.size ∙ i.sized ∙ held.sized) inside
              (λ x h. stored.low x (omega (arith, dest)))
              (λ x h. stored.high x (omega (arith, dest)))
              ∙ ap (λ k. progress L k op f) next

-- ---- the first segment

near_same : (b : Bytes) → Near b b
unfolding Near
near_same b i h = refl

-- what a kernel by element makes of two segments that are loaded and of the element b, stored
pub touched : (f : Form) (z : Size) (index : ℕ) (minus : Bool) → index < 2 * pairs z → (file : List ℕ) (d n m : ℕ) (x y : List ℕ) (b : ℤ) (new after : List ℕ) (any : Bool) →
    Loaded file d 16 x → Loaded file n 16 y → b ≡ element z (bytes_from file m) index → ElementsBy f z b minus new any x y → Stored file d 16 new after →
    Touched 16 (lane_bytes f z index minus) (lane_clamps f z index minus) file d n m after any
touched f z index minus small file d n m x y b new after any at-d at_n at-m by stored =
    let made = by.made (bytes_from file m) index (sym at-m) in
    let c = near file d x at-d in
    let a = near file n y at_n in
    let same = near_same (bytes_from file m) in
    record {
      sized = stored.size;
      inside = λ j h. stored.inside j h ∙ made.at j h ∙ lane-local z _ _ _ _ _ _ c a same f index small minus j h;
      low = stored.low;
      high = stored.high;
      flag = made.flag ∙ clamps-local z _ _ _ _ _ _ c a same f index small minus;
    }

-- a rule and a test for what was matched are those for it
pub touched-as : {A : Type 0} (count : ℕ) (rule : A → Rule) (test : A → Bytes → Bytes → Bytes → Bool) {x known : A} (file : List ℕ) (d n m : ℕ) (after : List ℕ) (clamped : Bool) →
    x ≡ known → Touched count (rule known) (test known) file d n m after clamped → Touched count (rule x) (test x) file d n m after clamped
touched-as count rule test file d n m after clamped e t = subst (λ x. Touched count (rule x) (test x) file d n m after clamped) (sym e) t

-- ---- the segments above it

-- those before byte q have been cleared
pub record Clearing (L d : ℕ) (f g : List ℕ) (q : ℕ) : Type 0 where
  pub aligned : q % 16 ≡ 0
  pub first : 16 ≤ q
  pub bound : q ≤ L / 8
  pub so_far : Cleared f (d + 16) (d + q) g

module _ (L d : ℕ) (f : List ℕ) (held : Held L f) where
  pub clear-starts : (q : ℕ) → q ≡ 16 → Clearing L d f f q
  clear-starts q e =
      let k = (legal-exact L).0 held.ok in
      record { aligned = omega arith; first = omega arith; bound = omega (arith, k.whole, k.least); so_far = subst (λ n. Cleared f (d + 16) (d + n) f) (sym e) (clear_none f (d + 16)) }

  module _ (g : List ℕ) (q : ℕ) (i : Clearing L d f g q) where
    pub clear-ends : L / 8 ≤ q → Cleared f (d + 16) (d + L / 8) g
    clear-ends h =
        let last : q ≡ L / 8 = omega (arith, i.bound) in
        subst (λ k. Cleared f (d + 16) (d + k) g) last i.so_far

    module _ (more : q < L / 8) where
      clear_within : q + 16 ≤ L / 8
      clear_within = segment-within L q held.ok i.aligned more

      pub clear_room : d + L / 8 ≤ 4 * L → (d + q + 16 ≤ length g) × (length g ≤ 8192)
      clear_room dest =
          let most = ((legal-exact L).0 held.ok).most in
          let size : length g ≡ 4 * L = i.so_far.size ∙ held.sized in
          (omega (arith, dest, clear_within), omega arith)

      pub clear-on : (zeros after : List ℕ) → ((j : ℕ) → get_or zeros j 0 ≡ 0) → Stored g (d + q) 16 zeros after → Clearing L d f after (q + 16)
      clear-on zeros after none stored =
          let next : d + q + 16 ≡ d + (q + 16) = omega arith in
          record {
            aligned = omega (arith, i.aligned);
            first = omega (arith, i.first);
            bound = clear_within;
            so_far = subst (λ k. Cleared f (d + 16) k after) next (clear-more f (d + 16) (d + q) 16 zeros g after (omega (arith, i.first)) i.so_far stored none);
          }

-- the first segment stored and those above it cleared
pub touched-above : (f : Form) (z : Size) (index : ℕ) (minus : Bool) (w : ℕ) → 16 ≤ w → (test : Bytes → Bytes → Bytes → Bool)
    (file : List ℕ) (d n m : ℕ) (mid after : List ℕ) (clamped : Bool) →
    Touched 16 (lane_bytes f z index minus) test file d n m mid clamped → Cleared mid (d + 16) (d + w) after →
    Touched w (lane_bytes f z index minus) test file d n m after clamped
unfolding above
touched-above f z index minus w some test file d n m mid after clamped t c = record {
  sized = c.size ∙ t.sized;
  inside = λ j h. cases (ltb j 16)
      (λ e. c.low (d + j) (omega (arith, ltb-true j 16 e)) ∙ t.inside j (ltb-true j 16 e))
      (λ e.
      let high : 16 ≤ j = ltb-false j 16 e in
      c.inside (d + j) (omega arith) (omega arith) ∙ sym (lane_above f z index minus _ _ _ j high));
  low = λ x h. c.low x (omega arith) ∙ t.low x h;
  high = λ x h. c.high x h ∙ t.high x (omega arith);
  flag = t.flag;
}
