-- Results lane by lane. `lane-wise-segment`: from lanes to the definition by bytes. `lane-of-wise`: lane e of what the definition by bytes writes is the result's,
-- kept modulo 2^N; `lane-sqdmulh`: of SQDMULH it is the doubled product's upper half itself, since it is clamped. `group-lane`, `group-kept`:
-- what SQDMULH leaves in each register of its group, and in every other. Assumes nothing.
use mathlib.Core.Path.{◌≡◌, ap, ap₂, ◌∙◌}
use mathlib.Core.Bool.{true, false}
use mathlib.Core.List.{List}
use Prim.Native.Nat.{ℕ, ◌/◌, ◌%◌}
use lib.IntN.{ℤ, ◌*ℤ◌}
use Rattle.integer.specs.Number.{byte_of, wrap, upper_half}
use Rattle.integer.specs.Lane.{doubled_high}
use Rattle.integer.proofs.Wrap.{wrap-clamp}
use Rattle.isa.specs.declared.types.MulGroup.{MulGroup}
use Rattle.isa.specs.Register.{Bytes, Regs, Size, bytes, bits, element, group_count}
use Rattle.isa.specs.Meaning.{lane_wise, in_group, Sqdmulh, writes, written, step}
use Rattle.isa.specs.Segment.{bytes_of, LaneWise}
use Rattle.isa.specs.Stage.{LanesOf, Paired, BytesOfLanes}
use Rattle.isa.proofs.Local.{lane-small}
use Rattle.isa.proofs.Progress.{step-writes, step_keeps}
use Rattle.isa.proofs.Lane.{element-of, lane-part, lane_place, some_bits}

-- x and y are the lanes of c and m, out the results, and s their bytes
pub lane-wise-segment : (z : Size) (f : ℤ → ℤ → ℤ) {c m s : List ℕ} {x y out : List ℤ} → LanesOf z x (bytes_of c) → LanesOf z y (bytes_of m) →
    Paired z f out x y → BytesOfLanes z s out → LaneWise z f s c m
unfolding lane_wise
lane-wise-segment z f hx hy ho hs = record {
  sized = hs.sized;
  at = λ i l.
      let e = i / bytes z in
      let h = lane-small z i l in
      hs.at i l ∙ ap (λ (v : ℤ). byte_of (bits z) v (i % bytes z)) (ho.at e h ∙ ap₂ f (hx.at e h) (hy.at e h));
}

module _ (z : Size) (c m : Bytes) (e : ℕ) where
  pub lane-of-wise : (result : ℤ → ℤ → ℤ) → element z (lane_wise z result c m) e ≡ wrap (bits z) (result (element z c e) (element z m e))
  unfolding lane_wise
  lane-of-wise result = element-of z _ e _ (λ i h. rw (lane-part e i z h, lane_place e i z h))

  pub lane-sqdmulh : element z (lane_wise z (doubled_high (bits z)) c m) e ≡ doubled_high (bits z) (element z c e) (element z m e)
  unfolding doubled_high
  lane-sqdmulh = lane-of-wise (doubled_high (bits z)) ∙ wrap-clamp (bits z) (some_bits z) (upper_half (bits z) (element z c e *ℤ element z m e))

-- ---- SQDMULH on a group

module _ (a : MulGroup) (regs : Regs) (r : ℕ) where
  -- each lane of a register of the group, of that register and of the second source as they were
  pub group-lane : in_group a.zdn (group_count a.group) r ≡ true → (e : ℕ) →
      element a.size (step (Sqdmulh a) regs r) e ≡ doubled_high (bits a.size) (element a.size (regs r) e) (element a.size (regs a.zm) e)
  unfolding writes written
  group-lane h e = ap (λ (b : Bytes). element a.size b e) (λ i j. step-writes (Sqdmulh a) regs r j h i) ∙ lane-sqdmulh a.size (regs r) (regs a.zm) e

  -- every other register stays
  pub group-kept : in_group a.zdn (group_count a.group) r ≡ false → (j : ℕ) → step (Sqdmulh a) regs r j ≡ regs r j
  unfolding writes
  group-kept h j = step_keeps (Sqdmulh a) regs r j h
