-- The loop over the segments of three registers, by their number. `segment-on`: one segment more. `segments-end`: all of them. Assumes nothing.
use mathlib.Core.Path.{◌≡◌, sym, subst}
use Prim.Native.Nat.{ℕ, ◌+◌, ◌*◌, ◌/◌, ◌<◌, ◌≤◌}
use native.Mathlib.Omega.{arith}
use mathlib.Core.List.{List}
use Rattle.isa.specs.Segment.{bytes_of}
use Rattle.isa.specs.Sources.{Rule}
use Rattle.isa.proofs.File.{legal-exact}
use Rattle.regfile.specs.Bytes.{Loaded, Stored}
use Rattle.regfile.specs.Sweep.{Lying, Swept}
use Rattle.regfile.proofs.Sweep.{Sweeping, sweep-on, sweep-ends}

module _ (L : ℕ) (rule : Rule) (d n m : ℕ) (f : List ℕ) (lying : Lying L f d n m) (g : List ℕ) (k : ℕ) (i : Sweeping L rule d n m f g (16 * k)) where
  pub segments-end : L / 128 ≤ k → Swept L rule f d n m g
  segments-end h =
      let whole = ((legal-exact L).0 lying.held.ok).whole in
      sweep-ends L rule d n m f lying g (16 * k) i (omega (arith, whole))

  pub segment-on : (q : ℕ) → q ≡ 16 * k → k < L / 128 → (x y z new after : List ℕ) → Loaded g (d + q) 16 x → Loaded g (n + q) 16 y → Loaded g (m + q) 16 z →
      ((j : ℕ) → j < 16 → bytes_of new j ≡ rule (bytes_of x) (bytes_of y) (bytes_of z) j) → Stored g (d + q) 16 new after →
      Sweeping L rule d n m f after (16 * (k + 1))
  segment-on q here more x y z new after at-d at_n at-m result stored =
      let next : q + 16 ≡ 16 * (k + 1) = omega arith in
      let i : Sweeping L rule d n m f g q = subst (Sweeping L rule d n m f g) (sym here) i in
      subst (Sweeping L rule d n m f after) next (sweep-on L rule d n m f lying g q i (omega arith) x y z new after at-d at_n at-m result stored)
