-- `kernel::lane64::I64Lane2::round` meets its contract: the exact product, its sum with c in halves, and the clamp.
use Rattle.std.proofs.Common.{◌≡◌, ◌^◌, ◌*ℤ◌, ap, ◌∙◌, to_z-of_z, w64, rules}
use lib.Signed.{nat_abs-le}
use Rattle.integer.specs.Number.{clamp, signed_by}
use Rattle.integer.specs.Lane.{saturated}
use Rattle.integer.proofs.Difference.{product-abs}
use Rattle.integer.proofs.Word.{kept}
use Rattle.kernel.specs.Wide.{wide_of}
use Rattle.kernel.proofs.TwoWords.{abs-signed}
use Rattle.kernel.proofs.Sum64.{sum_is, sum-positive, sum-negative}
use Rattle.isa.specs.Register.{bits, bytes}
use Rattle.kernel.proofs.lane64.I64Lane2.round.Goals as goal

pub rounding-h-requires : goal.rounding-h-requires
rounding-h-requires c =
    let exact : wide_of c.product-p.result.hi c.product-p.result.lo ≡ signed_by c.args.minus (c.args.a *ℤ c.args.b) = simp (to_z-of_z c.ranges.a, to_z-of_z c.ranges.b) at c.product-p.ensures in
    simp (kept w64 c.product-p.result.hi c.struct_told-1.given.0.1)
    (record { size = rw (exact, abs-signed c.args.minus (c.args.a *ℤ c.args.b)) (product-abs c.args.a c.args.b {A = 2 ^ 63} {B = 2 ^ 63} (nat_abs-le c.args.a c.ranges.a.sfits) (nat_abs-le c.args.b c.ranges.b.sfits)) })

pub narrow-requires : goal.narrow-requires
narrow-requires c = let e = simp (to_z-of_z c.ranges.c, kept w64 c.product-p.result.hi c.struct_told-1.given.0.1) at c.rounding-h.ensures.1 in
    simp (kept w64 c.rounding-h.result.high c.struct_told-2-1.given.0.1, kept w64 c.product-p.result.hi c.struct_told-1.given.0.1)
    (record {
      bit = c.rounding-h.ensures.0;
      positive = (λ h. rw e (sum-positive c.args.c c.product-p.result.hi c.product-p.result.lo c.ranges.c.sfits h));
      negative = (λ h. rw e (sum-negative c.args.c c.product-p.result.hi c.product-p.result.lo c.ranges.c.sfits (search rules) h));
    })

pub returns : goal.returns
unfolding saturated bits bytes
returns c =
    let exact : wide_of c.product-p.result.hi c.product-p.result.lo ≡ signed_by c.args.minus (c.args.a *ℤ c.args.b) = simp (to_z-of_z c.ranges.a, to_z-of_z c.ranges.b) at c.product-p.ensures in
    let e = simp (exact) at (simp (to_z-of_z c.ranges.c, kept w64 c.product-p.result.hi c.struct_told-1.given.0.1) at c.rounding-h.ensures.1) in
    kept w64 c.narrow.result c.narrow.type_inv ∙ c.narrow.ensures
    ∙ ap (clamp 64) (simp (kept w64 c.rounding-h.result.high c.struct_told-2-1.given.0.1) (e ∙ sum_is c.args.c (signed_by c.args.minus (c.args.a *ℤ c.args.b))))
