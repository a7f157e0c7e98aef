-- The array holds the longest file.
use mathlib.Core.Path.{◌≡◌, sym, ◌∙◌}
use native.Mathlib.Omega.{arith}
use Prim.Native.Nat.{◌*◌, ◌%◌}
use lib.Seq.{length-take-le}
use Rattle.isa.proofs.File.{legal-exact}
use Rattle.replay.proofs.body.replayed.Goals as goal

pub slice_bounds-image-end : goal.slice_bounds-image-end
slice_bounds-image-end c = omega (arith, ((legal-exact c.args.l).0 c.requires.ok).most)

pub slice_bounds-replayed_on-end : goal.slice_bounds-replayed_on-end
slice_bounds-replayed_on-end c = sym (length-take-le _ _ (omega (arith, ((legal-exact c.args.l).0 c.requires.ok).most)))

pub replayed_on-requires : goal.replayed_on-requires
replayed_on-requires c = let short = ((legal-exact c.args.l).0 c.requires.ok).most in
    let size : c.args.l * 4 % 18446744073709551616 ≡ 4 * c.args.l = omega (arith, short) in
    record { image_len = (length-take-le _ _ (omega (arith, short))) ∙ size; parts = c.requires }
