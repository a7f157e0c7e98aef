-- `kernel::product64::with_sign` meets its contract: both words are chosen by the sign.
use Rattle.std.proofs.Common.{◌≡◌, ℕ, ◌^◌, ◌<◌, Bool, true, false, cond, ℤ, pos, refl, ap, ◌∙◌, ap₂, arith, w64, to_z, of_z}
use lib.Signed.{mag}
use mir.Facts.{to_z_pos}
use Rattle.integer.proofs.Word.{kept}
use Rattle.kernel.specs.Wide.{wide_of}
use Rattle.kernel.proofs.product64.with_sign.Goals as goal

chosen : (t : Bool) (a b : ℤ) (x y : ℕ) → wide_of (cond t a b) (cond t x y) ≡ cond t (wide_of a x) (wide_of b y)
chosen true a b x y = refl
chosen false a b x y = refl

kept-first : (z : ℤ) → mag z < 2 ^ 63 → (x : ℕ) → wide_of (to_z w64 (of_z w64 z)) x ≡ wide_of z x
kept-first z h x = ap (λ (v : ℤ). wide_of v x) (kept w64 z h)

pub returns : goal.returns
returns c = let h : to_z w64 c.args.hi ≡ pos c.args.hi = to_z_pos w64 (omega (arith, c.requires)) in
    let e = simp (kept w64 c.negated-n.result.hi c.struct_told-1.given.0.1, h) at c.choose_long.ensures in
    kept-first c.choose_long.result c.choose_long.type_inv c.choose_word.result
    ∙ ap₂ wide_of e c.choose_word.ensures ∙ chosen c.args.negative c.negated-n.result.hi (pos c.args.hi) c.negated-n.result.lo c.args.lo
    ∙ ap (λ (z : ℤ). cond c.args.negative z (wide_of (pos c.args.hi) c.args.lo)) c.negated-n.ensures
