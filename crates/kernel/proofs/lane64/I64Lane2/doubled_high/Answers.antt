-- `kernel::lane64::I64Lane2::doubled_high` meets its contract: the bits of the upper half tell its clamp.
use Rattle.std.proofs.Common.{◌≡◌, ℕ, ℤ, ◌*ℤ◌, refl, ap, ◌∙◌, w64, SFits, to_z, of_z}
use Rattle.integer.specs.Number.{signed, pattern, wrap, upper_half}
use Rattle.integer.proofs.High.{high-of, topped-past, topped-kept}
use Rattle.isa.specs.Register.{bits, bytes}
use Rattle.kernel.proofs.lane64.I64Lane2.doubled_high.Goals as goal

bits_are : {a b x : ℤ} {u : ℕ} → SFits w64 a → SFits w64 b → x ≡ signed 64 u → u ≡ pattern 64 (upper_half 64 (to_z w64 (of_z w64 a) *ℤ to_z w64 (of_z w64 b))) →
    x ≡ wrap 64 (upper_half 64 (a *ℤ b))
unfolding wrap
bits_are f g e p = e ∙ ap (signed 64) (p ∙ ap (pattern 64) (high-of w64 refl f g refl))

pub returns-then-r-ltminus9223372036854775807 : goal.returns-then-r-ltminus9223372036854775807
unfolding bits bytes
returns-then-r-ltminus9223372036854775807 c = let f = c.ranges in
    topped-past w64 refl f.a f.b c.of_bits-r.type_inv (bits_are f.a f.b c.of_bits-r.ensures c.high_bits.ensures) c.if-r-ltminus9223372036854775807.true refl

pub returns-else-r-ltminus9223372036854775807 : goal.returns-else-r-ltminus9223372036854775807
unfolding bits bytes
returns-else-r-ltminus9223372036854775807 c = let f = c.ranges in
    topped-kept w64 refl f.a f.b c.of_bits-r.type_inv (bits_are f.a f.b c.of_bits-r.ensures c.high_bits.ensures) c.if-r-ltminus9223372036854775807.false
