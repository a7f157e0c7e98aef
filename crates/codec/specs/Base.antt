-- The base of a by-element form, for the contract of the encoder's inner function.
use Rattle.std.specs.Prelude.{ℕ, ◌+◌}
use Rattle.isa.specs.declared.types.Form.{Form}

-- Q is bit 30
abbrev pub form_base : ℕ → ℕ → Form → ℕ
form_base scalar vector Form.Scalar = scalar
form_base scalar vector Form.Vector64 = vector
form_base scalar vector Form.Vector128 = vector + 0x4000_0000
