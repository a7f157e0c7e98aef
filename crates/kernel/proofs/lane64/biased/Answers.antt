-- `kernel::lane64::biased` meets its contract: the bits of a lane, and half a word.
use Rattle.std.proofs.Common.{ℕ, ◌+◌, ◌%◌, ◌^◌, pos, ap, ◌∙◌, to_z-of_z}
use Rattle.integer.specs.Number.{pattern}
use Rattle.integer.proofs.High.{biased-word}
use Rattle.kernel.proofs.lane64.biased.Goals as goal

pub returns : goal.returns
returns c = ap pos (c.wrapping_add_u64.ensures.value ∙ ap (λ (n : ℕ). (n + 2 ^ 63) % 2 ^ 64) (c.to_bits.ensures ∙ ap (pattern 64) (to_z-of_z c.ranges.a)))
    ∙ biased-word 63 c.args.a c.ranges.a.sfits
