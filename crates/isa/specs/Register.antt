-- Registers as bytes, and the elements and complex numbers in them. No vector length is in it.
-- Assumes nothing.
use Rattle.std.specs.Prelude.{ℕ, zero, suc, ◌+◌, ◌*◌, ℤ}
use Rattle.integer.specs.Number.{signed}
pub use Rattle.isa.specs.declared.types.Size.{Size}
pub use Rattle.isa.specs.declared.types.Size.TheVariants.{B, H, S, D}
pub use Rattle.isa.specs.declared.types.Group.{Group}

-- The bytes of a register, byte 0 first, and the registers. They have every number for an index.
abbrev pub Bytes : Type 0
Bytes = ℕ → ℕ

abbrev pub Regs : Type 0
Regs = ℕ → Bytes

abbrev pub by_group : {A : Type 0} → A → A → Group → A
by_group two four Group.Two = two
by_group two four Group.Four = four

-- The registers of a group.
abbrev pub group_count : Group → ℕ
group_count g = by_group 2 4 g

-- Bytes of an element.
unfoldable pub bytes : Size → ℕ
bytes B = 1
bytes H = 2
bytes S = 4
bytes D = 8

-- Bits of an element, the N of the rules.
unfoldable pub bits : Size → ℕ
bits z = 8 * bytes z

-- Complex numbers in a 128-bit segment.
unfoldable pub pairs : Size → ℕ
pairs B = 8
pairs H = 4
pairs S = 2
pairs D = 1

-- The number in `count` bytes from byte `at`, lowest byte first.
unfoldable pub little : Bytes → ℕ → ℕ → ℕ
little b at zero = 0
little b at (suc count) = b at + 256 * little b (at + 1) count

-- Element e, signed.
unfoldable pub element : Size → Bytes → ℕ → ℤ
element z b e = signed (bits z) (little b (bytes z * e) (bytes z))

pub record Complex : Type 0 where
  pub re : ℤ
  pub im : ℤ

-- Pair p: the even element is real, the odd one imaginary.
unfoldable pub complex : Size → Bytes → ℕ → Complex
complex z b p = record { re = element z b (2 * p); im = element z b (2 * p + 1) }

-- Document 01's 'segment' k: bytes 16k to 16k + 15 of a register, and of every register.
unfoldable pub window : ℕ → Bytes → Bytes
window k b i = b (16 * k + i)

unfoldable pub segment : ℕ → Regs → Regs
segment k regs r = window k (regs r)
