-- The register file of a vector length L: 4 x L bytes, registers 0 to 31 in order, L/8 bytes each.
use Rattle.std.specs.Prelude.{◌≡◌, ℕ, zero, suc, ◌+◌, ◌*◌, ◌/◌, ◌%◌, ◌^◌, ◌≤◌, List, [], ◌∷◌, Bool, true, ◌&&◌, ◌||◌, leb, ltb, eqb, length, get_or, take, drop, Ok, Err}
use Rattle.isa.specs.Check.{Check, unless}
use Rattle.isa.specs.Register.{Regs}
use Rattle.isa.specs.declared.types.FileRefusal.{FileRefusal}
use Rattle.isa.specs.declared.types.RegisterRefusal.{RegisterRefusal}

-- ---- vector lengths in bits

-- those that pass (request A5)
unfoldable pub legal : ℕ → Bool
legal L = eqb L 128 || (eqb L 256 || (eqb L 512 || (eqb L 1024 || eqb L 2048)))

-- a multiple of 128, from 128 to 2,048
unfoldable pub multiple : ℕ → Bool
multiple L = eqb (L % 128) 0 && (leb 128 L && leb L 2048)

-- there is a k
abbrev pub PowerOfTwo : ℕ → Type 0
PowerOfTwo L = (k : ℕ) × (L ≡ 2 ^ k)

-- number 11's lengths (request A5)
abbrev pub NotPowerOfTwo : ℕ → Type 0
NotPowerOfTwo L = (multiple L ≡ true) × (PowerOfTwo L → ⊥)

-- what `legal` passes, said of numbers
pub record Legal (L : ℕ) : Type 0 where
  pub whole : L % 128 ≡ 0
  pub least : 128 ≤ L
  pub most : L ≤ 2048
  pub power : PowerOfTwo L

-- ---- a file and its registers

-- f 0, f 1, .., n numbers
unfoldable pub tabulate : ℕ → (ℕ → ℕ) → List ℕ
tabulate zero f = []
tabulate (suc n) f = f 0 ∷ tabulate n (λ i. f (suc i))

-- byte j of register r in a file of vector length L
unfoldable pub byte_at : ℕ → List ℕ → Regs
byte_at L file r j = get_or file (r * (L / 8) + j) 0

-- the file of vector length L that holds the registers
unfoldable pub file_of : ℕ → Regs → List ℕ
file_of L regs = tabulate (4 * L) (λ i. regs (i / (L / 8)) (i % (L / 8)))

-- ---- the checks before a file is used, and one register's part

-- 1, then 11, then 2
unfoldable pub check_of : ℕ → ℕ → Check FileRefusal
check_of L size =
    unless (multiple L) FileRefusal.BadLength
    (unless (legal L) FileRefusal.NotPowerOfTwo
    (unless (eqb size (4 * L)) FileRefusal.BadSize (Ok tt)))

-- then 6
abbrev pub register_after : Check FileRefusal → ℕ → Check RegisterRefusal
register_after (Ok passed) r = unless (ltb r 32) RegisterRefusal.NoRegister (Ok tt)
register_after (Err refusal) r = Err (RegisterRefusal.File refusal)

unfoldable pub register_check : ℕ → ℕ → ℕ → Check RegisterRefusal
register_check L size r = register_after (check_of L size) r

abbrev pub part_if : Check RegisterRefusal → List ℕ → List ℕ
part_if (Ok found) part = part
part_if (Err refusal) part = []

-- the bytes of register r, nothing on a refusal
unfoldable pub register_of : ℕ → List ℕ → ℕ → List ℕ
register_of L file r = part_if (register_check L (length file) r) (take (L / 8) (drop (r * (L / 8)) file))
