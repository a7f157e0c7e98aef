-- What the functions that work on whole registers, and on their first segments, say of the lent file.
use Rattle.std.specs.Prelude.{ℕ, ◌+◌, ◌*◌, ◌/◌, ◌<◌, ◌≤◌, Bool, true, false, List, ◌≡◌, eqb, length, get_or}
use Rattle.isa.specs.Register.{Bytes}
use Rattle.isa.specs.declared.types.Op.{Op}
use Rattle.isa.specs.Meaning.{writes, step, advanced_simd}
use Rattle.isa.specs.File.{legal, byte_at, file_of}
use Rattle.isa.specs.Valid.{Valid}
use Rattle.isa.specs.Sources.{Rule, dest_of, first_of, second_of, made}

-- the file of a legal vector length
pub record Held (L : ℕ) (file : List ℕ) : Type 0 where
  pub ok : legal L ≡ true
  pub sized : length file ≡ 4 * L

-- where the registers of an operation start
pub record Placed (w : ℕ) (op : Op) (d n m : ℕ) : Type 0 where
  pub dest : d ≡ dest_of op * w
  pub first : n ≡ first_of op * w
  pub second : m ≡ second_of op * w

-- three registers of the file of a legal vector length, from d, n and m on
pub record Lying (L : ℕ) (file : List ℕ) (d n m : ℕ) : Type 0 where
  pub held : Held L file
  pub dest : d + L / 8 ≤ 4 * L
  pub first : n + L / 8 ≤ 4 * L
  pub second : m + L / 8 ≤ 4 * L

-- an SVE2 operation by a rule that writes one register, with its registers at d, n and m
pub record By (L : ℕ) (rule : Rule) (d n m : ℕ) (op : Op) : Type 0 where
  pub valid : Valid op
  pub sve : advanced_simd op ≡ false
  pub only : (r : ℕ) → writes op r ≡ eqb r (dest_of op)
  pub placed : Placed (L / 8) op d n m
  pub same : (c a b : Bytes) (i : ℕ) → made op c a b i ≡ rule c a b i

-- `after` is the file as such an operation leaves it
pub record Swept (L : ℕ) (rule : Rule) (file : List ℕ) (d n m : ℕ) (after : List ℕ) : Type 0 where
  pub left : (op : Op) → By L rule d n m op → after ≡ file_of L (step op (byte_at L file))

-- three segments end within a list
pub record Within (size d n m : ℕ) : Type 0 where
  pub dest : d + 16 ≤ size
  pub first : n + 16 ≤ size
  pub second : m + 16 ≤ size

-- the bytes of a list from a place on
abbrev pub bytes_from : List ℕ → ℕ → Bytes
bytes_from s at i = get_or s (at + i) 0

-- `after` is the file with the first `count` bytes of what the rule makes of the bytes from d, n and m on stored at d; `clamped` is what the test says of them
pub record Touched (count : ℕ) (rule : Rule) (test : Bytes → Bytes → Bytes → Bool) (file : List ℕ) (d n m : ℕ) (after : List ℕ) (clamped : Bool) : Type 0 where
  pub sized : length after ≡ length file
  pub inside : (i : ℕ) → i < count → get_or after (d + i) 0 ≡ rule (bytes_from file d) (bytes_from file n) (bytes_from file m) i
  pub low : (x : ℕ) → x < d → get_or after x 0 ≡ get_or file x 0
  pub high : (x : ℕ) → d + count ≤ x → get_or after x 0 ≡ get_or file x 0
  pub flag : clamped ≡ test (bytes_from file d) (bytes_from file n) (bytes_from file m)
