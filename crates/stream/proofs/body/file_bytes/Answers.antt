-- The bytes are stored behind those that have come.
use mathlib.Core.Path.{◌≡◌, refl}
use native.Mathlib.Omega.{arith}
use Prim.Native.Nat.{ℕ, ◌+◌, ◌-◌, ◌≤◌}
use lib.ListN.{length}
use Rattle.stream.proofs.Moved.{file-bytes}
use Rattle.stream.proofs.body.file_bytes.Goals as goal

size : (at n : ℕ) → 4 ≤ at → at + n - 4 - (at - 4) ≡ n
size at n l = omega arith

pub returns : goal.returns
returns c W = let a = c.args in
    rw c.load.ensures (file-bytes a.l W a.image.now a.c a.bytes.now c.requires.l_bound.1 c.requires.l_bound.2 c.requires.l_bound.0 _ _ refl (size a.c.at (length a.bytes.now) c.requires.l_bound.1))
