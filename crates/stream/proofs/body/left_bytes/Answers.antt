-- The bytes are compared with the part of the image that they stand for.
use mathlib.Core.Path.{◌≡◌, ap, ◌∙◌}
use native.Mathlib.Omega.{arith}
use Prim.Native.Nat.{ℕ, ◌+◌, ◌-◌}
use lib.ListN.{length, take, drop}
use Rattle.stream.specs.Steps.{standing_beside}
use Rattle.stream.proofs.Moved.{left-bytes}
use Rattle.stream.proofs.body.left_bytes.Goals as goal

pub returns : goal.returns
returns c W allowed here = let a = c.args in
    let size : a.from + length a.bytes.now - a.from ≡ length a.bytes.now = omega arith in
    left-bytes a.l W a.image.now a.c a.bytes.now allowed a.from here c.requires.at_bound.1 _
    (c.compare-standing.ensures ∙ ap (λ (n : ℕ). standing_beside a.c.standing a.from (take n (drop a.from a.image.now)) a.bytes.now) size)
