use mathlib.Core.Path.{ap, ◌∙◌}
use Prim.Native.Nat.{ℕ}
use native.Mathlib.Omega.{arith}
use borrow.Kind.Array.{e_int, good_length}
use mir.Syntax.{w8}
use lib.ListN.{length-set, replicate}
use Rattle.capi_stream.proofs.Stored.{held_bytes}
use Rattle.capi_stream.proofs.marks.put_bytes.Goals as goal

pub bounds-bytes-1 : goal.bounds-bytes-1
bounds-bytes-1 c = simp length-set (omega (arith, c.fill.auto.self))

pub bounds-bytes-2 : goal.bounds-bytes-2
bounds-bytes-2 c = simp length-set (omega (arith, c.fill.auto.self))

pub bounds-bytes-3 : goal.bounds-bytes-3
bounds-bytes-3 c = simp length-set (omega (arith, c.fill.auto.self))

pub bounds-bytes-4 : goal.bounds-bytes-4
bounds-bytes-4 c = simp length-set (omega (arith, c.fill.auto.self))

pub returns : goal.returns
returns c = held_bytes c.args.held c.fill.new.self c.args.byte (good_length (e_int w8) 4 c.args.held _ c.well_formed.1.0)
    (c.fill.ensures.after (λ y e. e) ∙ ap (λ (n : ℕ). replicate n 0) c.requires)
