use native.Mathlib.Omega.{arith}
use lib.ListN.{replicate}
use Prim.Native.Nat.{◌+◌, ◌*◌, ◌%◌}
use mathlib.Core.Path.{◌≡◌, refl, subst}
use Rattle.isa.proofs.File.{legal-exact}
use Rattle.isa.proofs.Made.{all_same}
use Rattle.regfile.specs.Bytes.{Stored}
use Rattle.regfile.proofs.Sweep.{Clearing, clear-starts, clear-on, clear-ends}
use Rattle.regfile.proofs.segment.clear_above.Goals as goal

pub loop-k-init : goal.loop-k-init
loop-k-init c = let a = c.args in clear-starts a.l a.d a.file.now c.requires.held 16 refl

pub loop-k-preserved : goal.loop-k-preserved
loop-k-preserved c =
    let a = c.args in
    let i = c.loop-k in
    let here : a.d + i.k * 16 % 18446744073709551616 ≡ a.d + 16 * i.k = omega arith in
    let stored = subst (λ n. Stored i.file n 16 (replicate 16 0) c.write16.new.s) here c.write16.ensures in
    let next : 16 * i.k + 16 ≡ 16 * (i.k + 1) = omega arith in
    subst (Clearing a.l a.d a.file.now c.write16.new.s) next
    (clear-on a.l a.d a.file.now c.requires.held i.file (16 * i.k) i.invariant (omega (arith, c.loop-k-test.true)) _ c.write16.new.s (all_same 0 16) stored)

pub returns : goal.returns
returns c =
    let a = c.args in
    let i = c.loop-k in
    let whole = ((legal-exact a.l).0 c.requires.held.ok).whole in
    clear-ends a.l a.d a.file.now c.requires.held i.file (16 * i.k) i.invariant (omega (arith, c.loop-k-test.false, whole))
