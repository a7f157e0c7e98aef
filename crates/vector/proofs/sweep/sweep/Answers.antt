use native.Mathlib.Omega.{arith}
use Prim.Native.Nat.{ℕ, ◌+◌, ◌*◌, ◌/◌, ◌%◌, ◌^◌, ◌<◌}
use mathlib.Core.Path.{◌≡◌, refl, ◌∙◌}
use mathlib.Core.List.{List}
use Rattle.std.proofs.Common.{rules}
use Rattle.regfile.proofs.Sweep.{sweep-starts}
use Rattle.vector.specs.Works.{IsSegment}
use Rattle.vector.proofs.Segments.{segment-on, segments-end}
use Rattle.vector.proofs.sweep.sweep.Goals as goal

pub loop-k-init : goal.loop-k-init
loop-k-init g c = let a = c.args in
    record { sized = refl; so_far = λ rule works. sweep-starts a.l rule a.at.dest a.at.first a.at.second a.file.now c.requires.lying }

pub loop-k-preserved : goal.loop-k-preserved
loop-k-preserved g c =
    let a = c.args in
    let i = c.loop-k in
    let x : IsSegment c.read16-c.result = record { sized = search rules; byte = λ i h. search rules } in
    let y : IsSegment c.read16-n.result = record { sized = search rules; byte = λ i h. search rules } in
    let z : IsSegment c.read16-m.result = record { sized = search rules; byte = λ i h. search rules } in
    let here : i.k * 16 % 18446744073709551616 ≡ 16 * i.k = omega arith in
    record {
      sized = c.write16.ensures.size ∙ i.invariant.sized;
      so_far = λ rule works.
          segment-on a.l rule a.at.dest a.at.first a.at.second a.file.now c.requires.lying i.file i.k (i.invariant.so_far rule works) _ here (omega (arith, c.loop-k-test.true))
          _ _ _ _ _ c.read16-c.ensures c.read16-n.ensures c.read16-m.ensures (works.makes _ _ _ _ x y z c.work.ensures).at c.write16.ensures;
    }

pub returns : goal.returns
returns g c = λ rule works.
    let a = c.args in
    let i = c.loop-k in
    segments-end a.l rule a.at.dest a.at.first a.at.second a.file.now c.requires.lying i.file i.k (i.invariant.so_far rule works) (omega (arith, c.loop-k-test.false))
