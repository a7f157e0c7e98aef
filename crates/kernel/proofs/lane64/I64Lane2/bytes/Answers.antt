use Rattle.std.proofs.Common.{◌≡◌, ◌∙◌, ◌+◌, ◌*◌, ◌%◌, ℕ, List, ap, get_or, refl, arith, w64}
use Rattle.std.specs.Int.{to_le_bytes}
use Rattle.integer.specs.Number.{pattern}
use Rattle.std.proofs.lemmas.List.{map-id}
use Rattle.integer.proofs.Word.{kept}
use Rattle.isa.specs.Register.{bits, bytes}
use Rattle.isa.specs.Stage.{lane}
use Rattle.isa.proofs.Made.{made_none, made_more, made_all, made_as}
use Rattle.isa.proofs.Places.{byte_at, byte-first}
use Rattle.kernel.proofs.lane64.I64Lane2.bytes.Goals as goal

pub loop-e-init : goal.loop-e-init
loop-e-init c = made_none refl

pub loop-e-preserved : goal.loop-e-preserved
loop-e-preserved c = let l = c.loop-e in
    let s = c.args.s in
    let u : c.to_bits.result ≡ pattern 64 (lane s l.e) = simp (kept w64 (lane s l.e) c.to_bits-arg-1.given) at c.to_bits.ensures in
    let b : (j : ℕ) → get_or c.to_le_bytes-b.result j 0 ≡ get_or (to_le_bytes w64 c.to_bits.result) j 0 = λ j. ap (λ (t : List ℕ). get_or t j 0) c.to_le_bytes-b.ensures in
    let k = l.e * 8 % 18446744073709551616 in
    let q : k ≡ l.e * 8 = omega arith in
    let m = made_more (made_as k l.invariant (omega arith)) (omega arith) _ (b 0 ∙ byte-first 64 8 s l.e _ u k (omega arith) (omega arith)) in
    let m = made_as (k + 2) (made_more m (omega arith) _ (b 1 ∙ byte_at 64 8 s l.e _ u 1 (k + 1) (omega arith) (omega arith))) (omega arith) in
    let m = made_as (k + 3) (made_more m (omega arith) _ (b 2 ∙ byte_at 64 8 s l.e _ u 2 (k + 2) (omega arith) (omega arith))) (omega arith) in
    let m = made_as (k + 4) (made_more m (omega arith) _ (b 3 ∙ byte_at 64 8 s l.e _ u 3 (k + 3) (omega arith) (omega arith))) (omega arith) in
    let m = made_as (k + 5) (made_more m (omega arith) _ (b 4 ∙ byte_at 64 8 s l.e _ u 4 (k + 4) (omega arith) (omega arith))) (omega arith) in
    let m = made_as (k + 6) (made_more m (omega arith) _ (b 5 ∙ byte_at 64 8 s l.e _ u 5 (k + 5) (omega arith) (omega arith))) (omega arith) in
    let m = made_as (k + 7) (made_more m (omega arith) _ (b 6 ∙ byte_at 64 8 s l.e _ u 6 (k + 6) (omega arith) (omega arith))) (omega arith) in
    made_as ((l.e + 1) * 8) (made_more m (omega arith) _ (b 7 ∙ byte_at 64 8 s l.e _ u 7 (k + 7) (omega arith) (omega arith))) (omega arith)

pub returns : goal.returns
unfolding bits bytes
returns c = rw (map-id c.args.s)
    record { sized = c.loop-e.invariant.sized; at = made_all c.loop-e.invariant (omega arith) }
