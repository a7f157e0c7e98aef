-- `kernel::lane64::narrow` meets its contract: the tests on the high part are the definition's tests on the whole, and hi's sign tells which holds.
use Rattle.std.proofs.Common.{◌≡◌, ℕ, ◌^◌, ◌<◌, ◌||◌, pos, negsuc, ◌+ℤ◌, ◌*ℤ◌, sym, ◌∙◌, arith, lit<, to_z-of_z, w64, to_z}
use lib.Signed.{lt_z, mag}
use mir.Facts.{to_z_pos}
use Rattle.integer.proofs.Word.{kept}
use Rattle.integer.proofs.Round.{within, clamp-inside}
use Rattle.integer.proofs.Ends.{neither, end_low, end-high}
use Rattle.kernel.proofs.Sum64.{bottom, top, doubled-is, twice-fits, whole-fits}
use Rattle.kernel.proofs.lane64.narrow.Goals as goal
use Rattle.kernel.proofs.lane64.narrow.Goals.{then-high-ltminus4611686018427387904, else-high-ltminus4611686018427387904, then-hi-lt0, else-hi-lt0}

low-is : (n : ℕ) → n < 2 → to_z w64 n ≡ pos n
low-is n h = to_z_pos w64 (omega arith)

pub overflow_add-result : goal.overflow_add-result
overflow_add-result c =
    let tests : c.if-high-ltminus4611686018427387904.out ≡ lt_z c.args.high (negsuc 4611686018427387903) || lt_z (pos 4611686018427387903) c.args.high =
    elim c.if-high-ltminus4611686018427387904.branch [
      | then-high-ltminus4611686018427387904 w ↦ let t = simp (to_z-of_z c.ranges.high) at w.if-high-ltminus4611686018427387904.true in rw (w.out-is, t)
      | else-high-ltminus4611686018427387904 w ↦ let t = simp (to_z-of_z c.ranges.high) at w.if-high-ltminus4611686018427387904.false in let u = simp (to_z-of_z c.ranges.high) at w.out-is in rw (t, u)
    ] in
    let inner : mag c.args.high < 2 ^ 62 = let t = neither _ _ (sym (tests) ∙ c.if-out.false) in within c.args.high (2 ^ 62) (lit< tt) t.0 t.1 in
    simp (to_z-of_z c.ranges.high) (record { sfits = twice-fits c.args.high (inner) })

pub overflow_add-result-else-out : goal.overflow_add-result-else-out
overflow_add-result-else-out c =
    let tests : c.if-high-ltminus4611686018427387904.out ≡ lt_z c.args.high (negsuc 4611686018427387903) || lt_z (pos 4611686018427387903) c.args.high =
    elim c.if-high-ltminus4611686018427387904.branch [
      | then-high-ltminus4611686018427387904 w ↦ let t = simp (to_z-of_z c.ranges.high) at w.if-high-ltminus4611686018427387904.true in rw (w.out-is, t)
      | else-high-ltminus4611686018427387904 w ↦ let t = simp (to_z-of_z c.ranges.high) at w.if-high-ltminus4611686018427387904.false in let u = simp (to_z-of_z c.ranges.high) at w.out-is in rw (t, u)
    ] in
    let inner : mag c.args.high < 2 ^ 62 = let t = neither _ _ (sym (tests) ∙ c.if-out.false) in within c.args.high (2 ^ 62) (lit< tt) t.0 t.1 in
    simp (to_z-of_z c.ranges.high, kept w64 (c.args.high +ℤ c.args.high) (twice-fits c.args.high (inner)), low-is c.args.low c.requires.bit)
    (record { sfits = whole-fits c.args.high c.args.low c.requires.bit (inner) })

pub returns-then-out : goal.returns-then-out
returns-then-out c =
    let tests : c.if-high-ltminus4611686018427387904.out ≡ lt_z c.args.high (negsuc 4611686018427387903) || lt_z (pos 4611686018427387903) c.args.high =
    elim c.if-high-ltminus4611686018427387904.branch [
      | then-high-ltminus4611686018427387904 w ↦ let t = simp (to_z-of_z c.ranges.high) at w.if-high-ltminus4611686018427387904.true in rw (w.out-is, t)
      | else-high-ltminus4611686018427387904 w ↦ let t = simp (to_z-of_z c.ranges.high) at w.if-high-ltminus4611686018427387904.false in let u = simp (to_z-of_z c.ranges.high) at w.out-is in rw (t, u)
    ] in
    let z = c.args.high *ℤ pos 2 +ℤ pos c.args.low in
    let o = rw (bottom c.args.high c.args.low c.requires.bit, top c.args.high c.args.low c.requires.bit) at (sym (tests) ∙ c.if-out.true) in
    elim c.if-hi-lt0.branch [
      | then-hi-lt0 w ↦ w.end-is ∙ end_low 64 z o (c.requires.negative (simp (to_z-of_z c.ranges.hi) at w.if-hi-lt0.true))
      | else-hi-lt0 w ↦ w.end-is ∙ end-high 64 z o (c.requires.positive (simp (to_z-of_z c.ranges.hi) at w.if-hi-lt0.false))
    ]

pub returns-else-out : goal.returns-else-out
returns-else-out c =
    let tests : c.if-high-ltminus4611686018427387904.out ≡ lt_z c.args.high (negsuc 4611686018427387903) || lt_z (pos 4611686018427387903) c.args.high =
    elim c.if-high-ltminus4611686018427387904.branch [
      | then-high-ltminus4611686018427387904 w ↦ let t = simp (to_z-of_z c.ranges.high) at w.if-high-ltminus4611686018427387904.true in rw (w.out-is, t)
      | else-high-ltminus4611686018427387904 w ↦ let t = simp (to_z-of_z c.ranges.high) at w.if-high-ltminus4611686018427387904.false in let u = simp (to_z-of_z c.ranges.high) at w.out-is in rw (t, u)
    ] in
    let inner : mag c.args.high < 2 ^ 62 = let t = neither _ _ (sym (tests) ∙ c.if-out.false) in within c.args.high (2 ^ 62) (lit< tt) t.0 t.1 in
    let f = whole-fits c.args.high c.args.low c.requires.bit (inner) in
    let e = doubled-is c.args.high c.args.low in
    simp (to_z-of_z c.ranges.high, kept w64 (c.args.high +ℤ c.args.high) (twice-fits c.args.high (inner)), low-is c.args.low c.requires.bit)
    (kept w64 (c.args.high +ℤ c.args.high +ℤ pos c.args.low) f ∙ e ∙ sym (clamp-inside 64 (c.args.high *ℤ pos 2 +ℤ pos c.args.low) (rw e at f)))
