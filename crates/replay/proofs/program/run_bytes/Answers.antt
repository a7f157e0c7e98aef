use borrow.Enum.Refused.{opened}
use mathlib.Core.Path.{sym, ◌∙◌}
use native.Mathlib.Omega.{arith}
use Prim.Native.Nat.{◌-◌}
use lib.ListN.{length-take}
use Rattle.replay.proofs.Words.{program-starts, program-on, program-count, program-stops, program-ends, taken-some}
use Rattle.replay.proofs.program.run_bytes.Goals as goal

pub loop-done-init : goal.loop-done-init
loop-done-init c = let a = c.args in
    (program-starts a.l a.file.now a.qc a.bytes.now c.requires.held c.requires.bytes_len_bound, omega arith)

pub overflow_sub-count : goal.overflow_sub-count
overflow_sub-count c = omega arith

pub words_at-words-requires : goal.words_at-words-requires
words_at-words-requires c =
    let n = taken-some _ _ c.min-n.ensures (omega (arith, c.loop-done-test.true)) in
    (n.2, omega (arith, n.1, c.requires.bytes_len_bound))

pub slice_bounds-run-end : goal.slice_bounds-run-end
slice_bounds-run-end c = let t = c.words_at-words.ensures in simp length-take (omega (arith, t.there))

pub overflow_add-result : goal.overflow_add-result
overflow_add-result c = let a = c.args in
    let n = taken-some _ _ c.min-n.ensures (omega (arith, c.loop-done-test.true)) in
    let few = program-count a.l a.file.now a.qc a.bytes.now c.requires.held c.requires.bytes_len_bound c.loop-done.file c.loop-done.flag c.loop-done.done c.loop-done.invariant.0
    c.min-n.result c.words_at-words.result n.2 (omega (arith, n.1, c.loop-done-test.true)) _ (omega (arith, c.loop-done.invariant.1, c.requires.bytes_len_bound)) c.words_at-words.ensures c.run-ran.result _ c.run-ran.ensures in
    omega (arith, few, n.2, c.loop-done.invariant.1, c.requires.bytes_len_bound)

pub shape_of-file-in_default : goal.shape_of-file-in_default
shape_of-file-in_default c = c.run-ran.auto.file ∙ c.loop-done.invariant.0.sized ∙ sym c.requires.held.sized

pub returns-in_default : goal.returns-in_default
returns-in_default c = let a = c.args in
    let n = taken-some _ _ c.min-n.ensures (omega (arith, c.loop-done-test.true)) in
    program-stops a.l a.file.now a.qc a.bytes.now c.requires.held c.requires.bytes_len_bound c.loop-done.file c.loop-done.flag c.loop-done.done c.loop-done.invariant.0
    c.min-n.result c.words_at-words.result n.2 (omega (arith, n.1, c.loop-done-test.true)) _ (omega (arith, c.loop-done.invariant.1, c.requires.bytes_len_bound)) c.words_at-words.ensures c.run-ran.result _ c.run-ran.ensures (opened c.in_default.in_default-own.keys2)

pub overflow_add-done : goal.overflow_add-done
overflow_add-done c = let n = taken-some _ _ c.min-n.ensures (omega (arith, c.loop-done-test.true)) in omega (arith, n.2, c.loop-done.invariant.1, c.requires.bytes_len_bound)

pub loop-done-smaller : goal.loop-done-smaller
loop-done-smaller c = let n = taken-some _ _ c.min-n.ensures (omega (arith, c.loop-done-test.true)) in omega (arith, n.0, c.loop-done-test.true)

pub loop-done-preserved : goal.loop-done-preserved
loop-done-preserved c = let a = c.args in
    let n = taken-some _ _ c.min-n.ensures (omega (arith, c.loop-done-test.true)) in (
      program-on a.l a.file.now a.qc a.bytes.now c.requires.held c.requires.bytes_len_bound c.loop-done.file c.loop-done.flag c.loop-done.done c.loop-done.invariant.0
          c.min-n.result c.words_at-words.result n.2 (omega (arith, n.1, c.loop-done-test.true)) _ (omega (arith, c.loop-done.invariant.1, c.requires.bytes_len_bound)) c.words_at-words.ensures c.run-ran.result _ c.run-ran.ensures c.in-Done.is,
      omega (arith, n.1),
    )

pub shape_of-file : goal.shape_of-file
shape_of-file c = c.loop-done.invariant.0.sized ∙ sym c.requires.held.sized

pub returns : goal.returns
returns c = let a = c.args in
    program-ends a.l a.file.now a.qc a.bytes.now c.requires.held c.requires.bytes_len_bound c.loop-done.file c.loop-done.flag c.loop-done.done c.loop-done.invariant.0 (omega (arith, c.loop-done-test.false))
