-- The words are run where nothing is known but that the case agrees.
use borrow.Enum.Refused.{opened}
use mathlib.Core.Path.{sym, ap}
use native.Mathlib.Omega.{arith}
use Rattle.isa.specs.Bytes.{words_of}
use Rattle.isa.specs.Run.{Outcome}
use Rattle.isa.proofs.Bytes.{words-length}
use Rattle.trace.proofs.Place.{outcome-count}
use Rattle.stream.proofs.Known.{known_picked, executed}
use Rattle.stream.proofs.case.execute.Goals as goal

pub returns-in_default : goal.returns-in_default
returns-in_default c = let s = c.args.s in sym (known_picked _ _ s.said (opened c.in_default.in_default-own.keys2))

pub overflow_add-done : goal.overflow_add-done
overflow_add-done c = let a = c.args in
    let few = outcome-count a.l a.file.now a.s.qc (words_of a.words.now) in
    let size = words-length a.words.now in
    let same = ap (λ (o : Outcome). o.answer.done) c.run_bytes-ran.ensures in
    omega (arith, c.requires.2, c.requires.1)

pub returns : goal.returns
returns c = let a = c.args in
    executed a.done a.s.said c.in-Agrees.is _ c.run_bytes-ran.result _ c.run_bytes-ran.ensures _ c.stopped.ensures _
