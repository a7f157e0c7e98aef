-- By where the number stands.
use mathlib.Core.Path.{◌≡◌, sym, ◌∙◌}
use native.Mathlib.Omega.{arith}
use Prim.Native.Nat.{◌*◌, ◌%◌}
use lib.Seq.{length-take-le}
use Rattle.isa.proofs.File.{legal-exact}
use Rattle.stream.proofs.Moved.{number-before, number-after, number_word, ends-past}
use Rattle.stream.proofs.body.number.Goals as goal
use Rattle.stream.proofs.body.number.Goals.{After-words_place}

pub returns-then-at-eq4 : goal.returns-then-at-eq4
returns-then-at-eq4 c = let a = c.args in
    number-before a.l a.w c.requires.allowed.0 a.image.now a.held.now a.s c.requires.image_len.1 a.at _ c.if-at-eq4.true _ c.word_at.ensures c.flag_before.ensures

pub flag_place-requires : goal.flag_place-requires
flag_place-requires c = (((legal-exact c.args.l).0 c.requires.allowed.0.ok).most, c.requires.allowed.0.few)

pub words_place-requires : goal.words_place-requires
words_place-requires c = ((legal-exact c.args.l).0 c.requires.allowed.0.ok).most

pub overflow_sub-done : goal.overflow_sub-done
overflow_sub-done c = omega (arith, c.words_place.ensures, ends-past c.args.l c.args.w c.args.at c.requires.allowed.1 c.if-at-eq4.false)

pub overflow_sub-done-then-at-flag_place : goal.overflow_sub-done-then-at-flag_place
overflow_sub-done-then-at-flag_place c = omega (arith, c.words_place.ensures, ends-past c.args.l c.args.w c.args.at c.requires.allowed.1 c.if-at-eq4.false)

pub slice_bounds-execute-end : goal.slice_bounds-execute-end
slice_bounds-execute-end c = omega (arith, c.requires.image_len.0, ((legal-exact c.args.l).0 c.requires.allowed.0.ok).most)

pub slice_bounds-execute-end-then-at-flag_place : goal.slice_bounds-execute-end-then-at-flag_place
slice_bounds-execute-end-then-at-flag_place c = sym (length-take-le _ _ (slice_bounds-execute-end (goal.at.slice_bounds-execute-end-then-at-flag_place c).After-words_place))

pub execute-requires : goal.execute-requires
execute-requires c = let size : c.args.l * 4 % 18446744073709551616 ≡ 4 * c.args.l = omega (arith, ((legal-exact c.args.l).0 c.requires.allowed.0.ok).most) in
    (record { ok = c.requires.allowed.0.ok; sized = sym (slice_bounds-execute-end-then-at-flag_place c) ∙ size }, omega (arith, c.requires.image_len.1), omega (arith, c.requires.allowed.1.most, c.requires.allowed.0.few, c.words_place.ensures))

pub returns-then-at-flag_place : goal.returns-then-at-flag_place
returns-then-at-flag_place c = let a = c.args in
    let size : a.l * 4 % 18446744073709551616 ≡ 4 * a.l = omega (arith, ((legal-exact a.l).0 c.requires.allowed.0.ok).most) in
    let ends = c.requires.allowed.1 in
    number_word a.l a.w c.requires.allowed.0 a.image.now a.held.now a.s c.requires.image_len.1 a.at _ ends
    (ends-past a.l a.w a.at ends c.if-at-eq4.false) (omega (arith, c.if-at-flag_place.true, c.flag_place.ensures)) _ _
    (omega (arith, c.words_place.ensures)) size _ c.execute.ensures

pub returns : goal.returns
returns c = let a = c.args in
    number-after a.l a.w c.requires.allowed.0 a.image.now a.held.now a.s c.requires.image_len.1 a.at _
    (omega (arith, c.requires.allowed.1.most, c.requires.allowed.1.whole, c.if-at-flag_place.false, c.flag_place.ensures)) _ c.word_at-2.ensures c.flag_after.ensures
