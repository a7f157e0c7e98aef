-- The words are executed on the file, which is the first part of the image.
use mathlib.Core.Path.{◌≡◌, sym, ◌∙◌}
use native.Mathlib.Omega.{arith}
use Prim.Native.Nat.{◌*◌, ◌%◌}
use lib.Seq.{length-take-le}
use Rattle.isa.proofs.File.{legal-exact}
use Rattle.stream.proofs.Moved.{word_bytes}
use Rattle.stream.proofs.body.word_bytes.Goals as goal
use Rattle.stream.proofs.body.word_bytes.Goals.{After-words_place}

pub words_place-requires : goal.words_place-requires
words_place-requires c = ((legal-exact c.args.l).0 c.requires.allowed.0.ok).most

pub overflow_sub-done : goal.overflow_sub-done
overflow_sub-done c = omega (arith, c.words_place.ensures, c.requires.allowed.1)

pub slice_bounds-execute-end : goal.slice_bounds-execute-end
slice_bounds-execute-end c = omega (arith, c.requires.image_len, ((legal-exact c.args.l).0 c.requires.allowed.0.ok).most)

pub slice_bounds-execute-end-2 : goal.slice_bounds-execute-end-2
slice_bounds-execute-end-2 c = sym (length-take-le _ _ (slice_bounds-execute-end (goal.at.slice_bounds-execute-end-2 c).After-words_place))

pub execute-standing-requires : goal.execute-standing-requires
execute-standing-requires c = let size : c.args.l * 4 % 18446744073709551616 ≡ 4 * c.args.l = omega (arith, ((legal-exact c.args.l).0 c.requires.allowed.0.ok).most) in (
  record { ok = c.requires.allowed.0.ok; sized = length-take-le _ _ (omega (arith, c.requires.image_len, ((legal-exact c.args.l).0 c.requires.allowed.0.ok).most)) ∙ size },
  omega (arith, c.requires.allowed.0.few, c.requires.allowed.2, c.requires.allowed.1),
  omega (arith, c.requires.allowed.0.few, c.requires.allowed.2, c.requires.allowed.1, c.words_place.ensures),
)

pub overflow_add-result : goal.overflow_add-result
overflow_add-result c = omega (arith, c.requires.allowed.0.few, c.requires.allowed.2, c.requires.allowed.1, ((legal-exact c.args.l).0 c.requires.allowed.0.ok).most)

pub returns : goal.returns
returns c = let a = c.args in
    let size : a.l * 4 % 18446744073709551616 ≡ 4 * a.l = omega (arith, ((legal-exact a.l).0 c.requires.allowed.0.ok).most) in
    word_bytes a.l a.w a.image.now a.c a.bytes.now c.requires.allowed.0 c.requires.allowed.1 c.requires.allowed.2 c.requires.at_value.0 c.requires.at_value.1
    _ _ (omega (arith, c.words_place.ensures)) size _ _ c.execute-standing.ensures
