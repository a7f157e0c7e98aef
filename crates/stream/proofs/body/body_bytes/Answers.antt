-- By the part that comes next.
use mathlib.Core.Path.{◌≡◌, sym}
use native.Mathlib.Omega.{arith}
use Prim.Native.Nat.{◌*◌, ◌%◌}
use lib.Seq.{length-take-le}
use Rattle.isa.proofs.File.{legal-exact}
use Rattle.stream.proofs.Moved.{least-of, in-file-before, number-part, one_byte}
use Rattle.stream.proofs.body.body_bytes.Goals as goal

pub words_place-words-requires : goal.words_place-words-requires
words_place-words-requires c = ((legal-exact c.args.l).0 c.requires.allowed.0.ok).most

pub flag_place-flag-requires : goal.flag_place-flag-requires
flag_place-flag-requires c = (((legal-exact c.args.l).0 c.requires.allowed.0.ok).most, c.requires.allowed.0.few)

pub overflow_sub-words : goal.overflow_sub-words
overflow_sub-words c = omega (arith, (in-file-before c.args.c.at _ c.if-at-words.true).1)

pub slice_bounds-file_bytes-end : goal.slice_bounds-file_bytes-end
slice_bounds-file_bytes-end c = sym (length-take-le _ _ (least-of _ _ _ c.min-n.ensures).1)

pub file_bytes-course-requires : goal.file_bytes-course-requires
file_bytes-course-requires c = let here = in-file-before c.args.c.at _ c.if-at-words.true in
    let size = slice_bounds-file_bytes-end c in
    record { image_len = c.requires.image_len.0; l_bound = (((legal-exact c.args.l).0 c.requires.allowed.0.ok).most, here.0, omega (arith, here.1, (least-of _ _ _ c.min-n.ensures).0, c.words_place-words.ensures)) }

pub returns-then-at-words : goal.returns-then-at-words
returns-then-at-words c = let here = in-file-before c.args.c.at _ c.if-at-words.true in
    record {
      some = (least-of _ _ _ c.min-n.ensures).2 (omega (arith, here.1)) c.requires.image_len.1;
      most = (least-of _ _ _ c.min-n.ensures).1;
      room = omega (arith, here.1, (least-of _ _ _ c.min-n.ensures).0, c.words_place-words.ensures);
      body = c.file_bytes-course.ensures c.args.w;
    }

pub overflow_add-flag : goal.overflow_add-flag
overflow_add-flag c = omega (arith, c.flag_place-flag.ensures, c.requires.allowed.0.few, ((legal-exact c.args.l).0 c.requires.allowed.0.ok).most)

pub slice_bounds-left_bytes-end : goal.slice_bounds-left_bytes-end
slice_bounds-left_bytes-end c = sym (length-take-le _ _ (least-of _ _ _ c.min-n-then-flag-at.ensures).1)

pub left_bytes-course-requires : goal.left_bytes-course-requires
left_bytes-course-requires c = let short = ((legal-exact c.args.l).0 c.requires.allowed.0.ok).most in
    let size = slice_bounds-left_bytes-end c in
    record { image_len = (c.requires.image_len.0, short); at_bound = (omega (arith, c.requires.allowed.1, c.requires.allowed.0.few, short), omega (arith, (least-of _ _ _ c.min-n-then-flag-at.ensures).0, c.flag_place-flag.ensures, c.if-flag-at.true, c.requires.allowed.1)) }

pub returns-then-flag-at : goal.returns-then-flag-at
returns-then-flag-at c = let short = ((legal-exact c.args.l).0 c.requires.allowed.0.ok).most in
    let size : c.args.l * 4 % 18446744073709551616 ≡ 4 * c.args.l = omega (arith, short) in
    record {
      some = (least-of _ _ _ c.min-n-then-flag-at.ensures).2 (omega (arith, c.flag_place-flag.ensures, c.if-flag-at.true, c.requires.allowed.1, short)) c.requires.image_len.1;
      most = (least-of _ _ _ c.min-n-then-flag-at.ensures).1;
      room = omega (arith, (least-of _ _ _ c.min-n-then-flag-at.ensures).0, c.flag_place-flag.ensures, c.if-flag-at.true, c.requires.allowed.1, short);
      body = c.left_bytes-course.ensures c.args.w c.requires.allowed.0 (omega (arith, c.flag_place-flag.ensures, c.if-flag-at.true));
    }

pub at_words-requires : goal.at_words-requires
at_words-requires c = (((legal-exact c.args.l).0 c.requires.allowed.0.ok).most, c.requires.allowed.0.few)

pub overflow_sub-flag : goal.overflow_sub-flag
overflow_sub-flag c = omega (arith, (c.at_words.ensures c.if-at_words.true).to, c.flag_place-flag.ensures)

pub slice_bounds-word_bytes-end : goal.slice_bounds-word_bytes-end
slice_bounds-word_bytes-end c = sym (length-take-le _ _ (omega (arith, (least-of _ _ _ c.min-n-then-at_words.ensures).1)))

pub word_bytes-course-requires : goal.word_bytes-course-requires
word_bytes-course-requires c = let here = c.at_words.ensures c.if-at_words.true in
    let size = slice_bounds-word_bytes-end c in
    let whole = (least-of _ _ _ c.min-n-then-at_words.ensures).3 (omega (arith, here.whole, here.to, c.flag_place-flag.ensures)) (omega arith) in
    record { image_len = c.requires.image_len.0; allowed = (c.requires.allowed.0, here.from, omega (arith, (least-of _ _ _ c.min-n-then-at_words.ensures).0, here.to, c.flag_place-flag.ensures)); at_value = (here.whole, omega arith) }

pub returns-then-at_words : goal.returns-then-at_words
returns-then-at_words c = let here = c.at_words.ensures c.if-at_words.true in
    record {
      some = (least-of _ _ _ c.min-n-then-at_words.ensures).2 (omega (arith, here.to, c.flag_place-flag.ensures)) (omega (arith, here.there));
      most = omega (arith, (least-of _ _ _ c.min-n-then-at_words.ensures).1);
      room = omega (arith, (least-of _ _ _ c.min-n-then-at_words.ensures).0, here.to, c.flag_place-flag.ensures);
      body = c.word_bytes-course.ensures;
    }

pub number_byte-course-requires : goal.number_byte-course-requires
number_byte-course-requires c = record { image_len = c.requires.image_len.0; allowed = (c.requires.allowed.0, number-part c.args.l c.args.w c.args.c.at _ c.words_place-words.ensures c.if-at-words.false (omega (arith, c.flag_place-flag.ensures, c.if-flag-at.false))) }

pub returns : goal.returns
returns c = let a = c.args in
    record {
      some = omega arith;
      most = c.requires.image_len.1;
      room = omega (arith, c.requires.allowed.1);
      body = one_byte a.l a.w a.bytes.now a.image.now a.c _ _ c.requires.image_len.1 c.number_byte-course.ensures;
    }
