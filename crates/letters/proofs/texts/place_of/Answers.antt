-- How far the number is behind the first, in steps.
use native.Mathlib.Omega.{arith}
use Rattle.grammar.proofs.Packed.{place-low, place-off, place-past, place_at}
use Rattle.letters.proofs.texts.place_of.Goals as goal

pub returns-then-m-first : goal.returns-then-m-first
returns-then-m-first c = λ x p. place-low x c.args.m p.low (rw p.is at c.requires.1) (omega (arith, p.is, c.first_in-first.ensures, c.if-m-first.true))

pub returns-then-v-shift : goal.returns-then-v-shift
returns-then-v-shift c = λ x p.
    place-off x c.args.m p.low (rw p.is at c.requires.1) (omega (arith, p.is, c.first_in-first.ensures, c.if-m-first.false)) (omega arith)
    (rw (c.first_in-first.ensures, c.shift_in-shift.ensures, p.is) at c.if-v-shift.true)

pub returns-then-count_in-v : goal.returns-then-count_in-v
returns-then-count_in-v c = λ x p.
    place-past x c.args.m p.low (rw p.is at c.requires.1) (omega (arith, p.is, c.first_in-first.ensures, c.if-m-first.false))
    (rw (c.count_in.ensures, c.first_in-first.ensures, c.shift_in-shift.ensures, p.is) at c.if-count_in-v.true)

pub returns : goal.returns
returns c = λ x p.
    rw (c.first_in-first.ensures, c.shift_in-shift.ensures, p.is)
    (place_at x c.args.m p.low (rw p.is at c.requires.1) (omega (arith, p.is, c.first_in-first.ensures, c.if-m-first.false)) (omega arith)
    (rw (c.first_in-first.ensures, c.shift_in-shift.ensures, p.is) at c.if-v-shift.false)
    (rw (c.count_in.ensures, c.first_in-first.ensures, c.shift_in-shift.ensures, p.is) at c.if-count_in-v.false))

pub overflow_shr-v : goal.overflow_shr-v
overflow_shr-v c = omega (arith, c.shift_in-shift.ensures, c.requires.0.near)

pub overflow_shl-v : goal.overflow_shl-v
overflow_shl-v c = omega (arith, c.shift_in-shift.ensures, c.requires.0.near)
