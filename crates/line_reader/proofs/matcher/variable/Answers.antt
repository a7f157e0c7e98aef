-- The value, its text and how far it goes are those of the definition.
use Prim.Native.Nat.{◌/◌, ◌%◌, ◌<◌}
use native.Mathlib.Omega.{arith}
use Rattle.grammar.specs.Packed.{RowOf}
use Rattle.grammar.proofs.Alphabet.{letter-fits}
use Rattle.grammar.proofs.Packed.{row-good, row_count, text-stands}
use Rattle.line_reader.proofs.Steps.{value_low, value_read, n_inside, variable-on, variable-off}
use Rattle.line_reader.proofs.matcher.variable.Goals as goal

pub value_at-v-requires : goal.value_at-v-requires
value_at-v-requires c = row-good {x = c.args.x} (record { low = c.requires.0; is = c.row_of-row.ensures })

pub text_in-packed-requires : goal.text_in-packed-requires
text_in-packed-requires c = let x = c.args.x in
    let v = c.value_at-v.result in
    let p : RowOf x c.row_of-row.result = record { low = c.requires.0; is = c.row_of-row.ensures } in
    let read = value_read x c.slot_of-slot.result c.args.values.now c.args.s.now c.args.at v c.slot_of-slot.ensures.0 c.slot_of-slot.ensures.1 c.requires.2 (c.value_at-v.ensures x p) in
    (row-good p, omega (arith, row_count v p, letter-fits x v (value_low x c.args.values.now c.args.s.now c.args.at v c.requires.2 read)))

pub overflow_add-result : goal.overflow_add-result
overflow_add-result c = let x = c.args.x in
    let v = c.value_at-v.result in
    let p : RowOf x c.row_of-row.result = record { low = c.requires.0; is = c.row_of-row.ensures } in
    let read = value_read x c.slot_of-slot.result c.args.values.now c.args.s.now c.args.at v c.slot_of-slot.ensures.0 c.slot_of-slot.ensures.1 c.requires.2 (c.value_at-v.ensures x p) in
    let inside : v < c.row_of-row.result / 65536 % 256 = omega (arith, row_count v p, letter-fits x v (value_low x c.args.values.now c.args.s.now c.args.at v c.requires.2 read)) in
    let said = text-stands v p inside c.text_in-packed.ensures in
    record {
      fits = omega (
        arith,
        n_inside x c.args.values.now c.args.s.now c.args.at v c.text_in-packed.result c.along-n.result c.length_of.result
            c.requires.1 (omega (arith, c.slot_of-slot.ensures.0, c.slot_of-slot.ensures.1)) c.requires.2 read said c.along-n.ensures c.length_of.ensures,
      );
    }

pub overflow_add-result-else-n-length_of : goal.overflow_add-result-else-n-length_of
overflow_add-result-else-n-length_of c = let x = c.args.x in
    let v = c.value_at-v.result in
    let p : RowOf x c.row_of-row.result = record { low = c.requires.0; is = c.row_of-row.ensures } in
    let read = value_read x c.slot_of-slot.result c.args.values.now c.args.s.now c.args.at v c.slot_of-slot.ensures.0 c.slot_of-slot.ensures.1 c.requires.2 (c.value_at-v.ensures x p) in
    let inside : v < c.row_of-row.result / 65536 % 256 = omega (arith, row_count v p, letter-fits x v (value_low x c.args.values.now c.args.s.now c.args.at v c.requires.2 read)) in
    let said = text-stands v p inside c.text_in-packed.ensures in
    record {
      fits = omega (
        arith,
        n_inside x c.args.values.now c.args.s.now c.args.at v c.text_in-packed.result c.along-n.result c.length_of.result
            c.requires.1 (omega (arith, c.slot_of-slot.ensures.0, c.slot_of-slot.ensures.1)) c.requires.2 read said c.along-n.ensures c.length_of.ensures,
      );
    }

pub returns-then-n-length_of : goal.returns-then-n-length_of
returns-then-n-length_of c = let x = c.args.x in
    let v = c.value_at-v.result in
    let p : RowOf x c.row_of-row.result = record { low = c.requires.0; is = c.row_of-row.ensures } in
    let read = value_read x c.slot_of-slot.result c.args.values.now c.args.s.now c.args.at v c.slot_of-slot.ensures.0 c.slot_of-slot.ensures.1 c.requires.2 (c.value_at-v.ensures x p) in
    let inside : v < c.row_of-row.result / 65536 % 256 = omega (arith, row_count v p, letter-fits x v (value_low x c.args.values.now c.args.s.now c.args.at v c.requires.2 read)) in
    let said = text-stands v p inside c.text_in-packed.ensures in
    rw c.slot_of-slot.ensures.0
    (variable-on x c.args.values.now c.args.s.now c.args.at v c.text_in-packed.result c.along-n.result c.length_of.result
    c.requires.1 (omega (arith, c.slot_of-slot.ensures.0, c.slot_of-slot.ensures.1)) c.requires.2 read said c.along-n.ensures c.length_of.ensures c.if-n-length_of.true)

pub returns-else-n-length_of : goal.returns-else-n-length_of
returns-else-n-length_of c = let x = c.args.x in
    let v = c.value_at-v.result in
    let p : RowOf x c.row_of-row.result = record { low = c.requires.0; is = c.row_of-row.ensures } in
    let read = value_read x c.slot_of-slot.result c.args.values.now c.args.s.now c.args.at v c.slot_of-slot.ensures.0 c.slot_of-slot.ensures.1 c.requires.2 (c.value_at-v.ensures x p) in
    let inside : v < c.row_of-row.result / 65536 % 256 = omega (arith, row_count v p, letter-fits x v (value_low x c.args.values.now c.args.s.now c.args.at v c.requires.2 read)) in
    let said = text-stands v p inside c.text_in-packed.ensures in
    rw c.slot_of-slot.ensures.0
    (variable-off x c.args.values.now c.args.s.now c.args.at v c.text_in-packed.result c.along-n.result c.length_of.result
    c.requires.1 (omega (arith, c.slot_of-slot.ensures.0, c.slot_of-slot.ensures.1)) c.requires.2 read said c.along-n.ensures c.length_of.ensures c.if-n-length_of.false)
