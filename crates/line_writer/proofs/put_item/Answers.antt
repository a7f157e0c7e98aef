-- A letter's text has at most three bytes.
use Prim.Native.Nat.{◌-◌}
use native.Mathlib.Omega.{arith}
use mathlib.Core.Path.{ap}
use lib.ListN.{length}
use Rattle.grammar.proofs.Packed.{text-length}
use Rattle.grammar.proofs.Width.{letter-short}
use Rattle.line_writer.specs.Fill.{values_from}
use Rattle.line_writer.proofs.Filling.{letter-said}
use Rattle.line_writer.proofs.put_item.Goals as goal

pub push_text-requires : goal.push_text-requires
push_text-requires c =
    let said = letter-said c.args.c c.args.values.now c.slot_of.result c.text_of.result (omega arith, omega arith) c.slot_of.ensures.0 c.text_of.ensures in
    (omega (arith, text-length c.text_of.result, ap length c.text_of.ensures, letter-short (c.args.c - 97) (values_from c.args.values.now c.slot_of.result)), rw said c.requires.1)
