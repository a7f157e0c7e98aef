-- The tables hold the alphabet.
use native.Mathlib.Omega.{arith}
use Rattle.grammar.specs.Packed.{RowOf}
use Rattle.grammar.proofs.Packed.{row-good, row_count, text-stands}
use Rattle.letters.proofs.texts.text_of.Goals as goal

pub text_in-requires : goal.text_in-requires
text_in-requires c = let p : RowOf c.args.x c.row_of.result = record { low = c.requires.0; is = c.row_of.ensures } in
    (row-good p, omega (arith, row_count c.args.v p, c.requires.1))

pub returns : goal.returns
returns c = let p : RowOf c.args.x c.row_of.result = record { low = c.requires.0; is = c.row_of.ensures } in
    text-stands c.args.v p (omega (arith, row_count c.args.v p, c.requires.1)) c.text_in.ensures
