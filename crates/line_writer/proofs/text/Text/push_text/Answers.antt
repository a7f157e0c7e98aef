-- Up to three bytes behind those before.
use native.Mathlib.Omega.{arith}
use mathlib.Core.Path.{◌≡◌}
use lib.ListN.{length}
use lib.Seq.{length-take-le}
use Rattle.std.proofs.Common.{rules}
use Rattle.grammar.proofs.Packed.{text-length}
use Rattle.line_writer.proofs.Filling.{pushes-text}
use Rattle.line_writer.proofs.text.Text.push_text.Goals as goal

pub invariant_of-self : goal.invariant_of-self
invariant_of-self c = let line = c.args.self.now in
    let sized : length line.bytes ≡ 50 = search rules in
    record { within = omega (arith, length-take-le line.size line.bytes (omega (arith, line.within, sized)), text-length c.args.packed, c.requires.1) }

pub returns : goal.returns
returns c = let line = c.args.self.now in
    let sized : length line.bytes ≡ 50 = search rules in
    pushes-text line.bytes line.size c.args.packed (omega (arith, line.within, sized)) c.requires.0
