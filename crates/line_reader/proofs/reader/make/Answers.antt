-- The first pattern of a size; and the last arm, which is for every number that is left.
use mathlib.Core.Path.{◌≡◌, ap}
use native.Mathlib.Omega.{arith}
use Rattle.isa.specs.declared.types.Op.{Op}
use Rattle.letters.proofs.Items.{past}
use Rattle.line_reader.proofs.reader.make.Goals as goal

pub returns-in-2 : goal.returns-in-2
returns-in-2 c = rw c.in-2.is (ap Op.CmlaIndexed c.indexed_of.ensures)

pub returns-in_default : goal.returns-in_default
returns-in_default c = let e : c.args.pattern ≡ 17 = omega (arith, past 17 c.args.pattern c.in_default.in_default-own.rest, c.requires) in
    rw e (ap Op.Sqdmulh c.group_of-in_default.ensures)
