-- The last arm is for every other number.
use Rattle.line_reader.proofs.Numbers.{vector-rest}
use Rattle.line_reader.proofs.reader.vector_of.Goals as goal

pub returns-in_default : goal.returns-in_default
returns-in_default c = vector-rest c.args.v c.in_default.in_default-own.rest.1
