use native.Mathlib.Omega.{arith}
use Rattle.isa.specs.Bytes.{word_at}
use Rattle.codec.proofs.bytes.word_at.Goals as goal

pub returns : goal.returns
unfolding word_at
returns c = omega arith
