use native.Mathlib.Nat.{div-one}
use Rattle.codec.proofs.decoder.read_mul.Goals as goal

pub returns : goal.returns
returns c = rw (c.size_of.ensures, c.rotation_of.ensures, div-one)
