use native.Mathlib.Nat.{div-one}
use Rattle.codec.proofs.decoder.read_add.Goals as goal

pub returns : goal.returns
returns c = rw (c.size_of.ensures, c.add_rotation_of.ensures, div-one)
