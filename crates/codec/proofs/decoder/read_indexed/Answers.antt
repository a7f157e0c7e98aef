use native.Mathlib.Nat.{div-one}
use Rattle.codec.proofs.decoder.read_indexed.Goals as goal

pub returns : goal.returns
returns c = rw (c.rotation_of.ensures, div-one)
