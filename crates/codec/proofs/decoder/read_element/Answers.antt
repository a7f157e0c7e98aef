use native.Mathlib.Nat.{div-one}
use Rattle.codec.proofs.decoder.read_element.Goals as goal

pub returns : goal.returns
returns c = rw div-one
