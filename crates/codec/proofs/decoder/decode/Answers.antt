use native.Mathlib.Omega.{arith}
use Rattle.codec.proofs.decoder.decode.Goals as goal

pub decode_group-requires : goal.decode_group-requires
decode_group-requires c = (omega arith, (omega arith, c.in_default.in_default-own.rest.1))
