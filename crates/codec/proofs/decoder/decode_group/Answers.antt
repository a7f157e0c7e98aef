use mathlib.Core.Path.{sym}
use Prim.Native.Nat.{◌/◌, ◌%◌}
use native.Mathlib.Omega.{arith}
use Rattle.isa.specs.declared.types.Group.{Group}
use Rattle.codec.proofs.Keys.{key-parts, parts-key, outside-group}
use Rattle.codec.proofs.decoder.decode_group.Goals as goal

pub decode_start-requires : goal.decode_start-requires
decode_start-requires c = let w = c.args.word in
    key-parts Group.Two (w / 16777216) (w / 1048576 % 4) (w / 32 % 2048) (omega arith) (omega arith) (omega arith) c.in-1586464.is

pub decode_start-requires-in-1586528 : goal.decode_start-requires-in-1586528
decode_start-requires-in-1586528 c = let w = c.args.word in
    key-parts Group.Four (w / 16777216) (w / 1048576 % 4) (w / 32 % 2048) (omega arith) (omega arith) (omega arith) c.in-1586528.is

pub returns-in_default : goal.returns-in_default
returns-in_default c = let w = c.args.word in
    let r = c.in_default.in_default-own.rest in
    sym (outside-group w (omega arith) c.requires
    (λ t h p. r.0.1 (parts-key Group.Two (w / 16777216) (w / 1048576 % 4) (w / 32 % 2048) t h p))
    (λ t h p. r.1 (parts-key Group.Four (w / 16777216) (w / 1048576 % 4) (w / 32 % 2048) t h p)))
