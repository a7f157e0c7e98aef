-- The cases that document 01 marks to be proved, P1 to P12, hold of the definitions. Assumes nothing.
use mathlib.Core.Path.{refl}
use Rattle.integer.specs.Number.{signed, pattern, clamp_to, end_to, rounded, digit, byte_of}
use Rattle.integer.specs.Lane.{saturated}
use Rattle.isa.specs.Register.{bytes, bits, little, element, complex}
use Rattle.isa.specs.Decode.{decode_of}
use Rattle.isa.specs.Meaning.{turned, each, part, cadd_of, sqcadd_of, own, pair_bytes, writes, written, step}
use Rattle.isa.specs.Cases.{AllHold, cases, holding}
use Rattle.isa.proofs.Table.{◌⨾◌}

pub cases-hold : AllHold cases
unfolding decode_of holding complex element little bits bytes signed pattern step writes written pair_bytes own cadd_of sqcadd_of turned each part clamp_to end_to digit byte_of saturated rounded
cases-hold =
    refl ⨾ refl ⨾ refl ⨾ refl ⨾ refl ⨾ refl ⨾ refl ⨾ refl ⨾ refl ⨾ refl ⨾ refl ⨾ (refl, refl) ⨾ (refl, refl) ⨾ (refl, refl) ⨾ (refl, refl) ⨾
    (refl, refl) ⨾ (refl, refl) ⨾ (refl, refl) ⨾ (refl, refl) ⨾ (refl, refl) ⨾ tt
