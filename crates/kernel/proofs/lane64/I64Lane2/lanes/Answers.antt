-- `kernel::lane64::I64Lane2::lanes` meets its contract: each lane of two words.
use Rattle.std.proofs.Common.{ap, ◌∙◌, w64}
use Rattle.integer.specs.Number.{signed}
use Rattle.integer.proofs.Word.{kept}
use Rattle.isa.proofs.Words.{lanes-of}
use Rattle.kernel.proofs.lane64.I64Lane2.lanes.Goals as goal

pub returns : goal.returns
returns c = lanes-of _ c.words-h.ensures
    (kept w64 c.of_bits.result c.of_bits.type_inv ∙ c.of_bits.ensures ∙ ap (signed 64) c.word.ensures)
    (kept w64 c.of_bits-2.result c.of_bits-2.type_inv ∙ c.of_bits-2.ensures ∙ ap (signed 64) c.word-2.ensures)
