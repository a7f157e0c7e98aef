-- `common::bits32::words` meets its contract: word by word.
use Rattle.isa.proofs.Words.{words_of}
use Rattle.common.proofs.bits32.words.Goals as goal

pub returns : goal.returns
returns c = words_of _ _ c.word.ensures c.word-2.ensures c.word-3.ensures c.word-4.ensures
