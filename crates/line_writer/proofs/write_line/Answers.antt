-- By what writing the word answers.
use mathlib.Core.Path.{sym, ◌∙◌}
use Rattle.grammar.proofs.Written.{writable-word}
use Rattle.line_writer.proofs.Writing.{by_word, by_refusal}
use borrow.Author.Rules.{rules}
use Rattle.line_writer.proofs.write_line.Goals as goal

pub returns-in_err-encode : goal.returns-in_err-encode
returns-in_err-encode c = search (rules, by_refusal)

pub line_of-requires : goal.line_of-requires
line_of-requires c = writable-word c.args.op c.in_ok-encode.field-0 (sym c.encode.ensures ∙ c.in_ok-encode.was)

pub returns : goal.returns
returns c = by_word c.args.op _ c.args.out.now _ (sym c.encode.ensures ∙ c.in_ok-encode.was) (c.as_slice.ensures ∙ c.line_of.ensures) c.put_line.ensures
