-- A template as the code holds it: its bytes and its mark.
use Rattle.std.specs.Prelude.{ℕ, ◌<◌, ◌≡◌, [], map, length, get_or}
use Rattle.grammar.specs.Follow.{Fixed}
use Rattle.grammar.specs.Grammar.{templates, item_of}
use Rattle.letters.specs.declared.templates.Template.{Template}

pub record IsTemplate (pattern : ℕ) (t : Template) : Type 0 where
  pub items : map item_of t.text.now ≡ get_or templates pattern []
  -- every line of the pattern has the mark's byte at its place
  pub inside : t.mark < length t.text.now
  pub mark : Fixed (get_or templates pattern []) t.mark (get_or t.text.now t.mark 0)
