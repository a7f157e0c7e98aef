-- An arm of the table of templates: what it says is a template as the code holds it.
use Prim.Native.Nat.{ℕ, ◌<◌}
use mathlib.Core.Path.{◌≡◌}
use mathlib.Core.List.{List, [], map}
use lib.ListN.{length, get_or}
use Rattle.grammar.specs.Follow.{Fixed}
use Rattle.grammar.specs.Grammar.{templates, item_of}
use Rattle.letters.specs.declared.templates.Template.{Template}
use Rattle.letters.specs.Templates.{IsTemplate}

pub arm : {pattern k q : ℕ} {t : Template} {b : List ℕ} → pattern ≡ k → (t.text.now ≡ b) × (t.mark ≡ q)
    → map item_of b ≡ get_or templates k [] → q < length b → Fixed (get_or templates k []) q (get_or b q 0) → IsTemplate pattern t
arm {pattern} {k} {q} {t} {b} e f is low fixed =
    rw e
    (record {
      items = rw f.0 is;
      inside = rw (f.0, f.1) low;
      mark = rw (f.0, f.1) fixed;
    })
