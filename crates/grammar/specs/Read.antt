-- What a text is read as: the operation whose line it is, or no line, with the length of the longest beginning that some line has.
use Rattle.std.specs.Prelude.{ℕ, List, get_or, Result, Ok, Err}
use Rattle.isa.specs.declared.types.Op.{Op}
use Rattle.grammar.specs.declared.types.NotLine.{NotLine}
use Rattle.grammar.specs.Search.{Search, read, unread, search}
use Rattle.grammar.specs.Grammar.{variables, templates, makers, add_pattern}

-- the operation that values make, by the pattern
abbrev pub make_at : ℕ → (ℕ → ℕ) → Op
make_at i = get_or makers i (add_pattern Op.Cadd "").make

-- no line, and the length of the longest beginning that some line has
abbrev pub stops_at : ℕ → Result Op NotLine
stops_at k = Err (record { reach = k })

abbrev pub read_as : Search → Result Op NotLine
read_as (read i r) = Ok (make_at i r)
read_as (unread k) = stops_at k

unfoldable pub read_of : List ℕ → Result Op NotLine
read_of s = read_as (search variables templates s 0 0)
