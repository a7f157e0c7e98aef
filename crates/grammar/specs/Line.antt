-- What lines are: the text of an operation, the beginnings that lines have, and how far a text is one.
use Rattle.std.specs.Prelude.{ℕ, ◌≤◌, ◌≡◌, true, List, ◌++◌, length, take}
use Rattle.isa.specs.declared.types.Op.{Op}
use Rattle.isa.specs.Encode.{write_checks}
use Rattle.grammar.specs.Grammar.{line_of}

-- the operation can be written: none of 7 to 10 and 14 applies
pub record Writable (op : Op) : Type 0 where
  pub size : (write_checks op).size ≡ true
  pub rotation : (write_checks op).rotation ≡ true
  pub registers : (write_checks op).registers ≡ true
  pub start : (write_checks op).start ≡ true
  pub index : (write_checks op).index ≡ true

-- the text is the line of the operation
pub record LineOf (op : Op) (s : List ℕ) : Type 0 where
  pub writable : Writable op
  pub text : line_of op ≡ s

-- some line begins so
pub record Begins (p : List ℕ) : Type 0 where
  pub op : Op
  pub writable : Writable op
  pub rest : List ℕ
  pub text : line_of op ≡ p ++ rest

-- no line, and k bytes are the longest beginning that some line has
pub record NoLine (s : List ℕ) (k : ℕ) : Type 0 where
  pub none : (op : Op) → LineOf op s → ⊥
  pub within : k ≤ length s
  pub begins : Begins (take k s)
  pub longest : (j : ℕ) → j ≤ length s → Begins (take j s) → j ≤ k
