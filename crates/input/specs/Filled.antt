-- What is known of a buffer that was filled: no contract can say which bytes were read.
use Rattle.std.specs.Prelude.{ℕ, ◌≤◌, ◌≡◌, List, length}

pub record ReadInto (n : ℕ) (before after : List ℕ) : Type 0 where
  pub least : n ≤ length after
  pub same : length after ≡ length before
