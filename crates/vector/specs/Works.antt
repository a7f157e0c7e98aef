-- What is done at a segment, by a rule.
use Rattle.std.specs.Prelude.{ℕ, ◌<◌, List, ◌≡◌, length, get_or}
use Rattle.isa.specs.Sources.{Rule}
use Rattle.isa.specs.Segment.{bytes_of}

-- a list that a call can pass as a segment: sixteen bytes
pub record IsSegment (s : List ℕ) : Type 0 where
  pub sized : length s ≡ 16
  pub byte : (i : ℕ) → i < 16 → get_or s i 0 < 256

-- r has the bytes that the rule makes of three segments
pub record Made (rule : Rule) (c n m r : List ℕ) : Type 0 where
  pub at : (i : ℕ) → i < 16 → bytes_of r i ≡ rule (bytes_of c) (bytes_of n) (bytes_of m) i

-- whatever a call answers is what the rule makes
pub record Works (rule : Rule) (post : List ℕ → List ℕ → List ℕ → List ℕ → Type 0) : Type 0 where
  pub makes : (c n m r : List ℕ) → IsSegment c → IsSegment n → IsSegment m → post c n m r → Made rule c n m r
