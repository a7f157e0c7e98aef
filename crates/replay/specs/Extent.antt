-- The table of contents, entry by entry.
use Rattle.std.specs.Prelude.{◌≡◌, ℕ, ◌+◌, ◌*◌, ◌<◌, ◌≤◌, List, true, cond, ◌&&◌, length, leb, eqb, Option, Some, None}
use Rattle.isa.specs.File.{legal}
use Rattle.trace.specs.Trace.{cases_of, length_at, count_at, start_at, body_size, total_of, contents_allowed, total_allowed}

-- the end of a body whose entry has these numbers, if they are allowed: it has to start at `due`
unfoldable pub body_end : ℕ → ℕ → ℕ → ℕ → Option ℕ
body_end L W start due = cond (legal L && (leb W 4096 && eqb start due)) (Some (due + body_size L W)) None

-- that of case k
unfoldable pub entry_of : List ℕ → ℕ → ℕ → Option ℕ
entry_of t k due = cond (leb (16 + 12 * k) (length t)) (body_end (length_at t k) (count_at t k) (start_at t k) due) None

-- that of the last
unfoldable pub entries_of : List ℕ → Option ℕ
entries_of t = cond (contents_allowed t) (Some (total_of t)) None

-- the number of cases, if it is there and allowed
unfoldable pub count_of : List ℕ → Option ℕ
count_of t = cond (leb 4 (length t) && (leb 1 (cases_of t) && leb (cases_of t) 1024)) (Some (cases_of t)) None

-- it is there and allowed
pub record Counted (t : List ℕ) (cases : ℕ) : Type 0 where
  pub there : 4 ≤ length t
  pub same : cases ≡ cases_of t
  pub some : 1 ≤ cases
  pub few : cases ≤ 1024

-- a case of an accepted trace
pub record CaseThere (t : List ℕ) (n : ℕ) : Type 0 where
  pub contents : contents_allowed t ≡ true
  pub total : total_allowed t ≡ true
  pub below : n < cases_of t
