-- A trace that comes in pieces: what falls due, as a function of all bytes so far. Request A10.
use Rattle.std.specs.Prelude.{◌≡◌, ℕ, zero, suc, ◌+◌, ◌*◌, ◌-◌, ◌/◌, ◌%◌, ◌<◌, ◌≤◌, List, [], ◌∷◌, ◌++◌, Bool, true, false, ◌&&◌, not, leb, ltb, eqb, length}
use Rattle.trace.specs.Trace.{cases_of, contents_size, begins, total_of, number_allowed, contents_allowed}
use Rattle.trace.specs.Verdict.{case_of}
use Rattle.trace.specs.declared.types.Told.{Told}
use Rattle.trace.specs.declared.types.TraceRefusal.{TraceRefusal}
use Rattle.std.specs.Prelude.{Result, Ok, Err}

-- how a stream ended: with all bodies whole, or with the first refusal that applies
abbrev pub End : Type 0
End = Result (Unit {0}) TraceRefusal

abbrev pub pick_told : Bool → Told → Told → Told
pick_told true a b = a
pick_told false a b = b

abbrev pub pick_end : Bool → End → End → End
pick_end true a b = a
pick_end false a b = b

-- within the contents: 15 with the last byte of a number that is not allowed
unfoldable pub number_due : List ℕ → Told
number_due h = pick_told (eqb (length h % 4) 0 && not (number_allowed h (length h / 4 - 1))) (Told.Over (Err TraceRefusal.BadContents)) Told.Nothing

-- the verdict of the case, of the first k, whose body ends here
unfoldable pub case_due : List ℕ → ℕ → Told
case_due h zero = Told.Nothing
case_due h (suc k) = pick_told (eqb (length h) (begins h (suc k))) (Told.Case (case_of h k)) (case_due h k)

-- what falls due with the last of the bytes h: past the contents a verdict, or 16 with the first byte too many
unfoldable pub due_of : List ℕ → Told
due_of h =
    pick_told (leb (length h) (contents_size h)) (number_due h)
    (pick_told (ltb (total_of h) (length h)) (Told.Over (Err TraceRefusal.BadTotal)) (case_due h (cases_of h)))

-- what an end behind the bytes h tells: 15 inside the contents, 16 where a body is missing or not whole. There is no upper size
unfoldable pub close_of : List ℕ → End
close_of h = pick_end (leb (contents_size h) (length h)) (pick_end (eqb (length h) (total_of h)) (Ok tt) (Err TraceRefusal.BadTotal)) (Err TraceRefusal.BadContents)

-- ---- the bytes of a stream of which nothing was refused so far

-- they end within the contents, and every number that is whole is allowed
pub record Listing (h : List ℕ) : Type 0 where
  pub short : length h < contents_size h
  pub numbers : (i : ℕ) → 4 * i + 4 ≤ length h → number_allowed h i ≡ true

-- the contents are allowed, k bodies are whole, and the bytes end before body k does; behind the last body there are none
pub record Within (h : List ℕ) (k : ℕ) : Type 0 where
  pub contents : contents_allowed h ≡ true
  pub few : k ≤ cases_of h
  pub from : begins h k ≤ length h
  pub to : k < cases_of h → length h < begins h (suc k)
  pub last : k ≡ cases_of h → length h ≡ begins h k

-- a stream: live, with all its bytes so far, or over, by a refusal or an end
pub data Status : Type 0 where
  live : List ℕ → Status
  over : End → Status

abbrev pub start : Status
start = live []

abbrev pub then : List ℕ → ℕ → List ℕ
then h b = h ++ (b ∷ [])
