-- What a byte of the table of contents brings.
use Rattle.std.specs.Prelude.{ℕ, ◌+◌, ◌*◌, ◌-◌, ◌%◌, List, [], Bool, true, false, ◌&&◌, ◌||◌, leb, ltb, eqb}
use Rattle.isa.specs.Bytes.{word_at}
use Rattle.isa.specs.File.{legal}
use Rattle.replay.specs.Extent.{body_end}
use Rattle.trace.specs.declared.types.Told.{Told}
use Rattle.stream.specs.Body.{padded}
use Rattle.stream.specs.Kept.{course_at, fresh_course, ended_marks}
use Rattle.stream.specs.declared.state.Phase.{Phase}
use Rattle.stream.specs.declared.state.Stepped.{Stepped}
use Rattle.trace.specs.declared.types.TraceRefusal.{TraceRefusal}
use Rattle.trace.specs.Stream.{End}
use Rattle.std.specs.Prelude.{Option, Some, None, Err}

abbrev pub pick_stepped : Bool → Stepped → Stepped → Stepped
pick_stepped true a b = a
pick_stepped false a b = b

abbrev pub refused_on : End → Stepped
refused_on e = record { taken = 1; told = Told.Over e; marks = ended_marks e }

abbrev pub listed_on : ℕ → ℕ → ℕ → List ℕ → Stepped
listed_on cases due at held =
    record { taken = 1; told = Told.Nothing; marks = record { phase = Phase.Contents; cases = cases; case = 0; due = due; course = course_at at held } }

abbrev pub opened_on : ℕ → ℕ → Stepped
opened_on cases end =
    record { taken = 1; told = Told.Nothing; marks = record { phase = Phase.Bodies; cases = cases; case = 0; due = end; course = fresh_course } }

-- of the number of cases
abbrev pub counted_on : ℕ → Stepped
counted_on n = pick_stepped (leb 1 n && leb n 1024) (listed_on n (4 + 12 * n) 4 (padded 4 [])) (refused_on (Err TraceRefusal.BadContents))

unfoldable pub count_on : ℕ → List ℕ → Stepped
count_on at held = pick_stepped (ltb at 3) (listed_on 0 0 (at + 1) held) (counted_on (word_at held 0))

-- of an entry, where the contents have as many bytes
abbrev pub extent_on : Option ℕ → ℕ → ℕ → Stepped
extent_on (Some end) cases at = pick_stepped (eqb (at + 1) (4 + 12 * cases)) (opened_on cases end) (listed_on cases end (at + 1) (padded 4 []))
extent_on None cases at = refused_on (Err TraceRefusal.BadContents)

unfoldable pub start_on : List ℕ → ℕ → ℕ → ℕ → ℕ → Stepped
start_on contents cases due at start =
    pick_stepped (ltb 1024 cases || ltb 0x400_0000 due) (refused_on (Err TraceRefusal.BadContents))
    (extent_on (body_end (word_at contents (at - 15)) (word_at contents (at - 11)) start due) cases at)

unfoldable pub number_on : List ℕ → ℕ → ℕ → ℕ → Stepped
number_on contents cases due at =
    pick_stepped (eqb ((at - 4) % 12) 11) (start_on contents cases due at (word_at contents (at - 7)))
    (pick_stepped ((legal (word_at contents (at - 7)) && eqb ((at - 4) % 12) 3) || (leb (word_at contents (at - 7)) 4096 && eqb ((at - 4) % 12) 7))
    (listed_on cases due (at + 1) (padded 4 []))
    (refused_on (Err TraceRefusal.BadContents)))
