-- Checks one after the other: the first that fails refuses.
use Rattle.std.specs.Prelude.{Bool, true, false, Result, Err}

-- what checks alone answer: nothing, or the first refusal
abbrev pub Check : Type 0 → Type 0
Check Refusal = Result (Unit {0}) Refusal

-- a check and its refusal, and what comes next where it passes
abbrev pub unless : {A Refusal : Type 0} → Bool → Refusal → Result A Refusal → Result A Refusal
unless true refusal next = next
unless false refusal next = Err refusal
