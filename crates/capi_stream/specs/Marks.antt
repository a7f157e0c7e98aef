-- The marks of a stream's state in the last 64 of its bytes: eight numbers of four little-endian bytes (`fours_of`), the bytes that are held of a number that
-- is not whole, the byte beside a place that differs, and zeros. They are read back (`marks-back`).
use Rattle.std.specs.Prelude.{ℕ, ◌+◌, ◌-◌, List, [], ◌∷◌, ◌++◌, replicate}
use Rattle.trace.specs.Number.{verdict_kind, verdict_place, end_number}
use Rattle.trace.specs.Recorded.{fours_of, flag_number}
use Rattle.trace.specs.declared.types.Verdict.{Verdict}
use Rattle.stream.specs.declared.state.Phase.{Phase}
use Rattle.stream.specs.declared.state.Standing.{Standing}
use Rattle.stream.specs.declared.state.Marks.{Marks}

-- 0 and 1 while the stream is live; over, 2 and the number of the end
abbrev pub phase_number : Phase → ℕ
phase_number Phase.Contents = 0
phase_number Phase.Bodies = 1
phase_number (Phase.Ended e) = 2 + end_number e

-- 0 where the case agrees
abbrev pub said_number : Verdict → ℕ
said_number v = verdict_kind v - 1

abbrev pub said_byte : Verdict → ℕ
said_byte Verdict.Agrees = 0
said_byte (Verdict.FileDiffers i x) = x
said_byte Verdict.FlagDiffers = 0
said_byte (Verdict.Outside k) = 0
said_byte (Verdict.Reserved k) = 0
said_byte Verdict.BadFlag = 0

abbrev pub standing_numbers : Standing → List ℕ
standing_numbers s = said_number s.said ∷ verdict_place s.said ∷ flag_number s.qc ∷ []

abbrev pub marks_numbers : Marks → List ℕ
marks_numbers m = phase_number m.phase ∷ m.cases ∷ m.case ∷ m.due ∷ m.course.at ∷ standing_numbers m.course.standing

unfoldable pub marks_bytes : Marks → List ℕ
marks_bytes m = fours_of (marks_numbers m) ++ (m.course.held ++ said_byte m.course.standing.said ∷ replicate 27 0)
