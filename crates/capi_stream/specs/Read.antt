-- The marks that 64 bytes hold. Of bytes that no stream leaves they are some marks.
use Rattle.std.specs.Prelude.{ℕ, List, [], ◌∷◌, cond, eqb, get_or}
use Rattle.isa.specs.Bytes.{word_at}
use Rattle.trace.specs.declared.types.Verdict.{Verdict}
use Rattle.stream.specs.declared.state.Phase.{Phase}
use Rattle.stream.specs.declared.state.Standing.{Standing}
use Rattle.stream.specs.declared.state.Course.{Course}
use Rattle.stream.specs.declared.state.Marks.{Marks}
use Rattle.trace.specs.declared.types.TraceRefusal.{TraceRefusal}
use Rattle.std.specs.Prelude.{Ok, Err}

unfoldable pub phase_of : ℕ → Phase
phase_of n =
    cond (eqb n 0) Phase.Contents
    (cond (eqb n 1) Phase.Bodies
    (cond (eqb n 2) (Phase.Ended (Ok tt))
    (cond (eqb n 17) (Phase.Ended (Err TraceRefusal.BadContents)) (Phase.Ended (Err TraceRefusal.BadTotal)))))

unfoldable pub said_of : ℕ → ℕ → ℕ → Verdict
said_of n place byte =
    cond (eqb n 0) Verdict.Agrees
    (cond (eqb n 1) (Verdict.FileDiffers place byte)
    (cond (eqb n 2) Verdict.FlagDiffers
    (cond (eqb n 3) (Verdict.Outside place)
    (cond (eqb n 4) (Verdict.Reserved place) Verdict.BadFlag))))

abbrev pub standing_of : List ℕ → Standing
standing_of b = record { said = said_of (word_at b 20) (word_at b 24) (get_or b 36 0); qc = eqb (word_at b 28) 1 }

abbrev pub course_of : List ℕ → Course
course_of b = record { at = word_at b 16; held = get_or b 32 0 ∷ get_or b 33 0 ∷ get_or b 34 0 ∷ get_or b 35 0 ∷ []; standing = standing_of b }

abbrev pub marks_of : List ℕ → Marks
marks_of b = record { phase = phase_of (word_at b 0); cases = word_at b 4; case = word_at b 8; due = word_at b 12; course = course_of b }
