-- The calls that hand in a stream, however it is cut. Request A10.
use Rattle.std.specs.Prelude.{ℕ, suc, List, [], ◌∷◌, ◌++◌, drop}
use Rattle.trace.specs.Stream.{End, due_of, close_of, then, Status, live, over}
use Rattle.trace.specs.declared.types.Verdict.{Verdict}
use Rattle.trace.specs.declared.types.Told.{Told}

-- ---- one call

-- the bytes taken, what is told, and the stream behind them
pub record Fed : Type 0 where
  pub taken : ℕ
  pub told : Told
  pub status : Status

-- the stream behind bytes with whose last something falls due
abbrev pub status_after : Told → List ℕ → Status
status_after Told.Nothing h = live h
status_after (Told.Case v) h = live h
status_after (Told.Over e) h = over e

-- one byte more was taken
abbrev pub more : Fed → Fed
more f = record { taken = suc f.taken; told = f.told; status = f.status }

-- a verdict or a refusal ends the call
abbrev pub goes_on : Told → List ℕ → (List ℕ → Fed) → Fed
goes_on Told.Nothing h rest = more (rest h)
goes_on (Told.Case v) h rest = record { taken = 1; told = Told.Case v; status = live h }
goes_on (Told.Over e) h rest = record { taken = 1; told = Told.Over e; status = over e }

-- the bytes up to and with the first that brings a verdict or a refusal, else all
unfoldable pub feed_from : List ℕ → List ℕ → Fed
feed_from [] h = record { taken = 0; told = Told.Nothing; status = live h }
feed_from (b ∷ bytes) h = goes_on (due_of (then h b)) (then h b) (feed_from bytes)

-- a call with some bytes; after a refusal or the end nothing is taken, and it gives that same answer and no verdict
abbrev pub feed_of : Status → List ℕ → Fed
feed_of (live h) bytes = feed_from bytes h
feed_of (over e) bytes = record { taken = 0; told = Told.Over e; status = over e }

-- a call that says that the line has ended, and what it answers; the stream behind it is over with this answer
abbrev pub end_of : Status → End
end_of (live h) = close_of h
end_of (over e) = e

-- ---- all calls

-- all verdicts that some bytes bring, in order, and the stream behind them
pub record Whole : Type 0 where
  pub verdicts : List Verdict
  pub status : Status

abbrev pub told_of : Told → Whole → Whole
told_of Told.Nothing w = w
told_of (Told.Case v) w = record { verdicts = v ∷ w.verdicts; status = w.status }
told_of (Told.Over e) w = w

-- in one piece, byte by byte
abbrev pub whole_on : Told → List ℕ → (List ℕ → Whole) → Whole
whole_on Told.Nothing h rest = rest h
whole_on (Told.Case v) h rest = told_of (Told.Case v) (rest h)
whole_on (Told.Over e) h rest = record { verdicts = []; status = over e }

unfoldable pub whole_from : List ℕ → List ℕ → Whole
whole_from [] h = record { verdicts = []; status = live h }
whole_from (b ∷ bytes) h = whole_on (due_of (then h b)) (then h b) (whole_from bytes)

abbrev pub whole_of : Status → List ℕ → Whole
whole_of (live h) bytes = whole_from bytes h
whole_of (over e) bytes = record { verdicts = []; status = over e }

-- a caller with some bytes to hand in: each call has any piece of them, an empty one too, and what it did not take is handed in again with what
-- follows it; after a refusal or the end the rest may stay
pub data Calls : Status → List ℕ → Whole → Type 0 where
  none : {s : Status} → Calls s [] (record { verdicts = []; status = s })
  rest : {e : End} {bytes : List ℕ} → Calls (over e) bytes (record { verdicts = []; status = over e })
  call : {s : Status} {w : Whole} (piece later : List ℕ) →
      Calls (feed_of s piece).status (drop (feed_of s piece).taken piece ++ later) w →
      Calls s (piece ++ later) (told_of (feed_of s piece).told w)
