-- Document 02, A5: what the call for a head's sheet answers and leaves in the lent buffer.
--
--   run_text seen S          the text of what a run left in the state S
--   text_from origin j h     the text of head h's sheet, of the run of the job j from that start
--   run_in file              the run of an accepted file
--   text_of file h           the text of head h's sheet
--   room_refusal room text   14 where a buffer of that length has no room for the text
--   sheet_refusal            the refusal of a sheet, 0 for none
--   Sheet                    the answer, and the buffer afterwards
--   refused n                the answer of a refusal
--   refusal n out            the sheet that is refused with the number n
--   filled text out          the sheet that is the text
--   written_of text out      one of the two, by the buffer's length
--   sheet_of file h out      the sheet, for any bytes, any head and any buffer
use Rattle.std.specs.Prelude.{Bool, cond, List, ◌++◌, ℕ, eqb, ltb, leb, length, drop}
use Rattle.job.specs.Job.{Job}
use Rattle.listing.specs.declared.Listed.{Listed}
use Rattle.jobfile.specs.Format.{◌then◌}
use Rattle.jobfile.specs.Meaning.{meaning}
use Rattle.rules.specs.State.{State}
use Rattle.rules.specs.Start.{Start}
use Rattle.turns.specs.Turns.{run_of}
use Rattle.player.specs.Player.{origin_in}
use Rattle.sheet.specs.Sheet.{sheet_text}
use Rattle.sheet.specs.Sight.{visible}

-- The requests that are seen, with what the run left of them.
abbrev pub run_text : (ℕ → Bool) → State → List ℕ
run_text seen S = sheet_text seen S.report S.entries

-- Seen are those that the head may see.
abbrev pub text_from : Start → Job → ℕ → List ℕ
text_from origin j head = run_text (visible j head) (run_of origin j)

-- The file is played from what every play of it starts from.
abbrev pub run_in : List ℕ → State
run_in file = run_of (origin_in file) (meaning file).job

-- The head's sheet of that run.
abbrev pub text_of : List ℕ → ℕ → List ℕ
text_of file head = text_from (origin_in file) (meaning file).job head

-- "a sheet buffer too short 14"
abbrev pub room_refusal : ℕ → List ℕ → ℕ
room_refusal room text = cond (ltb room (length text)) 14 0

-- "A sheet for a head not below the heads gives 10, after 13": after all that is checked of the file. Then the buffer's 14.
unfoldable pub sheet_refusal : List ℕ → ℕ → ℕ → ℕ
sheet_refusal file head room =
    (meaning file).number
    then cond (leb (meaning file).job.heads head) 10 0
    then room_refusal room (text_of file head)

-- What the caller has afterwards.
pub record Sheet : Type 0 where
  pub answer : Listed
  pub out : List ℕ

-- A refusal gives its number and zero bytes,
abbrev pub refused : ℕ → Listed
refused number = record { number = number; bytes = 0 }

-- and writes nothing.
abbrev pub refusal : ℕ → List ℕ → Sheet
refusal number out = record { answer = refused number; out = out }

-- "That call writes nothing but the sheet, and bytes past it stay."
abbrev pub filled : List ℕ → List ℕ → Sheet
filled text out = record { answer = record { number = 0; bytes = length text }; out = text ++ drop (length text) out }

-- Refused, nothing is written; else the text.
unfoldable pub sheet_of : List ℕ → ℕ → List ℕ → Sheet
sheet_of file head out =
    let number = sheet_refusal file head (length out) in
    cond (eqb number 0) (filled (text_of file head) out) (refusal number out)

-- ---- for the inner functions

-- A text into a buffer, or 14 where it has no room.
unfoldable pub written_of : List ℕ → List ℕ → Sheet
written_of text out = cond (ltb (length out) (length text)) (refusal 14 out) (filled text out)
