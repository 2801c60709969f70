-- Demand 3, the laws of every moment, those of waiting and the limits of requests, on what a play leaves in the lent buffers.
--
--   history_of origin j   what the grants of the job j were, by the rules, from that start
--   LinearizedFrom        the linearization theorem from a start, of the exit buffers cut to what counts
--   LawfulFrom            the laws of every moment from a start, of the same and of the play's own counts
--   LinearizedHere, LawfulHere   the two from what the play starts from
--   WaitedHere            (02, A3) what holds of the requests that wait, of the same buffers
--   BoundedHere           (02, A7) no request has used more grants than its limit, of the same report
use Rattle.std.specs.Prelude.{List, map, ℕ, ◌*◌, take}
use Rattle.job.specs.declared.Played.{Played}
use Rattle.job.specs.Job.{Job}
use Rattle.word.specs.Word.{decode}
use Rattle.linearization.specs.Entry.{entries_of}
use Rattle.jobfile.specs.Meaning.{meaning}
use Rattle.rules.specs.Start.{Start}
use Rattle.rules.specs.Run.{Happening}
use Rattle.rules.specs.Linearized.{Linearized}
use Rattle.rules.specs.Laws.{Lawful}
use Rattle.rules.specs.Waits.{Waited}
use Rattle.rules.specs.Bounds.{Bounded}
use Rattle.stepper.specs.Buffers.{rows_of}
use Rattle.stepper.specs.Shown.{history_after}
use Rattle.player.specs.Player.{origin_in}

abbrev pub history_of : Start → Job → List Happening
history_of origin j = history_after origin j j.schedule

abbrev pub LinearizedFrom : Start → List ℕ → Played → List ℕ → List ℕ → List ℕ → Type 0
LinearizedFrom origin file played table report linearization =
    Linearized origin.labels played.nodes (meaning file).job.requests
    (map decode (take played.nodes table))
    (rows_of (take (4 * played.requests) report))
    (entries_of (take (2 * played.entries) linearization))
    (history_of origin (meaning file).job)

abbrev pub LawfulFrom : Start → List ℕ → Played → List ℕ → List ℕ → Type 0
LawfulFrom origin file played table report =
    Lawful origin.groups played.nodes played.heads (meaning file).job.requests
    (map decode (take played.nodes table))
    (rows_of (take (4 * played.requests) report))
    played.tally played.grants
    (history_of origin (meaning file).job)

abbrev pub LinearizedHere : List ℕ → Played → List ℕ → List ℕ → List ℕ → Type 0
LinearizedHere file = LinearizedFrom (origin_in file) file

abbrev pub LawfulHere : List ℕ → Played → List ℕ → List ℕ → Type 0
LawfulHere file = LawfulFrom (origin_in file) file

abbrev pub WaitedHere : List ℕ → Played → List ℕ → List ℕ → Type 0
WaitedHere file played report linearization =
    Waited (meaning file).job.waits (rows_of (take (4 * played.requests) report))
    (entries_of (take (2 * played.entries) linearization))

abbrev pub BoundedHere : List ℕ → Played → List ℕ → Type 0
BoundedHere file played report =
    Bounded played.nodes (meaning file).job.requests (rows_of (take (4 * played.requests) report))
