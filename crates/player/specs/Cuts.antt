-- Document 01, "Whole runs and the plain book": a cut, in the terms of files and of `play`: the first grants of an
-- accepted file are an accepted file.
--
--   cut k j     the job j with its first k grants: all of them, where it has no more
--   file_cut    the file of an accepted file's cut
--   nodes_left  the nodes of the table that the play of a cut leaves
--   rows_left   the rows of the report that it leaves
--   LongEnough  lent buffers that are not refused for the job j
--   Cuts        what holds of every accepted file's cuts, one clause a sentence
use Rattle.std.specs.Prelude.{◌≡◌, List, map, ℕ, ◌*◌, ◌≤◌, length, take, drop}
use Rattle.job.specs.Job.{Job}
use Rattle.word.specs.declared.Node.{Node}
use Rattle.word.specs.Word.{decode}
use Rattle.jobfile.specs.Meaning.{meaning}
use Rattle.jobfile.specs.Written.{written}
use Rattle.jobfile.specs.Admitted.{Admitted, Bytes}
use Rattle.rules.specs.declared.Row.{Row}
use Rattle.rules.specs.Laws.{Follows}
use Rattle.rules.specs.Bounds.{Ends}
use Rattle.stepper.specs.Buffers.{rows_of}
use Rattle.stepper.specs.Shown.{state_after}
use Rattle.player.specs.Player.{lent_refusal, origin_in, left_at, played_of}

-- The same places, heads, rights, requests and pairs, and the first k grants.
abbrev pub cut : ℕ → Job → Job
cut k j =
    record {
      nodes = j.nodes;
      heads = j.heads;
      rights = j.rights;
      requests = j.requests;
      waits = j.waits;
      schedule = take k j.schedule;
    }

abbrev pub file_cut : ℕ → List ℕ → List ℕ
file_cut k file = written (cut k (meaning file).job)

abbrev pub nodes_left : ℕ → List ℕ → List ℕ → List ℕ → List ℕ → List Node
nodes_left k file table report linearization =
    map decode (take (meaning file).job.nodes (played_of (file_cut k file) table report linearization).table)

abbrev pub rows_left : ℕ → List ℕ → List ℕ → List ℕ → List ℕ → List Row
rows_left k file table report linearization =
    rows_of (take (4 * length (meaning file).job.requests) (played_of (file_cut k file) table report linearization).report)

-- Buffers that are not refused for the job.
abbrev pub LongEnough : Job → List ℕ → List ℕ → List ℕ → Type 0
LongEnough j table report linearization = lent_refusal j (length table) (length report) (length linearization) ≡ 0

pub record Cuts (file : List ℕ) : Type 0 where
  -- The first k grants of an accepted file are an admitted job,
  pub admitted : (k : ℕ) → Admitted (cut k (meaning file).job)
  -- its written file is one of bytes, no longer than the file,
  pub bytes : (k : ℕ) → Bytes (file_cut k file)
  pub short : (k : ℕ) → length (file_cut k file) ≤ length file
  -- is accepted,
  pub accepted : (k : ℕ) → (meaning (file_cut k file)).number ≡ 0
  -- and means that job.
  pub meant : (k : ℕ) → (meaning (file_cut k file)).job ≡ cut k (meaning file).job
  -- From the number of grants on it is the file itself.
  pub whole : (k : ℕ) → length (meaning file).job.schedule ≤ k → file_cut k file ≡ file
  -- "What stands then is what the same job leaves with only the grants before the cut, which may be none": what `play` leaves
  -- for it is the run's state after k grants.
  pub played : (k : ℕ) (table report linearization : List ℕ) → LongEnough (meaning file).job table report linearization
      → played_of (file_cut k file) table report linearization
      ≡ left_at (cut k (meaning file).job) (state_after (origin_in file) (meaning file).job (take k (meaning file).job.schedule))
      table report linearization
  -- Between any two cuts of one file: what holds between any two moments of a run, of the tables that the two plays leave.
  pub follows : (k l : ℕ) → k ≤ l → (table report linearization : List ℕ) → LongEnough (meaning file).job table report linearization
      → Follows (meaning file).job.nodes (nodes_left k file table report linearization) (nodes_left l file table report linearization)
  -- (02, A7) Between any two cuts of one file, which has its grants in any order: a request that has begun at the first one is
  -- finished at the second once its head has had as many grants more as it was short of its limit.
  pub ends : (k l : ℕ) → k ≤ l → (table report linearization : List ℕ) → LongEnough (meaning file).job table report linearization
      → Ends (meaning file).job.nodes (meaning file).job.requests (rows_left k file table report linearization)
      (rows_left l file table report linearization) (drop k (take l (meaning file).job.schedule))
