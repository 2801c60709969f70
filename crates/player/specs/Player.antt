-- What a play leaves in the lent buffers and answers, for any file and any buffers.
--
--   accepted_with j S    the answer of a play of the job j that ends in the state S
--   lent_refusal j t r l the refusal of lent buffers of these lengths, 0 for none
--   play_refusal         the refusal of a play
--   origin_in file       what a play of the file starts from
--   Left, left ..        the buffers and the answer, and the same by its parts
--   played_of            what a play leaves
use Rattle.std.specs.Prelude.{cond, List, ◌++◌, ℕ, ◌*◌, ◌≤◌, eqb, ltb, length, drop}
use Rattle.job.specs.declared.Played.{Played}
use Rattle.job.specs.Job.{Job}
use Rattle.job.specs.Played.{refused_with}
use Rattle.jobfile.specs.Format.{◌then◌}
use Rattle.jobfile.specs.Meaning.{meaning}
use Rattle.reader.specs.declared.Checked.{Checked}
use Rattle.reader.specs.Reader.{Playing}
use Rattle.rules.specs.State.{State, tally_of}
use Rattle.rules.specs.Start.{Start, fresh_start}
use Rattle.stepper.specs.Shown.{shown}
use Rattle.turns.specs.Turns.{run_of}

abbrev pub accepted_with : Job → State → Played
accepted_with j S =
    record {
      number = 0;
      nodes = j.nodes;
      heads = j.heads;
      requests = length j.requests;
      grants = length j.schedule;
      entries = length S.entries;
      tally = tally_of j.requests S;
    }

-- 14: table shorter than the places, report shorter than four numbers a request, line-up shorter than two.
unfoldable pub lent_refusal : Job → ℕ → ℕ → ℕ → ℕ
lent_refusal j table report linearization =
    cond (ltb table j.nodes) 14
    (cond (ltb report (4 * length j.requests)) 14
    (cond (ltb linearization (2 * length j.requests)) 14 0))

-- Everything is checked before anything is written: the file first, then the lent buffers.
unfoldable pub play_refusal : List ℕ → ℕ → ℕ → ℕ → ℕ
play_refusal file table report linearization = (meaning file).number then lent_refusal (meaning file).job table report linearization

pub record Left : Type 0 where
  pub table : List ℕ
  pub report : List ℕ
  pub linearization : List ℕ
  pub result : Played

abbrev pub left : List ℕ → List ℕ → List ℕ → Played → Left
left table report linearization result = record { table = table; report = report; linearization = linearization; result = result }

-- "Numbers past the table's places, the report's requests and the line-up's entries remain as lent."
abbrev pub left_at : Job → State → List ℕ → List ℕ → List ℕ → Left
left_at j S table report linearization =
    let b = shown j.requests j.waits S linearization in
    left (b.table ++ drop j.nodes table) (b.report ++ drop (4 * length j.requests) report) b.linearization (accepted_with j S)

abbrev pub cut_of : Start → Job → List ℕ → List ℕ → List ℕ → Left
cut_of origin j table report linearization = left_at j (run_of origin j) table report linearization

-- Every play starts with each place alone.
abbrev pub origin_in : List ℕ → Start
origin_in file = fresh_start (meaning file).job.nodes

-- Refused: every buffer unchanged. Accepted: what the rules' run of the file's meaning leaves.
unfoldable pub played_of : List ℕ → List ℕ → List ℕ → List ℕ → Left
played_of file table report linearization =
    cond (eqb (play_refusal file (length table) (length report) (length linearization)) 0)
    (cut_of (origin_in file) (meaning file).job table report linearization)
    (left table report linearization (refused_with (play_refusal file (length table) (length report) (length linearization))))

-- ---- what is admitted

-- The file is accepted, and the lent buffers have room for its job.
pub record Roomy (file : List ℕ) (checked : Checked) (table report linearization : ℕ) : Type 0 where
  pub playing : Playing file checked
  pub nodes : (meaning file).job.nodes ≤ table
  pub rows : 4 * length (meaning file).job.requests ≤ report
  pub room : 2 * length (meaning file).job.requests ≤ linearization
