-- Document 02, A4: "Every job of up to 16 heads keeps its table, report, line-up and tally."
--
--   former_heads           the most heads before A4
--   former_run origin j    the run of the job j with that many heads
--   Kept                   a play of an accepted file with no more heads leaves what that run leaves, and so does the lent tally
use Rattle.std.specs.Prelude.{◌≡◌, List, ℕ, ◌≤◌}
use Rattle.job.specs.Job.{Job}
use Rattle.jobfile.specs.Format.{sizes_refusal, sizes_refusal_with}
use Rattle.jobfile.specs.Meaning.{meaning}
use Rattle.jobfile.specs.Admitted.{Bytes}
use Rattle.rules.specs.State.{State, start, tally_of}
use Rattle.rules.specs.Start.{Start}
use Rattle.rules.specs.Run.{run}
use Rattle.stepper.specs.Shown.{requests_in}
use Rattle.turns.specs.Turns.{run_of}
use Rattle.player.specs.Player.{origin_in, left_at, cut_of}

abbrev pub former_heads : ℕ
former_heads = 16

abbrev pub former_run : Start → Job → State
former_run origin j = run j.requests j.waits (start j.requests former_heads origin.table) j.schedule

pub record Kept (file table report linearization : List ℕ) : Type 0 where
  -- "keeps its table, report, line-up and tally": on every lent buffer, with every count
  pub left : left_at (meaning file).job (former_run (origin_in file) (meaning file).job) table report linearization
      ≡ cut_of (origin_in file) (meaning file).job table report linearization
  -- and on a lent tally
  pub tally : tally_of (requests_in file) (former_run (origin_in file) (meaning file).job)
      ≡ tally_of (requests_in file) (run_of (origin_in file) (meaning file).job)

-- The sizes of such a job are refused as before, or not.
pub record HeadsKept : Type 0 where
  pub plays : (file table report linearization : List ℕ) → Bytes file → (meaning file).number ≡ 0
      → (meaning file).job.heads ≤ former_heads → Kept file table report linearization
  pub sizes : (nodes heads : ℕ) → heads ≤ former_heads → sizes_refusal_with former_heads nodes heads ≡ sizes_refusal nodes heads
