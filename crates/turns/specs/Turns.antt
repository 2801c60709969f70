-- The grants of a file: its cursor, one turn, and the tally.
--
--   Addable t                a tally that can be added to
--   added_of t d n           the tally t after a grant that was d, with n heads that have work left
--   counted_of t d mask      the same, where n is the mask's count of ones
--   runs_of file             the runs of a file
--   schedule_in file         the grants of a file
--   state_at origin file k   the rules' state of a file's job after its first k grants, from that start
--   opened_of rs c           the cursor c at a grant
--   taken_of c               the cursor c after a grant
--   remaining rs c           the grants from the cursor c on
--   buffers_of p t r l       the buffers t, r, l with what the play carries
--   StandingAt               the buffers show the state after the grants so far
--   Turnable, Turned         what a turn asks and what it leaves
--   Turns                    what it leaves of buffers that show the grants so far, from any start
--   first_progress hs m      what a play carries before its first grant
--   first_tally m            the tally before the first grant
--   run_of origin j          the rules' run of the job j from that start
use Rattle.std.specs.Prelude.{◌≡◌, false, cond, List, ◌++◌, ℕ, ◌+◌, ◌-◌, ◌<◌, eqb, length, get_or, take, drop, replicate}
use Rattle.std.specs.Int.Count.{ones}
use Rattle.reader.specs.declared.Checked.{Checked}
use Rattle.reader.specs.Reader.{Playing}
use Rattle.job.specs.declared.Tally.{Tally}
use Rattle.job.specs.Job.{Job}
use Rattle.process.specs.declared.Head.{Head}
use Rattle.jobfile.specs.declared.Run.{Run}
use Rattle.jobfile.specs.Meaning.{meaning, granted}
use Rattle.jobfile.specs.Written.{longest_runs}
use Rattle.rules.specs.State.{State}
use Rattle.rules.specs.Start.{Start}
use Rattle.rules.specs.Step.{plus}
use Rattle.rules.specs.Run.{happened}
use Rattle.stepper.specs.declared.Done.{Done}
use Rattle.stepper.specs.Shown.{Buffers, buffers, shown, done_of, state_after, requests_in, waits_in, Standing}
use Rattle.turns.specs.declared.Cursor.{Cursor}
use Rattle.turns.specs.declared.Progress.{Progress}

pub record Addable (tally : Tally) : Type 0 where
  pub idle : tally.idle < 4294967295
  pub failed : tally.failed < 4294967295
  pub links : tally.links < 4294967295

abbrev pub added_of : Tally → Done → ℕ → Tally
added_of tally done working =
    record {
      idle = plus done.idle tally.idle;
      failed = plus done.failed tally.failed;
      links = plus done.linked tally.links;
      working = working;
    }

abbrev pub counted_of : Tally → Done → ℕ → Tally
counted_of tally done mask = added_of tally done (ones mask)

-- ---- the cursor

abbrev pub runs_of : List ℕ → List Run
runs_of file = longest_runs (meaning file).job.schedule

abbrev pub schedule_in : List ℕ → List ℕ
schedule_in file = (meaning file).job.schedule

abbrev pub state_at : Start → List ℕ → ℕ → State
state_at origin file k = state_after origin (meaning file).job (take k (schedule_in file))

abbrev pub no_run : Run
no_run = record { head = 0; count = 0 }

abbrev pub opened_of : List Run → Cursor → Cursor
opened_of rs c =
    cond (eqb c.left 0)
    (record { next = c.next + 1; head = (get_or rs c.next no_run).head; left = (get_or rs c.next no_run).count })
    c

abbrev pub taken_of : Cursor → Cursor
taken_of c = record { next = c.next; head = c.head; left = c.left - 1 }

abbrev pub remaining : List Run → Cursor → List ℕ
remaining rs c = replicate c.left c.head ++ granted (drop c.next rs)

-- A run is there where the one under way has no grant left.
pub record Openable (rs : List Run) (c : Cursor) : Type 0 where
  pub there : c.left ≡ 0 → c.next < length rs

-- ---- one turn

abbrev pub buffers_of : Progress → List ℕ → List ℕ → List ℕ → Buffers
buffers_of p table report linearization = buffers p.heads table report linearization p.entries p.mask

-- The buffers show the state after the grants so far.
abbrev pub StandingAt : Start → List ℕ → Progress → Buffers → List ℕ → Type 0
StandingAt origin file p b lent = Standing origin (meaning file).job b (p.number + 1) (take p.number (schedule_in file)) lent

pub record Turnable (file : List ℕ) (counts : Checked) (p : Progress) (table report linearization : List ℕ) : Type 0 where
  pub playing : Playing file counts
  pub more : p.number < length (schedule_in file)
  pub left : remaining (runs_of file) p.cursor ≡ drop p.number (schedule_in file)
  pub origin : Start
  pub lent : List ℕ
  pub standing : StandingAt origin file p (buffers_of p table report linearization) lent

-- The turn makes the rules' step for the schedule's next head: the buffers then show the state after one grant more.
pub record Turned (file : List ℕ) (p p' : Progress) (b' : Buffers) (origin : Start) (lent : List ℕ) : Type 0 where
  pub number : p'.number ≡ p.number + 1
  pub left : remaining (runs_of file) p'.cursor ≡ drop (p.number + 1) (schedule_in file)
  pub buffers : b' ≡ shown (requests_in file) (waits_in file) (state_at origin file (p.number + 1)) lent
  pub done : p'.done
      ≡ done_of (happened (requests_in file) (waits_in file) (state_at origin file p.number) (get_or (schedule_in file) p.number 0))

abbrev pub Turns : List ℕ → Progress → Progress → Buffers → Buffers → Type 0
Turns file p p' b b' = (origin : Start) (lent : List ℕ) → StandingAt origin file p b lent → Turned file p p' b' origin lent

-- ---- the whole schedule

-- What a play carries before its first grant.
abbrev pub first_progress : List Head → ℕ → Progress
first_progress heads mask =
    record {
      heads = heads;
      entries = 0;
      mask = mask;
      number = 0;
      cursor = record { next = 0; head = 0; left = 0 };
      done = record { idle = false; failed = false; linked = false };
    }

-- All three numbers are zero when an accepted job starts; the fourth is the mask's count of ones.
abbrev pub first_tally : ℕ → Tally
first_tally mask = record { idle = 0; failed = 0; links = 0; working = ones mask }

abbrev pub run_of : Start → Job → State
run_of origin j = state_after origin j j.schedule
