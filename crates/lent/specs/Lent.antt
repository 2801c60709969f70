-- A play on a lent tally: what adding a grant asks, and what the owner's tally holds at the end.
use Rattle.std.specs.Prelude.{◌≡◌, true, cond, List, ℕ, eqb, length}
use Rattle.std.specs.Int.Count.{ones}
use Rattle.job.specs.declared.Tally.{Tally}
use Rattle.jobfile.specs.Meaning.{meaning}
use Rattle.rules.specs.State.{tally_of}
use Rattle.stepper.specs.Shown.{requests_in}
use Rattle.turns.specs.declared.Progress.{Progress}
use Rattle.turns.specs.Turns.{Addable, run_of}
use Rattle.player.specs.Player.{play_refusal, origin_in}

-- A grant can be added to a tally that has room; an idle one has left the number of heads with work.
pub record Addition (tally : Tally) (progress : Progress) : Type 0 where
  pub room : Addable tally
  pub still : progress.done.idle ≡ true → tally.working ≡ ones progress.mask

-- The tally is lent by its owner: accepted, it holds what the rules' run counts; refused, it is as lent.
unfoldable pub tally_left : List ℕ → List ℕ → List ℕ → List ℕ → Tally → Tally
tally_left file table report linearization tally =
    cond (eqb (play_refusal file (length table) (length report) (length linearization)) 0)
    (tally_of (requests_in file) (run_of (origin_in file) (meaning file).job)) tally
