-- Document 02, A4: a job of up to 16 heads keeps what it leaves; 16 and 32 are two head counts of one law.
--
--   left_by     what a play leaves, by the table, the report, the entries and the tally of its last state
--
-- Main laws: left_same, states that differ in their heads at most leave the same; heads_kept.
use mathlib.Core.Path.{◌≡◌, ap, ◌∙◌}
use mathlib.Core.List.{List, ◌++◌, map}
use Prim.Native.Nat.{ℕ, ◌*◌, ◌≤◌}
use native.Mathlib.Omega.{arith}
use lib.ListN.{length, drop}
use Rattle.job.specs.declared.Tally.{Tally}
use Rattle.job.specs.Job.{Job, most_heads}
use Rattle.word.specs.declared.Node.{Node}
use Rattle.word.specs.Word.{encode}
use Rattle.linearization.specs.Entry.{Entry, flat}
use Rattle.jobfile.specs.Format.{sizes_refusal}
use Rattle.jobfile.specs.Meaning.{meaning}
use Rattle.jobfile.specs.Admitted.{Admitted}
use Rattle.jobfile.proofs.Kept.{sizes_kept}
use Rattle.jobfile.proofs.RoundTrip.{admitted_meaning}
use Rattle.rules.specs.declared.Row.{Row}
use Rattle.rules.specs.State.{State, no_request, tally_of}
use Rattle.rules.specs.Start.{Start}
use Rattle.rules.specs.Heads.{SameRun}
use Rattle.rules.proofs.Heads.{heads_open}
use Rattle.stepper.specs.Buffers.{flat_rows}
use Rattle.stepper.proofs.Reached.{below_member}
use Rattle.turns.specs.Turns.{run_of}
use Rattle.player.specs.Player.{Left, left, left_at, origin_in}
use Rattle.player.specs.Kept.{former_heads, former_run, HeadsKept}

module _ (j : Job) (table report linearization : List ℕ) where
  abbrev left_by : List Node → List Row → List Entry → Tally → Left
  left_by nodes rows entries tally =
      left (map encode nodes ++ drop j.nodes table) (flat_rows rows ++ drop (4 * length j.requests) report)
      (flat entries ++ drop (2 * length entries) linearization)
      (record {
        number = 0;
        nodes = j.nodes;
        heads = j.heads;
        requests = length j.requests;
        grants = length j.schedule;
        entries = length entries;
        tally = tally;
      })

  left_same : {S S' : State} → SameRun j.requests S S' → left_at j S table report linearization ≡ left_at j S' table report linearization
  left_same {S} {S'} same =
      ap (λ t. left_by t S.report S.entries (tally_of j.requests S)) same.table
      ∙ ap (λ r. left_by S'.table r S.entries (tally_of j.requests S)) same.report
      ∙ ap (λ e. left_by S'.table S'.report e (tally_of j.requests S)) same.entries
      ∙ ap (left_by S'.table S'.report S'.entries) same.tally

-- an accepted job of up to 16 heads, from any start
former_same : (origin : Start) (j : Job) → Admitted j → j.heads ≤ former_heads
    → SameRun j.requests (former_run origin j) (run_of origin j)
former_same origin j admitted few =
    (heads_open j.requests j.waits former_heads most_heads origin.table j.schedule (omega arith)
    (λ q l. omega (arith, (admitted.each_request q no_request l).head))
    (λ h m. omega (arith, below_member j.heads h j.schedule admitted.each_grant m))).states

pub heads_kept : HeadsKept
unfolding sizes_refusal
heads_kept =
    record {
      plays = λ file table report linearization bytes accepted few.
          let same = former_same (origin_in file) (meaning file).job (admitted_meaning file bytes accepted) few in
          record { left = left_same (meaning file).job table report linearization same; tally = same.tally };
      sizes = λ nodes heads few. sizes_kept former_heads most_heads nodes heads (omega arith) few;
    }
