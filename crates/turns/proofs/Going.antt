-- The invariant of the loop over the grants.
--
--   Going    the buffers show the state after the grants so far, and the tally is that state's
--
-- Main laws: going_start, going_next and going_end; going_still, of an idle grant.
use mathlib.Core.Path.{◌≡◌, sym, ap, ap₂, ◌∙◌, subst}
use mathlib.Core.Bool.{true}
use mathlib.Core.List.{List, [], map}
use Prim.Native.Nat.{ℕ, ◌+◌, ◌≤◌, ◌<◌}
use native.Mathlib.Omega.{arith}
use lib.ListN.{length, get_or, take, drop}
use lib.Seq.{length-take-le, take_all}
use lib.Count.{ones}
use Rattle.reader.specs.declared.Checked.{Checked}
use Rattle.reader.specs.Reader.{Playing}
use Rattle.job.specs.declared.Request.{Request}
use Rattle.job.specs.declared.Tally.{Tally}
use Rattle.process.specs.declared.Head.{Head}
use Rattle.mask.specs.Mask.{mask_of}
use Rattle.jobfile.specs.Meaning.{meaning}
use Rattle.jobfile.proofs.Runs.{granted_longest}
use Rattle.rules.specs.State.{State, has_work, working, tally_of}
use Rattle.rules.specs.Start.{Start}
use Rattle.rules.specs.Step.{step}
use Rattle.stepper.specs.Shown.{start_of, state_after, requests_in, waits_in, Standing}
use Rattle.stepper.proofs.Reached.{cut_granted, after_next, playing_admitted}
use Rattle.turns.specs.declared.Progress.{Progress}
use Rattle.turns.specs.Turns.{runs_of, schedule_in, state_at, remaining, counted_of, buffers_of, StandingAt, Turned}
use Rattle.turns.specs.Turns.{first_progress, first_tally, run_of}
use Rattle.turns.proofs.Counters.{working_ones, idle_heads, counted_step, Small, counted_small}

pub record Going (origin : Start) (file : List ℕ) (counts : Checked) (lent : List ℕ) (p : Progress) (tally : Tally)
    (table report linearization : List ℕ) : Type 0 where
  pub playing : Playing file counts
  pub within : p.number ≤ length (schedule_in file)
  pub left : remaining (runs_of file) p.cursor ≡ drop p.number (schedule_in file)
  pub standing : StandingAt origin file p (buffers_of p table report linearization) lent
  pub tallied : tally ≡ tally_of (requests_in file) (state_at origin file p.number)
  pub small : Small tally p.number

-- ---- the start

pub going_start : {origin : Start} {file : List ℕ} {counts : Checked} {mask : ℕ} {heads : List Head}
    {lent table report linearization : List ℕ}
    → Playing file counts → (p : Progress) (tally : Tally) → p ≡ first_progress heads mask → tally ≡ first_tally p.mask
    → Standing origin (meaning file).job (buffers_of p table report linearization) 1 [] lent
    → Going origin file counts lent p tally table report linearization
going_start {origin} {file} {lent = lent} {table} {report} {linearization} playing p tally is is-tally standing =
    let none : p.number ≡ 0 = ap (λ q. q.number) is in
    record {
      playing = playing;
      within = omega (arith, none);
      left = ap (λ q. remaining (runs_of file) q.cursor) is ∙ granted_longest (schedule_in file)
          ∙ ap (λ k. drop k (schedule_in file)) (sym none);
      standing = subst (λ k. Standing origin (meaning file).job (buffers_of p table report linearization) (k + 1)
          (take k (schedule_in file)) lent) (sym none) standing;
      tallied = is-tally ∙ ap (λ w. record { idle = 0; failed = 0; links = 0; working = w })
          (ap (λ c. ones c.mask) standing.shows ∙ sym (working_ones (requests_in file) (start_of origin (meaning file).job).heads))
          ∙ ap (λ k. tally_of (requests_in file) (state_at origin file k)) (sym none);
      small = record {
        idle = omega (arith, ap (λ t. t.idle) is-tally);
        failed = omega (arith, ap (λ t. t.failed) is-tally);
        links = omega (arith, ap (λ t. t.links) is-tally);
      };
    }

-- ---- one turn

module _ {origin : Start} {file : List ℕ} {counts : Checked} {lent : List ℕ} {p : Progress} {tally : Tally}
    {table report linearization : List ℕ} (g : Going origin file counts lent p tally table report linearization) where
  abbrev qs : List Request
  qs = requests_in file

  abbrev schedule : List ℕ
  schedule = schedule_in file

  abbrev h : ℕ
  h = get_or schedule p.number 0

  module _ (more : p.number < length schedule) where
    abbrev S : State
    S = state_at origin file p.number

    -- one grant more is the rules' step
    stepped : state_at origin file (p.number + 1) ≡ step qs (waits_in file) S h
    stepped = after_next origin (meaning file).job schedule p.number more

    module _ (p' : Progress) (tally' : Tally) (table' report' linearization' : List ℕ)
        (turned : Turned file p p' (buffers_of p' table' report' linearization') origin lent)
        (counted : tally' ≡ counted_of tally p'.done p'.mask) where
      standing_after : StandingAt origin file p' (buffers_of p' table' report' linearization') lent
      standing_after =
          subst (λ k. Standing origin (meaning file).job (buffers_of p' table' report' linearization') (k + 1) (take k schedule) lent)
          (sym turned.number)
          (record {
            initial = g.standing.initial;
            shows = turned.buffers;
            next = omega (arith, length-take-le (p.number + 1) schedule (omega arith));
            granted = cut_granted (meaning file).job (playing_admitted g.playing) (p.number + 1);
            room = g.standing.room;
          })

      mask_after : p'.mask ≡ mask_of (map (has_work qs) (step qs (waits_in file) S h).heads)
      mask_after = ap (λ c. c.mask) turned.buffers ∙ ap (λ T. mask_of (map (has_work qs) T.heads)) stepped

      -- after an idle grant the tally has the mask's count of ones already
      pub going_still : p'.done.idle ≡ true → tally.working ≡ ones p'.mask
      going_still idle =
          ap (λ t. t.working) g.tallied
          ∙ ap (working qs) (sym (idle_heads qs (waits_in file) S h (sym (ap (λ d. d.idle) turned.done) ∙ idle)))
          ∙ working_ones qs (step qs (waits_in file) S h).heads ∙ ap ones (sym mask_after)

      counts_after : tally' ≡ tally_of qs (state_at origin file p'.number)
      counts_after =
          counted ∙ ap (λ t. counted_of t p'.done p'.mask) g.tallied
          ∙ ap₂ (λ d m. counted_of (tally_of qs S) d m) turned.done mask_after
          ∙ counted_step qs (waits_in file) S h ∙ ap (tally_of qs) (sym stepped)
          ∙ ap (λ k. tally_of qs (state_at origin file k)) (sym turned.number)

      pub going_next : Going origin file counts lent p' tally' table' report' linearization'
      going_next =
          record {
            playing = g.playing;
            within = omega (arith, turned.number);
            left = turned.left ∙ ap (λ k. drop k schedule) (sym turned.number);
            standing = standing_after;
            tallied = counts_after;
            small = subst (λ t. Small t p'.number) (sym counted)
                (subst (λ k. Small (counted_of tally p'.done p'.mask) k) (sym turned.number)
                (counted_small p'.done p'.mask g.small));
          }

  -- ---- the end

  pub going_end : length schedule ≤ p.number → state_at origin file p.number ≡ run_of origin (meaning file).job
  going_end all = ap (state_after origin (meaning file).job) (take_all p.number schedule all)
