-- The tally, grant by grant: what the rules' step does to the counters is what a grant adds to the tally.
--
--   Small t number   no counter is above the number of grants
use mathlib.Core.Path.{◌≡◌, refl, sym, ap, ◌∙◌}
use mathlib.Core.Bool.{Bool, true, false, cond, true≢false}
use mathlib.Core.List.{List, [], ◌∷◌, map}
use Prim.Native.Nat.{ℕ, suc, ◌+◌, ◌≤◌, ◌<◌}
use native.Mathlib.Omega.{arith}
use lib.Count.{ones}
use Rattle.basics.proofs.Conditions.{split}
use Rattle.job.specs.declared.Request.{Request}
use Rattle.job.specs.declared.Wait.{Wait}
use Rattle.job.specs.declared.Tally.{Tally}
use Rattle.process.specs.declared.Head.{Head}
use Rattle.mask.specs.Mask.{mask_of, count_of}
use Rattle.mask.proofs.Laws.{mask_count}
use Rattle.rules.specs.State.{State, has_work, working, tally_of}
use Rattle.rules.specs.Step.{is_served, plus, head_at, step}
use Rattle.rules.specs.Run.{happened}
use Rattle.stepper.specs.declared.Done.{Done}
use Rattle.stepper.specs.Shown.{done_of}
use Rattle.turns.specs.Turns.{Addable, counted_of}

working_count : (qs : List Request) (heads : List Head) → count_of (map (has_work qs) heads) ≡ working qs heads
unfolding count_of
working_count qs [] = refl
working_count qs (head ∷ heads) = ap (λ k. cond (has_work qs head) (suc k) k) (working_count qs heads)

-- "their number is its count of ones"
pub working_ones : (qs : List Request) (heads : List Head) → working qs heads ≡ ones (mask_of (map (has_work qs) heads))
working_ones qs heads = sym (mask_count (map (has_work qs) heads) ∙ working_count qs heads)

module _ (qs : List Request) (ws : List Wait) (S : State) (h : ℕ) where
  -- an idle grant leaves every head
  pub idle_heads : (done_of (happened qs ws S h)).idle ≡ true → (step qs ws S h).heads ≡ S.heads
  unfolding step happened
  idle_heads i = split (is_served qs ws S.report (head_at S h)) (λ t. absurd (true≢false (sym i ∙ rw t refl))) (λ n. rw n refl)

  step_idle : plus (done_of (happened qs ws S h)).idle S.idle ≡ (step qs ws S h).idle
  unfolding step happened
  step_idle = split (is_served qs ws S.report (head_at S h)) (λ t. rw t refl) (λ t. rw t refl)

  step_failed : plus (done_of (happened qs ws S h)).failed S.failed ≡ (step qs ws S h).failed
  unfolding step happened
  step_failed = split (is_served qs ws S.report (head_at S h)) (λ t. rw t refl) (λ t. rw t refl)

  step_links : plus (done_of (happened qs ws S h)).linked S.links ≡ (step qs ws S h).links
  unfolding step happened
  step_links = split (is_served qs ws S.report (head_at S h)) (λ t. rw t refl) (λ t. rw t refl)

  pub counted_step : counted_of (tally_of qs S) (done_of (happened qs ws S h)) (mask_of (map (has_work qs) (step qs ws S h).heads))
      ≡ tally_of qs (step qs ws S h)
  counted_step = λ i. record {
    idle = step_idle i;
    failed = step_failed i;
    links = step_links i;
    working = sym (working_ones qs (step qs ws S h).heads) i;
  }

-- ---- counters stay small

pub record Small (t : Tally) (number : ℕ) : Type 0 where
  pub idle : t.idle ≤ number
  pub failed : t.failed ≤ number
  pub links : t.links ≤ number

plus_small : (b : Bool) (n number : ℕ) → n ≤ number → plus b n ≤ number + 1
plus_small true n number l = omega arith
plus_small false n number l = omega arith

pub counted_small : {t : Tally} {number : ℕ} (d : Done) (mask : ℕ) → Small t number → Small (counted_of t d mask) (number + 1)
counted_small {t} {number} d mask s =
    record {
      idle = plus_small d.idle t.idle number s.idle;
      failed = plus_small d.failed t.failed number s.failed;
      links = plus_small d.linked t.links number s.links;
    }

pub small_addable : {t : Tally} {number : ℕ} → number < 4294967295 → Small t number → Addable t
small_addable l s = record { idle = omega (arith, s.idle); failed = omega (arith, s.failed); links = omega (arith, s.links) }
