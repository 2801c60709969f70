-- The heads' records after a request is finished: one after the other they are as the report wants them.
--
--   Renewed f before k l   of the list `before`, the places before k have been changed by f
--
-- Main laws: renewed_start, renewed_on and renewed_end, the loop; renewed_noted, what a record is that is looked at again or not.
use mathlib.Core.Path.{◌≡◌, refl, sym, ap, ◌∙◌, subst}
use mathlib.Core.Bool.{Bool, true, false, cond, true≢false}
use mathlib.Core.List.{List, map}
use Prim.Native.Nat.{ℕ, ◌+◌, ◌≤◌, ◌<◌}
use native.Mathlib.Omega.{arith}
use lib.Dec.{eqb}
use lib.ListN.{length, get_or, set, length-map}
use Rattle.basics.proofs.Lists.{get_or_mapped}
use Rattle.basics.proofs.Conditions.{split}
use Rattle.basics.proofs.Taken.{Taken, taken_none, taken_on, taken_all}
use Rattle.job.specs.declared.Answer.{Answer}
use Rattle.job.specs.declared.Wait.{Wait}
use Rattle.job.specs.Job.{most_heads}
use Rattle.process.specs.declared.Head.{Head}
use Rattle.rules.specs.declared.Row.{Row}
use Rattle.rules.specs.Report.{is_final}
use Rattle.rules.specs.State.{resting}
use Rattle.stepper.specs.Shown.{noted}
use Rattle.stepper.specs.Waits.{frees, is_due, Renewable}

-- ---- one record after the other

pub record Renewed (f : Head → Head) (before : List Head) (k : ℕ) (l : List Head) : Type 0 where
  swept : Taken (resting 0) before (map f before) k l

pub renewed_start : {f : Head → Head} {before : List Head} → Renewed f before 0 before
renewed_start = record { swept = taken_none }

module _ {f : Head → Head} {before l : List Head} {k : ℕ} (r : Renewed f before k l) (size : length before ≡ most_heads) where
  -- the record that is looked at is as before
  pub renewed_here : get_or l k (resting 0) ≡ get_or before k (resting 0)
  renewed_here = r.swept.kept k (omega arith)

  pub renewed_on : (v : Head) → k < most_heads → v ≡ f (get_or l k (resting 0)) → Renewed f before (k + 1) (set l k v)
  renewed_on v h is =
      record {
        swept = taken_on k l v (omega (arith, size)) (is ∙ ap f renewed_here
            ∙ sym (get_or_mapped f before k (resting 0) (resting 0) (omega (arith, size)))) r.swept;
      }

  pub renewed_end : most_heads ≤ k → l ≡ map f before
  renewed_end h = taken_all k l (sym (length-map before f)) (omega (arith, size)) r.swept

-- an answer that frees a head finishes a request
pub frees_final : (waits : ℕ) (answer : Answer) → frees waits answer ≡ true → is_final answer ≡ true
frees_final waits answer t = split (eqb waits 0) (λ e. absurd (true≢false (sym t ∙ rw e))) (λ n. rw n at t)

-- a record that is not looked at again is as it is wanted
pub renewed_noted : {ws : List Wait} {report : List Row} {heads : List Head} {h done : ℕ} → Renewable ws report heads h done
    → (k : ℕ) → k < most_heads → (head : Head) → head ≡ get_or heads k (resting 0)
    → cond (is_due k h head done) (noted ws report head) head ≡ noted ws report head
renewed_noted {ws} {report} {heads} {h} {done} kept k l head is =
    split (is_due k h head done)
    (λ t. rw t)
    (λ f. rw f
    (sym (ap (noted ws report) is ∙ kept.kept k l (ap (λ g. is_due k h g done) (sym is) ∙ f) ∙ sym is)))
