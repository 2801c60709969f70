-- What the heads' records say of waiting, before and after a grant.
--
--   Answered R R' r   the report R' differs from R in the answer of request r alone
--
-- Main laws: noted_free, the record of a head that waits for none; renewable, an answer leaves the waits of those that waited
-- for another request; again_shown and left_shown, the records after a grant, looked at again or not.
use mathlib.Core.Path.{◌≡◌, refl, sym, ap, ◌∙◌}
use mathlib.Core.Logic.{◌≢◌}
use mathlib.Core.Bool.{false, cond, true≢false}
use mathlib.Core.List.{List, [], ◌∷◌, map}
use Prim.Native.Nat.{ℕ, zero, suc, ◌+◌, ◌<◌}
use native.Mathlib.Numerals.{add-one}
use native.Mathlib.Omega.{arith}
use lib.Dec.{eqb}
use lib.ListN.{length, get_or, set}
use lib.Seq.{get_or-set_other}
use borrow.Author.Tests.{eq-eqb, ne_eqb, eqb-false}
use Rattle.basics.proofs.Conditions.{split, cond_both}
use Rattle.basics.proofs.Lists.{get_or_mapped, set_mapped}
use Rattle.job.specs.declared.Wait.{Wait}
use Rattle.job.specs.Job.{most_heads}
use Rattle.process.specs.declared.Head.{Head}
use Rattle.process.specs.Process.{is_resting, no_wait, waiting_for}
use Rattle.rules.specs.declared.Row.{Row}
use Rattle.rules.specs.Report.{unfinished}
use Rattle.rules.specs.State.{resting, wait_of}
use Rattle.rules.proofs.Lowest.{lowest_same, lowest_kept}
use Rattle.stepper.specs.Shown.{noted}
use Rattle.stepper.specs.Waits.{is_due, Renewable}

-- ---- one record

module _ (ws : List Wait) (R : List Row) where
  -- a head that stores no wait, and waits for none, is as its record
  pub noted_free : (head : Head) → head.task.waits ≡ no_wait → wait_of ws R head ≡ no_wait → noted ws R head ≡ head
  noted_free head none free = ap (waiting_for head) (free ∙ sym none)

  pub busy_free : (head : Head) → is_resting head ≡ false → wait_of ws R head ≡ no_wait
  busy_free head busy = rw busy

-- without pairs nobody waits
pub none_free : (ws : List Wait) → length ws ≡ 0 → (R : List Row) (head : Head) → wait_of ws R head ≡ no_wait
none_free [] none R head = cond_both (λ k. k ≡ no_wait) (is_resting head) refl refl
none_free (w ∷ ws) none R head = absurd (omega arith)

-- ---- an answer

-- waits are told by the answers alone
pub noted_same : (ws : List Wait) (R R' : List Row) → ((e : ℕ) → unfinished R' e ≡ unfinished R e) → (head : Head)
    → noted ws R' head ≡ noted ws R head
noted_same ws R R' same head =
    ap (λ k. waiting_for head (cond (is_resting head) k no_wait)) (lowest_same ws R R' head.task.request same)

pub record Answered (R R' : List Row) (r : ℕ) : Type 0 where
  pub finished : unfinished R' r ≡ false
  pub others : (e : ℕ) → e ≢ r → unfinished R' e ≡ unfinished R e

module _ (ws : List Wait) {R R' : List Row} {r : ℕ} (a : Answered R R' r) where
  -- who waited for another request, or for none, goes on so
  wait_kept : (head : Head) → wait_of ws R head ≢ suc r → wait_of ws R' head ≡ wait_of ws R head
  wait_kept head other =
      split (is_resting head)
      (λ t. rw t (lowest_kept ws R R' r head.task.request a.finished a.others (λ e. other (rw t e))))
      (λ f. rw f)

  pub renewable : (heads : List Head) (h : ℕ) (next : Head) → length heads ≡ most_heads
      → Renewable ws R' (set (map (noted ws R) heads) h next) h r
  renewable heads h next size = record { kept = kept }
    where
      after : ℕ → Head
      after k = get_or (set (map (noted ws R) heads) h next) k (resting 0)

      kept : (k : ℕ) → k < most_heads → is_due k h (after k) r ≡ false → noted ws R' (after k) ≡ after k
      kept k l due =
          let head = get_or heads k (resting 0) in
          let apart : k ≢ h = λ e. true≢false (rw (eq-eqb k h e) at due) in
          let is : after k ≡ noted ws R head =
          get_or-set_other (map (noted ws R) heads) h k next (resting 0) apart
          ∙ get_or_mapped (noted ws R) heads k (resting 0) (resting 0) (omega (arith, size)) in
          let test : eqb (wait_of ws R head) (r + 1) ≡ false =
          ap (λ g. eqb g.task.waits (r + 1)) (sym is) ∙ (rw (ne_eqb k h apart) at due) in
          let other : wait_of ws R head ≢ suc r = λ e. eqb-false (wait_of ws R head) (r + 1) test (e ∙ sym (add-one r)) in
          ap (noted ws R') is ∙ ap (waiting_for head) (wait_kept head other) ∙ sym is

-- ---- all records

-- a map reads through another one before it
map_through : {A : Type 0} (f g : A → A) → ((a : A) → f (g a) ≡ f a) → (l : List A) (i : ℕ) (v : A)
    → map f (set (map g l) i v) ≡ map f (set l i v)
map_through f g through [] i v = refl
map_through {A} f g through (a ∷ l) zero v = ap {B = List A} (λ r. f v ∷ r) (map_again l)
  where
    map_again : (l : List A) → map f (map g l) ≡ map f l
    map_again [] = refl
    map_again (a ∷ l) = λ i. through a i ∷ map_again l i
map_through {A} f g through (a ∷ l) (suc i) v = λ j. through a j ∷ map_through f g through l i v j

module _ (ws : List Wait) (R R' : List Row) (heads : List Head) (h : ℕ) (next : Head) where
  pub again_shown : map (noted ws R') (set (map (noted ws R) heads) h next) ≡ map (noted ws R') (set heads h next)
  again_shown = map_through (noted ws R') (noted ws R) (λ a. refl) heads h next

  pub left_shown : ((a : Head) → noted ws R' a ≡ noted ws R a) → noted ws R' next ≡ next
      → set (map (noted ws R) heads) h next ≡ map (noted ws R') (set heads h next)
  left_shown same stays =
      sym (λ i. set (map (λ a. same a i) heads) h (stays i)) ∙ set_mapped (noted ws R') heads h next
