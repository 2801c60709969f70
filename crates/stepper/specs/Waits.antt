-- Document 02, A3: what a head's record says of waiting, and what a search among the pairs of a file leaves.
--
--   WaitsFor j S h e   head h waits for request e, told by the rules' state
--   Known j S b        the records of the heads say so, and of no other request
--   later_at ws i      the later request of pair i
--   Parted ws q at     the pairs before place `at` are those of requests before q, and no others
--   frees waits a       an answer a, in a file with that many pairs, may free a head
--   is_due k h head done   the record of head k is looked at again after the request `done` of head h is finished
--   Renewable          the records that are not looked at again are as the report wants them
use Rattle.std.specs.Prelude.{◌≡◌, ◌↔◌, Bool, true, false, cond, List, ℕ, suc, ◌+◌, ◌≤◌, ◌<◌, eqb, length, get_or}
use Rattle.job.specs.declared.Answer.{Answer}
use Rattle.job.specs.declared.Wait.{Wait}
use Rattle.job.specs.Job.{Job, most_heads}
use Rattle.process.specs.declared.Head.{Head}
use Rattle.process.specs.Process.{is_resting}
use Rattle.rules.specs.declared.Row.{Row}
use Rattle.rules.specs.Report.{is_final}
use Rattle.rules.specs.State.{State, resting}
use Rattle.rules.specs.Step.{head_at}
use Rattle.rules.specs.Waits.{pair, Lowest}
use Rattle.stepper.specs.Shown.{Buffers, noted}

-- ---- the head record

-- The head rests, its next request exists, and e is the lowest unfinished request that it waits for.
pub record WaitsFor (j : Job) (S : State) (h e : ℕ) : Type 0 where
  pub rests : is_resting (head_at S h) ≡ true
  pub next : (head_at S h).task.request < length j.requests
  pub lowest : Lowest j.waits S.report (head_at S h).task.request e

-- "The head record gains the lowest unfinished request that it waits for.": told one higher, since 0 is none.
abbrev pub Known : Job → State → Buffers → Type 0
Known j S b = (h e : ℕ) → h < most_heads → (get_or b.heads h (resting 0)).task.waits ≡ suc e ↔ WaitsFor j S h e

-- ---- a search among the pairs

abbrev pub later_at : List Wait → ℕ → ℕ
later_at ws i = (get_or ws i (pair 0 0)).later

pub record Parted (ws : List Wait) (q at : ℕ) : Type 0 where
  pub within : at ≤ length ws
  pub before : (i : ℕ) → i < at → later_at ws i < q
  pub from : (i : ℕ) → at ≤ i → i < length ws → q ≤ later_at ws i

-- ---- the heads after a request is finished

-- Only an answer that finishes a request frees a head, and only where the file has pairs.
abbrev pub frees : ℕ → Answer → Bool
frees waits answer = cond (eqb waits 0) false (is_final answer)

-- The records that are looked at again: that of the head whose request it was, and those of the heads that waited for it.
abbrev pub is_due : ℕ → ℕ → Head → ℕ → Bool
is_due k h head done = cond (eqb k h) true (eqb head.task.waits (done + 1))

-- Every other record is as the report wants it.
pub record Renewable (ws : List Wait) (report : List Row) (heads : List Head) (h done : ℕ) : Type 0 where
  pub kept : (k : ℕ) → k < most_heads → is_due k h (get_or heads k (resting 0)) done ≡ false
      → noted ws report (get_or heads k (resting 0)) ≡ get_or heads k (resting 0)
