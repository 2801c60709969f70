-- Document 02, A3: what holds of the pairs of requests at every moment of every run: the statements, over plain lists.
--
--   pair l e                 the pair by which request l waits for request e
--   Lowest ws report q e     e is the lowest unfinished request that q waits for
--   Waited ws report entries   what holds of the two requests of each pair
--   AsBefore qs S h          a grant where no pair is given
--   Served qs ws S           some head is served
use Rattle.std.specs.Prelude.{◌≡◌, ◌≢◌, true, cond, ℕ, ◌≤◌, ◌<◌, length}
use mathlib.Core.List.{List, [], Memᴰ}
use Rattle.job.specs.declared.Request.{Request}
use Rattle.job.specs.declared.Wait.{Wait}
use Rattle.process.specs.Process.{no_wait}
use Rattle.linearization.specs.Entry.{Entry, occurrences}
use Rattle.rules.specs.declared.Row.{Row}
use Rattle.rules.specs.Report.{row_at, unfinished}
use Rattle.rules.specs.State.{State, has_work, wait_of}
use Rattle.rules.specs.Step.{is_served, ready, head_at, turn}
use Rattle.rules.specs.Step.Turn.{idled, serves}

-- The later request, then the earlier one.
abbrev pub pair : ℕ → ℕ → Wait
pair l e = record { later = l; earlier = e }

-- "the lowest unfinished request that it waits for"
pub record Lowest (ws : List Wait) (report : List Row) (q e : ℕ) : Type 0 where
  pub waits : Memᴰ (pair q e) ws
  pub unanswered : unfinished report e ≡ true
  pub least : (f : ℕ) → Memᴰ (pair q f) ws → unfinished report f ≡ true → e ≤ f

-- Of each pair, at every moment:
pub record Waited (ws : List Wait) (report : List Row) (entries : List Entry) : Type 0 where
  -- the later request has begun only if the earlier one is finished,
  pub finished : (w : Wait) → Memᴰ w ws → (row_at report w.later).first ≢ 0 → (row_at report w.earlier).answer ≢ 0
  -- and after its last grant.
  pub ended : (w : Wait) → Memᴰ w ws → (row_at report w.later).first ≢ 0
      → (row_at report w.earlier).last < (row_at report w.later).first
  -- "Every finished waiting request stands after the one it waited for": both are listed,
  pub listed : (w : Wait) → Memᴰ w ws → (row_at report w.later).answer ≢ 0
      → (occurrences w.earlier entries ≡ 1) × (occurrences w.later entries ≡ 1)
  -- and the point of the earlier one is the lower one.
  pub stands : (e f : Entry) → Memᴰ e entries → Memᴰ f entries → Memᴰ (pair f.request e.request) ws
      → (row_at report f.request).answer ≢ 0 → e.point < f.point

-- "files without such records play as before": a head is served if it has work left, and no head waits.
pub record AsBefore (qs : List Request) (S : State) (h : ℕ) : Type 0 where
  pub served : turn qs [] S h ≡ cond (has_work qs (head_at S h)) (serves (ready qs (head_at S h))) idled
  pub free : wait_of [] S.report (head_at S h) ≡ no_wait

-- A head that a grant would serve.
pub record Served (qs : List Request) (ws : List Wait) (S : State) : Type 0 where
  pub head : ℕ
  pub present : head < length S.heads
  pub served : is_served qs ws S.report (head_at S head) ≡ true
