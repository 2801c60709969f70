-- Document 01, "One grant, one word" and "Report and line-up": what one grant does to the state.
--
--   Turn                whom a grant serves
--   ready qs head       the head as it stands, or as it begins its next request
--   is_served           a grant to that head serves it
--   turn_of             whom a grant to that head serves
--   head_at S h         head number h
--   turn qs ws S h      whom a grant to head h serves: nobody, or the head as it stands or as it begins its next request
--   advanced S head     the head after its access, and what the grant did
--   settled qs h a      the head with its next request, if it has finished one
--   entered es q e      the entries with the one that the grant enters, if any
--   plus b n            one more than n, if b
--   served qs S h head  the state after a grant to head h that serves it
--   passed S            the state after an idle grant
--   step_by qs S h turn the state after a grant to head h, by whom it serves
--   step qs ws S h      the state after a grant to head h
use Rattle.std.specs.Prelude.{Bool, false, cond, List, ℕ, suc, eqb, get_or, set}
use Rattle.job.specs.declared.Request.{Request}
use Rattle.job.specs.declared.Wait.{Wait}
use Rattle.process.specs.declared.Head.{Head}
use Rattle.process.specs.declared.Event.{Event}
use Rattle.process.specs.declared.Advanced.{Advanced}
use Rattle.process.specs.Process.{begin, is_resting, queued, no_wait}
use Rattle.process.specs.Access.{access_of}
use Rattle.process.specs.Advance.{advance_of}
use Rattle.linearization.specs.Entry.{Entry, insert}
use Rattle.rules.specs.declared.Row.{Row}
use Rattle.rules.specs.Table.{seen, touched}
use Rattle.rules.specs.Report.{no_row, is_final, charge}
use Rattle.rules.specs.State.{request_at, seek, State, resting, has_work, wait_of}

-- What a grant does is decided once: nobody is served, or a head, begun or not.
pub data Turn : Type 0 where
  idled : Turn
  serves : Head → Turn

-- A head's next request begins at its next grant.
abbrev pub ready : List Request → Head → Head
ready qs head = cond (is_resting head) (begin (request_at qs head.task.request) head.task.request) head

-- A grant to a head without requests left is idle. (02, A3) So is one to a head whose next request waits for an unfinished one.
abbrev pub is_served : List Request → List Wait → List Row → Head → Bool
is_served qs ws report head = cond (has_work qs head) (eqb (wait_of ws report head) no_wait) false

-- Every other grant serves its head.
abbrev pub turn_of : List Request → List Wait → List Row → Head → Turn
turn_of qs ws report head = cond (is_served qs ws report head) (serves (ready qs head)) idled

-- The head of that number, as it stands.
abbrev pub head_at : State → ℕ → Head
head_at S h = get_or S.heads h (resting 0)

-- Whom a grant to head h serves.
abbrev pub turn : List Request → List Wait → State → ℕ → Turn
turn qs ws S h = turn_of qs ws S.report (head_at S h)

-- One access to the table, and where it leads.
abbrev pub advanced : State → Head → Advanced
advanced S head = advance_of head (seen S.table (access_of head)) (suc S.now)

-- A head that has finished its request rests before its next one.
abbrev pub settled : List Request → ℕ → Advanced → Head
settled qs h a = cond (is_final a.event.answer) (queued a.head (seek qs h (suc a.head.task.request))) a.head

-- The entry goes in at its point, once that is known; later entries move up one place.
abbrev pub entered : List Entry → ℕ → Event → List Entry
entered es q e = cond (eqb e.point 0) es (insert e.point q es)

-- A counter counts what has happened.
abbrev pub plus : Bool → ℕ → ℕ
plus b n = cond b (suc n) n

-- Comparing, choosing and finishing cost nothing: one grant is one access, its row, its entry and its counts.
abbrev pub served : List Request → State → ℕ → Head → State
served qs S h head =
    record {
      table = touched S.table (access_of head);
      heads = set S.heads h (settled qs h (advanced S head));
      report =
          set S.report head.task.request
          (charge (get_or S.report head.task.request no_row) (suc S.now) (advanced S head).event.answer);
      entries = entered S.entries head.task.request (advanced S head).event;
      idle = S.idle;
      failed = plus (advanced S head).event.failed S.failed;
      links = plus (advanced S head).event.linked S.links;
      now = suc S.now;
    }

-- An idle grant changes only the idle count, but it has its number.
abbrev pub passed : State → State
passed S =
    record {
      table = S.table;
      heads = S.heads;
      report = S.report;
      entries = S.entries;
      idle = suc S.idle;
      failed = S.failed;
      links = S.links;
      now = suc S.now;
    }

-- The state after the grant, by whom it serves.
abbrev pub step_by : List Request → State → ℕ → Turn → State
step_by qs S h idled = passed S
step_by qs S h (serves head) = served qs S h head

-- The state after a grant to head h.
unfoldable pub step : List Request → List Wait → State → ℕ → State
step qs ws S h = step_by qs S h (turn qs ws S h)
