-- How the lent buffers show a state of the rules: the table as words, four numbers a request, two an entry, one bit a head.
--
--   Buffers                     heads, table, report, linearization, the number of entries and the work mask
--   buffers ..                  the same, by its parts
--   noted ws report head        the head with what it waits for in its record
--   shown qs ws S lent          what the buffers hold in state S; numbers past the entries are as lent
--   Done, done_of a             what a grant adds to the tally
--   idle_done, used_done event  the same of one that serves nobody, and of one that does
--   requests_in file, waits_in file   the requests and the pairs of a file
--   start_of origin j           the rules' state of the job j before its first grant, from that start
--   state_after origin j gs     the same after the grants gs
--   history_after origin j gs   what those grants were, the newest first
--   Standing                    the buffers show the state after the grants gs, and the next grant is the one of that number
--   Grantable                   they do, for a grant to head h
--   Stepped                     what a grant makes of the buffers, after the grants gs
--   Grants                      what it makes of them after any grants, from any start, whose state they show
use Rattle.std.specs.Prelude.{◌≡◌, true, false, ℕ, suc, ◌*◌, ◌≤◌, ◌<◌, length, drop}
use mathlib.Core.List.{List, [], ◌++◌, map, Memᴰ}
use Rattle.job.specs.declared.Request.{Request}
use Rattle.job.specs.declared.Wait.{Wait}
use Rattle.job.specs.Job.{Job, most_heads}
use Rattle.word.specs.Word.{encode}
use Rattle.process.specs.declared.Head.{Head}
use Rattle.process.specs.declared.Event.{Event}
use Rattle.process.specs.Process.{waiting_for}
use Rattle.linearization.specs.Entry.{flat}
use Rattle.jobfile.specs.Meaning.{meaning}
use Rattle.mask.specs.Mask.{mask_of}
use Rattle.reader.specs.declared.Checked.{Checked}
use Rattle.reader.specs.Reader.{Playing}
use Rattle.rules.specs.declared.Row.{Row}
use Rattle.rules.specs.State.{State, start, has_work, wait_of}
use Rattle.rules.specs.Start.{Start, Initial}
use Rattle.rules.specs.Step.{step}
use Rattle.rules.specs.Run.{Happening, run, happened, history}
use Rattle.rules.specs.Run.Happening.{idle, serving}
use Rattle.stepper.specs.declared.Done.{Done}
use Rattle.stepper.specs.Buffers.{flat_rows}

pub record Buffers : Type 0 where
  pub heads : List Head
  pub table : List ℕ
  pub report : List ℕ
  pub linearization : List ℕ
  pub entries : ℕ
  pub mask : ℕ

abbrev pub buffers : List Head → List ℕ → List ℕ → List ℕ → ℕ → ℕ → Buffers
buffers heads table report linearization entries mask =
    record { heads = heads; table = table; report = report; linearization = linearization; entries = entries; mask = mask }

-- (02, A3) The head record has what the head waits for; the rules tell it by the report.
abbrev pub noted : List Wait → List Row → Head → Head
noted ws report head = waiting_for head (wait_of ws report head)

abbrev pub shown : List Request → List Wait → State → List ℕ → Buffers
shown qs ws S lent =
    record {
      heads = map (noted ws S.report) S.heads;
      table = map encode S.table;
      report = flat_rows S.report;
      linearization = flat S.entries ++ drop (2 * length S.entries) lent;
      entries = length S.entries;
      mask = mask_of (map (has_work qs) S.heads);
    }

-- What a grant adds to the tally that serves nobody,
abbrev pub idle_done : Done
idle_done = record { idle = true; failed = false; linked = false }

-- one that is used for a request,
abbrev pub used_done : Event → Done
used_done event = record { idle = false; failed = event.failed; linked = event.linked }

-- and every grant.
abbrev pub done_of : Happening → Done
done_of idle = idle_done
done_of (serving q act) = used_done act.event

-- Every job is played with the most heads (02, A4); those that it does not have get no request and no grant.
abbrev pub start_of : Start → Job → State
start_of origin j = start j.requests most_heads origin.table

abbrev pub state_after : Start → Job → List ℕ → State
state_after origin j gs = run j.requests j.waits (start_of origin j) gs

abbrev pub history_after : Start → Job → List ℕ → List Happening
history_after origin j gs = history j.requests j.waits (start_of origin j) [] gs

-- The buffers b show the state of the job j after the grants gs, and the next grant is the one of that number.
pub record Standing (origin : Start) (j : Job) (b : Buffers) (number : ℕ) (gs lent : List ℕ) : Type 0 where
  pub initial : Initial j.nodes origin
  pub shows : b ≡ shown j.requests j.waits (state_after origin j gs) lent
  pub next : number ≡ suc (length gs)
  -- every grant so far was for a head
  pub granted : (h : ℕ) → Memᴰ h gs → h < most_heads
  -- there is room for an entry a request
  pub room : 2 * length j.requests ≤ length lent

-- "played record by record and stored nowhere else": the requests are read from the file itself.
abbrev pub requests_in : List ℕ → List Request
requests_in file = (meaning file).job.requests

-- So are the pairs.
abbrev pub waits_in : List ℕ → List Wait
waits_in file = (meaning file).job.waits

pub record Grantable (file : List ℕ) (counts : Checked) (h number : ℕ) (b : Buffers) : Type 0 where
  pub playing : Playing file counts
  pub head : h < most_heads
  pub origin : Start
  pub grants : List ℕ
  pub lent : List ℕ
  pub standing : Standing origin (meaning file).job b number grants lent

-- After the grants gs, one for head h leaves buffers that show the rules' step, and it was what the rules say.
pub record Stepped (file : List ℕ) (h : ℕ) (b' : Buffers) (was : Done) (origin : Start) (gs lent : List ℕ) : Type 0 where
  pub buffers : b' ≡ shown (requests_in file) (waits_in file)
      (step (requests_in file) (waits_in file) (state_after origin (meaning file).job gs) h) lent
  pub done : was ≡ done_of (happened (requests_in file) (waits_in file) (state_after origin (meaning file).job gs) h)

-- So it is after any grants, from any start, whose state the buffers b show at the grant of that number.
abbrev pub Grants : List ℕ → ℕ → ℕ → Buffers → Buffers → Done → Type 0
Grants file h number b b' was =
    (origin : Start) (gs lent : List ℕ) → Standing origin (meaning file).job b number gs lent → Stepped file h b' was origin gs lent
