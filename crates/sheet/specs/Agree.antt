-- Document 02, A5: what two runs have to agree on to give the same sheet, and what is promised of sheets.
--
--   LineUp report entries    what the report and the line-up of every run have
--   Agree                    the seen requests of two runs have the same report numbers and the same points, in file order
--   Numbers numbers report   the numbers begin with those of the report's rows, four a request
--   SeenBelow seen n         the seen numbers below n are numbered without gap, and stand in file order
--   Agreement                two runs that agree give the same sheet
--   FullSight                where every request is seen, the sheet is what the listing prints of requests and entries
--   RunsAgree                the runs of two jobs agree on what a head of each sees
--   JobsAgreement            two admitted jobs whose runs agree give the same text
--   HasHead file h           the file is accepted, and h is one of its heads
--   SameSheets               two calls give the same answer and the same bytes
--   CallsAgreement           they do where the runs of their files agree
--   with_rights j rights     the job j with these rights
--   RightsUnread             the run of a job is that of the same job with any rights
--   SeesAll j h              head h of the job j sees every head
--   EveryHead                it does where there are no rights, and where its mask has every head
--   listing_lines left       what the listing prints of requests and entries after a play
--   FullCall                 that is the sheet of a head that sees every head
use Rattle.std.specs.Prelude.{◌≡◌, Bool, true, ℕ, ◌+◌, ◌*◌, ◌-◌, ◌^◌, ◌≤◌, ◌<◌, length, get_or}
use mathlib.Core.List.{List, [], ◌++◌, map, Memᴰ}
use Rattle.job.specs.declared.Right.{Right}
use Rattle.job.specs.Job.{Job, sight_of}
use Rattle.basics.specs.Count.{count}
use Rattle.text.specs.Text.{each}
use Rattle.listing.specs.Listing.{Requests, Entries, row}
use Rattle.linearization.specs.Entry.{Entry, Rising, occurrences, flat}
use Rattle.rules.specs.declared.Row.{Row}
use Rattle.rules.specs.Report.{row_at}
use Rattle.rules.specs.Start.{Start, Initial}
use Rattle.jobfile.specs.Meaning.{meaning}
use Rattle.jobfile.specs.Admitted.{Admitted, Bytes}
use Rattle.turns.specs.Turns.{run_of}
use Rattle.player.specs.Player.{Left, origin_in, played_of}
use Rattle.player.specs.Cuts.{LongEnough}
use Rattle.sheet.specs.Sheet.{seen_numbers, number_of, up_to, point_in, sheet_text}
use Rattle.sheet.specs.Sight.{sees, visible}
use Rattle.sheet.specs.Call.{text_from, text_of, sheet_of}

-- What a linearized run has (demand 3): a report row for every request, and a line-up.
pub record LineUp (report : List Row) (entries : List Entry) : Type 0 where
  -- entries rise strictly by point
  pub rising : Rising 0 entries
  -- an entry is a request's
  pub requests : (e : Entry) → Memᴰ e entries → e.request < length report
  -- and a request has one at most
  pub once : (q : ℕ) → q < length report → occurrences q entries ≤ 1

-- "Two runs that agree on those heads' requests in that order, their report numbers and their points". Nothing else of the two
-- runs need be equal: not the numbers that the requests have in the file, not the rule, not the requests that are not seen.
pub record Agree (seen : ℕ → Bool) (report : List Row) (entries : List Entry)
    (seen' : ℕ → Bool) (report' : List Row) (entries' : List Entry) : Type 0 where
  pub rows : map (row_at report) (seen_numbers seen (length report)) ≡ map (row_at report') (seen_numbers seen' (length report'))
  pub points : map (point_in entries) (seen_numbers seen (length report)) ≡ map (point_in entries') (seen_numbers seen' (length report'))

-- The buffer that the listing prints the report from may be longer.
pub record Numbers (numbers : List ℕ) (report : List Row) : Type 0 where
  pub answers : (q : ℕ) → q < length report → get_or numbers (4 * q) 0 ≡ (row_at report q).answer
  pub firsts : (q : ℕ) → q < length report → get_or numbers (4 * q + 1) 0 ≡ (row_at report q).first
  pub lasts : (q : ℕ) → q < length report → get_or numbers (4 * q + 2) 0 ≡ (row_at report q).last
  pub useds : (q : ℕ) → q < length report → get_or numbers (4 * q + 3) 0 ≡ (row_at report q).used

-- How the seen ones of n requests are numbered.
pub record SeenBelow (seen : ℕ → Bool) (n : ℕ) : Type 0 where
  -- there are as many as are counted
  pub many : length (seen_numbers seen n) ≡ count seen n
  -- "numbered from 0 among themselves"
  pub numbered : map (number_of seen) (seen_numbers seen n) ≡ up_to (count seen n)
  -- "in file order"
  pub rising : (i j : ℕ) → i < j → j < count seen n → get_or (seen_numbers seen n) i 0 < get_or (seen_numbers seen n) j 0
  -- each is a seen number below n, and each such number stands at its own number
  pub inside : (i : ℕ) → i < count seen n → get_or (seen_numbers seen n) i 0 < n
  pub only : (i : ℕ) → i < count seen n → seen (get_or (seen_numbers seen n) i 0) ≡ true
  pub all : (q : ℕ) → q < n → seen q ≡ true → get_or (seen_numbers seen n) (number_of seen q) 0 ≡ q

-- Two runs that agree "give the same sheet, byte for byte; the sheet's length is part of this".
abbrev pub Agreement : Type 0
Agreement =
    (seen seen' : ℕ → Bool) (report report' : List Row) (entries entries' : List Entry)
    → LineUp report entries → LineUp report' entries' → Agree seen report entries seen' report' entries'
    → sheet_text seen report entries ≡ sheet_text seen' report' entries'

-- "sight of every head": the sheet is the listing's own request and line lines, whatever stands past the line-up in its buffer.
abbrev pub FullSight : Type 0
FullSight =
    (seen : ℕ → Bool) (report : List Row) (entries : List Entry) (numbers past : List ℕ)
    → LineUp report entries → Numbers numbers report → ((q : ℕ) → q < length report → seen q ≡ true)
    → sheet_text seen report entries
    ≡ each (row Requests numbers) (length report) ++ each (row Entries (flat entries ++ past)) (length entries)

-- ---- of runs

-- Head h of the job j and head h' of the job j', each with its own sight, and the two jobs' runs. Places, heads, masks, waits,
-- schedules and what the runs start from may all differ.
abbrev pub RunsAgree : Start → Job → ℕ → Start → Job → ℕ → Type 0
RunsAgree origin j h origin' j' h' =
    Agree (visible j h) (run_of origin j).report (run_of origin j).entries
    (visible j' h') (run_of origin' j').report (run_of origin' j').entries

-- Any two jobs that have a file, so that any two cuts of one job are among them.
abbrev pub JobsAgreement : Type 0
JobsAgreement =
    (origin origin' : Start) (j j' : Job) (h h' : ℕ)
    → Initial j.nodes origin → Initial j'.nodes origin' → Admitted j → Admitted j' → RunsAgree origin j h origin' j' h'
    → text_from origin j h ≡ text_from origin' j' h'

-- The same job, but for what its heads may ask and see.
abbrev pub with_rights : Job → List Right → Job
with_rights j rights =
    record {
      nodes = j.nodes;
      heads = j.heads;
      rights = rights;
      requests = j.requests;
      waits = j.waits;
      schedule = j.schedule;
    }

-- A play does not read them.
abbrev pub RightsUnread : Type 0
RightsUnread = (origin : Start) (j : Job) (rights : List Right) → run_of origin j ≡ run_of origin (with_rights j rights)

-- ---- of the call

-- A call that is not refused with the file's number or 10.
pub record HasHead (file : List ℕ) (h : ℕ) : Type 0 where
  pub bytes : Bytes file
  pub accepted : (meaning file).number ≡ 0
  pub below : h < (meaning file).job.heads

-- Two calls give the same sheet.
pub record SameSheets (file : List ℕ) (h : ℕ) (file' : List ℕ) (h' : ℕ) : Type 0 where
  -- "the sheet's length is part of this": buffers of one length get the same answer, 14 or the sheet's length
  pub answers : (out out' : List ℕ) → length out ≡ length out' → (sheet_of file h out).answer ≡ (sheet_of file' h' out').answer
  -- "byte for byte": one buffer gets the same bytes
  pub bytes : (out : List ℕ) → (sheet_of file h out).out ≡ (sheet_of file' h' out).out

-- They do where the two runs agree.
abbrev pub CallsAgreement : Type 0
CallsAgreement =
    (file file' : List ℕ) (h h' : ℕ) → HasHead file h → HasHead file' h'
    → RunsAgree (origin_in file) (meaning file).job h (origin_in file') (meaning file').job h'
    → SameSheets file h file' h'

-- "sight of every head"
abbrev pub SeesAll : Job → ℕ → Type 0
SeesAll j h = (k : ℕ) → k < j.heads → sees (sight_of j h) k ≡ true

-- Who sees every head.
pub record EveryHead : Type 0 where
  -- "None means every right and sight of every head."
  pub none : (j : Job) (h : ℕ) → Admitted j → j.rights ≡ [] → SeesAll j h
  -- a mask of all heads
  pub mask : (j : Job) (h : ℕ) → sight_of j h ≡ 2 ^ j.heads - 1 → SeesAll j h

-- The listing's own request and line lines, from what a play left.
abbrev pub listing_lines : Left → List ℕ
listing_lines left =
    each (row Requests left.report) left.result.requests ++ each (row Entries left.linearization) left.result.entries

-- A head that sees every head gets them all, whatever buffers the play was lent, if they were not refused.
abbrev pub FullCall : Type 0
FullCall =
    (file : List ℕ) (h : ℕ) → Bytes file → (meaning file).number ≡ 0 → SeesAll (meaning file).job h
    → (table report linearization : List ℕ) → LongEnough (meaning file).job table report linearization
    → text_of file h ≡ listing_lines (played_of file table report linearization)
