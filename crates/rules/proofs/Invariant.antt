-- The invariant of a run: what holds of the state and of its history between any two grants.
--
--   labels qs B S           the sets after the replay of the entries so far
--   moment_of qs n B S      the moment that a head's knowledge is told against
--   HeadKnows q head        what a head knows of request q
--   claim past q            what the sequential specification is to answer to request q
--   Candidate q past p      what the history says of a pending point
--   Timed q past st         what the history says of a request whose head is at stage st
--   Over, Current, Waiting  what holds of a finished request, of one being served, and of one not begun
--   Busy qs h q             q is a request of head h
--   Phase                   which of the three a request is, by its head
--   Placed qs past e        an entry stands at its request's point, within the request
--   Invariant               all of it
use mathlib.Core.Path.{◌≡◌}
use mathlib.Core.Logic.{◌≢◌}
use mathlib.Core.Bool.{true, false, cond}
use mathlib.Core.List.{List}
use Prim.Native.Nat.{ℕ, suc, ◌+◌, ◌≤◌, ◌<◌}
use lib.Dec.{eqb}
use lib.ListN.{length, get_or}
use Rattle.job.specs.declared.Answer.{Answer}
use Rattle.job.specs.declared.Request.{Request}
use Rattle.process.specs.declared.Stage.{Stage}
use Rattle.process.specs.declared.Head.{Head}
use Rattle.process.specs.Process.{traits_of, is_resting}
use Rattle.forest.specs.Forest.{root_count}
use Rattle.forest.proofs.Sound.{Sound}
use Rattle.linearization.specs.Partition.{Labels}
use Rattle.linearization.specs.Entry.{Entry, occurrences}
use Rattle.linearization.proofs.Replay.{after, labels_to, Replayed}
use Rattle.rules.specs.Table.{parent, rank}
use Rattle.rules.specs.Report.{no_row}
use Rattle.rules.specs.State.{State, request_at}
use Rattle.rules.specs.Step.{head_at}
use Rattle.rules.specs.Run.{Happening}
use Rattle.rules.specs.History.{last_where, is_of, ends_find_of, row_of, link_of, point_of}
use Rattle.rules.specs.Linearized.{operation_at, promised}
use Rattle.rules.specs.Laws.{Anchored}
use Rattle.rules.proofs.History.{used_for}
use Rattle.rules.proofs.Stages.{Moment, Knows, pending_until}

abbrev pub labels : List Request → Labels → State → Labels
labels qs B S = after (operation_at qs) B S.entries

abbrev pub moment_of : List Request → (n : ℕ) → Labels → State → Moment n
moment_of qs n B S =
    record { table = S.table; labels = labels qs B S; labels_at = λ point. labels_to (operation_at qs) point B S.entries; now = S.now }

abbrev pub HeadKnows : List Request → ℕ → Labels → State → ℕ → Head → Type 0
HeadKnows qs n B S q head = Knows (moment_of qs n B S) (request_at qs q) head.task head.stage

-- a pending point is not beyond the present grant
pub head_until : (qs : List Request) (n : ℕ) (B : Labels) (S : State) (head : Head) → HeadKnows qs n B S head.task.request head
    → (traits_of head.stage).pending ≤ S.now
head_until qs n B S head = pending_until (moment_of qs n B S) (request_at qs head.task.request) head.task head.stage

abbrev pub claim : List Happening → ℕ → Answer
claim past q = promised (row_of q past).answer

pub record Candidate (q : ℕ) (past : List Happening) (point : ℕ) : Type 0 where
  -- the point is not before the request's first grant
  pub begun : (row_of q past).first ≢ 0
  pub since : (row_of q past).first ≤ point
  -- it is the grant that ended the request's last find from y, and its last grant so far
  pub last : last_where (ends_find_of q) past ≡ point
  pub newest : last_where (is_of q) past ≡ point
  pub used : used_for past point ≡ suc q

pub record Timed (q : ℕ) (past : List Happening) (st : Stage) : Type 0 where
  pub unlinked : (traits_of st).linked ≡ false → link_of q past ≡ 0
  pub linked : (traits_of st).linked ≡ true → link_of q past ≢ 0
  pub candidate : (traits_of st).pending ≢ 0 → Candidate q past (traits_of st).pending

pub record Over (q : ℕ) (past : List Happening) (times : ℕ) : Type 0 where
  pub finished : (row_of q past).answer ≢ 0
  pub begun : (row_of q past).first ≢ 0
  pub ended : (row_of q past).last ≤ length past
  pub anchored : Anchored q (row_of q past) past
  pub listed : times ≡ 1

pub record Current (q : ℕ) (past : List Happening) (times : ℕ) : Type 0 where
  pub unfinished : (row_of q past).answer ≡ 0
  pub begun : (row_of q past).first ≢ 0
  -- listed once if it has linked, else not
  pub listed : times ≡ cond (eqb (link_of q past) 0) 0 1

pub record Waiting (q : ℕ) (past : List Happening) (times : ℕ) : Type 0 where
  pub unfinished : (row_of q past).answer ≡ 0
  pub fresh : (row_of q past).first ≡ 0
  pub unlinked : link_of q past ≡ 0
  pub unlisted : times ≡ 0

-- A head that is not at rest serves a request of its own.
pub record Busy (qs : List Request) (h q : ℕ) : Type 0 where
  pub within : q < length qs
  pub own : (request_at qs q).head ≡ h

-- A head serves its requests in file order, so that its own position tells which it is.
pub data Phase (head : Head) (q : ℕ) (past : List Happening) (times : ℕ) : Type 0 where
  over : q < head.task.request → Over q past times → Phase head q past times
  current : q ≡ head.task.request → is_resting head ≡ false → Current q past times → Phase head q past times
  waiting : head.task.request ≤ q → (q ≡ head.task.request → is_resting head ≡ true) → Waiting q past times → Phase head q past times

pub record Placed (qs : List Request) (past : List Happening) (e : Entry) : Type 0 where
  pub known : e.request < length qs
  pub since : (row_of e.request past).first ≤ e.point
  pub until : e.point ≤ length past
  pub ended : (row_of e.request past).last ≢ 0 → e.point ≤ (row_of e.request past).last
  pub point : e.point ≡ point_of (request_at qs e.request).kind e.request past
  -- no two requests used one grant, so that points are distinct
  pub used : used_for past e.point ≡ suc e.request

pub record Invariant (qs : List Request) (n : ℕ) (B : Labels) (roots₀ : ℕ) (S : State) (past : List Happening) : Type 0 where
  pub nodes : length S.table ≡ n
  pub clock : S.now ≡ length past
  -- the report is what the history says
  pub reports : length S.report ≡ length qs
  pub rows : (q : ℕ) → q < length qs → get_or S.report q no_row ≡ row_of q past
  -- the table shows the sets of the replayed entries, and each link took one root away
  pub sound : Sound n (parent S.table) (rank S.table) (labels qs B S)
  pub roots : root_count (parent S.table) n + S.links ≡ roots₀
  -- a head serves its own requests, and knows what its stage says
  pub own : (h : ℕ) → h < length S.heads → (head_at S h).task.request < length qs → (request_at qs (head_at S h).task.request).head ≡ h
  pub busy : (h : ℕ) → is_resting (head_at S h) ≡ false → Busy qs h (head_at S h).task.request
  pub knows : (h : ℕ) → is_resting (head_at S h) ≡ false → HeadKnows qs n B S (head_at S h).task.request (head_at S h)
  pub timed : (h : ℕ) → is_resting (head_at S h) ≡ false → Timed (head_at S h).task.request past (head_at S h).stage
  -- entries rise, stand at their points and are answered as reported
  pub entries : Replayed (operation_at qs) (Placed qs past) (claim past) B 0 S.entries
  pub phases : (q : ℕ) → q < length qs → Phase (head_at S (request_at qs q).head) q past (occurrences q S.entries)
