-- Demand 3: what a run leaves is linearizable. The statement, over plain lists: the requests of the job, the table, the
-- report, the entries of the line-up, and the history of the run. Words in quotation marks are the demand's own.
--
--   operation_at qs q    request q as the sequential specification (document 01: the plain book) sees it
--   promised n           what the specification is to answer to a listed request whose report row has the answer n
--   is_listed row link   a request with this report row, which linked at the grant `link` (0: not), is in the line-up
--   Playable             an accepted job: nodes have words, requests are about nodes, grants are for heads
--   Linearized           the demand, one clause a sentence
use Rattle.std.specs.Prelude.{◌≡◌, ◌≢◌, ◌↔◌, Bool, true, cond, not, ℕ, ◌<◌, ◌≤◌, eqb, length}
use mathlib.Core.List.{List, map, Memᴰ}
use Rattle.job.specs.declared.Answer.{Answer}
use Rattle.job.specs.declared.Answer.TheVariants.{Joined, Together, Yes, No}
use Rattle.job.specs.declared.Request.{Request}
use Rattle.word.specs.declared.Node.{Node}
use Rattle.word.specs.Word.{node_limit}
use Rattle.linearization.specs.Partition.{Labels, Operation, replay, replies}
use Rattle.linearization.specs.Entry.{Entry, Rising, occurrences, operations}
use Rattle.forest.specs.Forest as forest
use Rattle.rules.specs.declared.Row.{Row}
use Rattle.rules.specs.Table.{parent}
use Rattle.rules.specs.Report.{row_at}
use Rattle.rules.specs.State.{request_at}
use Rattle.rules.specs.Run.{Happening}
use Rattle.rules.specs.History.{link_of, point_of}

-- "It is handed the line-up's requests in their order, of each only its kind and two places as the job has them."
abbrev pub operation_at : List Request → ℕ → Operation
operation_at qs q = record { kind = (request_at qs q).kind; x = (request_at qs q).x; y = (request_at qs q).y }

-- "every request gets its reported answer (listed unfinished ones: joined)"
abbrev pub promised : ℕ → Answer
promised n = cond (eqb n 2) Together (cond (eqb n 3) Yes (cond (eqb n 4) No Joined))

-- Every finished request is listed, "of the unfinished exactly the unions that have linked, nothing else".
abbrev pub is_listed : Row → ℕ → Bool
is_listed row link = cond (eqb row.answer 0) (not (eqb link 0)) true

-- What an accepted job is to the rules; the number of heads is left open.
pub record Playable (nodes heads : ℕ) (qs : List Request) (schedule : List ℕ) : Type 0 where
  pub few : nodes ≤ node_limit
  pub left : (q : ℕ) → q < length qs → (request_at qs q).x < nodes
  pub right : (q : ℕ) → q < length qs → (request_at qs q).y < nodes
  pub granted : (h : ℕ) → Memᴰ h schedule → h < heads

-- B are the sets at the start.
pub record Linearized (B : Labels) (nodes : ℕ) (qs : List Request) (table : List Node) (report : List Row) (entries : List Entry)
    (past : List Happening) : Type 0 where
  -- "the line-up": entries rise strictly by point.
  pub rising : Rising 0 entries
  -- "each entry at its point": the one that the history gives to its request.
  pub points : (e : Entry) → Memᴰ e entries → e.point ≡ point_of (request_at qs e.request).kind e.request past
  -- "holds every finished request once, of the unfinished exactly the unions that have linked, nothing else"
  pub requests : (e : Entry) → Memᴰ e entries → e.request < length qs
  pub listed : (q : ℕ) → q < length qs → occurrences q entries ≡ cond (is_listed (row_at report q) (link_of q past)) 1 0
  -- "real-time order is kept": of two listed requests, one that ended before the other's first grant stands before it.
  pub ordered : (e f : Entry) → Memᴰ e entries → Memᴰ f entries → (row_at report e.request).last ≢ 0
      → (row_at report e.request).last < (row_at report f.request).first → e.point < f.point
  -- "replayed one at a time by the plain book, every request gets its reported answer (listed unfinished ones: joined)"
  pub answers : replies B (operations (operation_at qs) entries) ≡ map (λ e. promised (row_at report e.request).answer) entries
  -- "two places share a group in the book exactly when they do in the table"
  pub sets : (i j : ℕ) → i < nodes → j < nodes
      → forest.Together (parent table) i j
      ↔ (replay B (operations (operation_at qs) entries) i ≡ replay B (operations (operation_at qs) entries) j)
