-- Document 01, "One grant, one word", and document 02, A2: the record of a head, what is asked of its stage, and the start of
-- its request.
--
--   Traits, traits_of t  what is asked of a stage, and the answers of each
--   Raisable t           the rank to which stage t would raise a root fits its byte
--   is_resting h         the head h serves no request
--   tidies e             the find is made after the link
--   kind_of e            the kind of the request that sends a find on errand e
--   serves_x e           the find serves the first of the request's two places
--   next_errand e        the find that follows
--   node_at k e          the place that the find on errand e has come to
--   moved_to k e v       the task k with v as that place
--   first_errand k       the first find of a request of kind k
--   restart k            the start of a request of kind k
--   tidy_up k            the start of the find after the link
--   no_wait              the number of no request, in a task
--   one_higher w         the request w, or none, as a task tells it
--   is_waiting h         the head h waits for a request
--   waiting_for h e      the head h with e as what it waits for
--   begin q n            the head as it begins request q, number n
--   queued h n           the head h with n as its request
use Rattle.std.specs.Prelude.{Bool, true, false, cond, not, ℕ, ◌+◌, ◌<◌, eqb, Option, Some, None}
use Rattle.job.specs.declared.Kind.{Kind}
use Rattle.job.specs.declared.Kind.TheVariants.{Union, SameSet}
use Rattle.job.specs.declared.Request.{Request}
use Rattle.word.specs.Word.{rank_limit}
use Rattle.process.specs.declared.Step.TheVariants.{ReadNode}
use Rattle.process.specs.declared.Errand.{Errand}
use Rattle.process.specs.declared.Errand.TheVariants.{UnionX, UnionY, SameX, SameY, Tidy}
use Rattle.process.specs.declared.Stage.{Stage}
use Rattle.process.specs.declared.Stage.TheVariants.{Resting, Find, RereadX, ReadRankX, ReadRankY, Link, Raise}
use Rattle.process.specs.declared.Stage.TheVariants.{ReadRankLinked, RaiseFound}
use Rattle.process.specs.declared.Task.{Task}
use Rattle.process.specs.declared.Head.{Head}

-- ---- what is asked of every stage

pub record Traits : Type 0 where
  -- the head serves no request
  pub resting : Bool
  -- its request has linked
  pub linked : Bool
  -- the point that a same-set gets if its answer is no, or 0
  pub pending : ℕ
  -- the rank to which its access would raise a root, or 0
  pub raised : ℕ

-- The four answers in a row.
abbrev pub traits : Bool → Bool → ℕ → ℕ → Traits
traits resting linked pending raised = record { resting = resting; linked = linked; pending = pending; raised = raised }

-- (02, A2) Of the finds that a union makes, one comes after its link.
abbrev pub tidies : Errand → Bool
tidies UnionX = false
tidies UnionY = false
tidies SameX = false
tidies SameY = false
tidies Tidy = true

-- What a head is doing is a choice of cases: resting, or some stage of a request.
abbrev pub traits_of : Stage → Traits
traits_of Resting = traits true false 0 0
traits_of (Find e s) = traits false (tidies e) 0 0
traits_of (RereadX p) = traits false false p 0
traits_of ReadRankX = traits false false 0 0
traits_of (ReadRankY r) = traits false false 0 0
traits_of (Link r e) = traits false false 0 0
traits_of (Raise r) = traits false true 0 (r + 1)
traits_of ReadRankLinked = traits false true 0 0
traits_of (RaiseFound r) = traits false true 0 (r + 1)

-- A rank that is stored is one byte.
abbrev pub Raisable : Stage → Type 0
Raisable t = (traits_of t).raised < rank_limit

-- A head that rests serves no request.
abbrev pub is_resting : Head → Bool
is_resting h = (traits_of h.stage).resting

-- ---- what an errand decides

-- A find is made for a union or a same-set,
abbrev pub kind_of : Errand → Kind
kind_of UnionX = Union
kind_of UnionY = Union
kind_of SameX = SameSet
kind_of SameY = SameSet
kind_of Tidy = Union

-- and serves the first or the second of its two places; after the link it stands in the second's stead.
abbrev pub serves_x : Errand → Bool
serves_x UnionX = true
serves_x UnionY = false
serves_x SameX = true
serves_x SameY = false
serves_x Tidy = false

-- Find from x, then from y; and from x again.
abbrev pub next_errand : Errand → Errand
next_errand UnionX = UnionY
next_errand UnionY = UnionX
next_errand SameX = SameY
next_errand SameY = SameX
next_errand Tidy = Tidy

-- The place that the find has come to.
abbrev pub node_at : Task → Errand → ℕ
node_at k e = cond (serves_x e) k.x k.y

-- The task with that place changed, and nothing else.
abbrev pub moved_to : Task → Errand → ℕ → Task
moved_to k e v =
    record { x = cond (serves_x e) v k.x; y = cond (serves_x e) k.y v; request = k.request; waits = k.waits }

-- ---- a request's start, and the head's next one

-- The first find of a request is from x,
abbrev pub first_errand : Kind → Errand
first_errand Union = UnionX
first_errand SameSet = SameX

-- and with it same-set and union both start, and try again.
abbrev pub restart : Kind → Stage
restart k = Find (first_errand k) ReadNode

-- (02, A2) After its link a union makes a find from the x that it linked: y starts there, and x stays.
abbrev pub tidy_up : Task → Head
tidy_up k =
    record { stage = Find Tidy ReadNode; task = record { x = k.x; y = k.x; request = k.request; waits = k.waits } }

-- (02, A3) The head record has the lowest unfinished request that it waits for. 0 is none, as for points and grants, so that a
-- request waited for is told one higher.
abbrev pub no_wait : ℕ
no_wait = 0

abbrev pub one_higher : Option ℕ → ℕ
one_higher None = no_wait
one_higher (Some n) = n + 1

-- A head that waits for a request.
abbrev pub is_waiting : Head → Bool
is_waiting h = not (eqb h.task.waits no_wait)

-- The head with what it waits for changed, and nothing else.
abbrev pub waiting_for : Head → ℕ → Head
waiting_for h e = record { stage = h.stage; task = record { x = h.task.x; y = h.task.y; request = h.task.request; waits = e } }

-- A head's next request begins at its next grant: x and y are the request's two places.
abbrev pub begin : Request → ℕ → Head
begin q n = record { stage = restart q.kind; task = record { x = q.x; y = q.y; request = n; waits = no_wait } }

-- The head with its request changed, and nothing else.
abbrev pub queued : Head → ℕ → Head
queued h n = record { stage = h.stage; task = record { x = h.task.x; y = h.task.y; request = n; waits = h.task.waits } }
