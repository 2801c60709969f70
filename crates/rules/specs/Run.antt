-- Document 01, "Whole runs and the plain book": a run is the list of grants, each on what the one before it left.
--
--   run qs ws S gs        the state after the grants gs
--   action_of S head      what a grant does that serves that head
--   Happening             what one grant was: idle, or used for request q, with what it did
--   happened_by S turn    what a grant was, by whom it serves
--   happened qs ws S h    what a grant to head h is in the state S
--   history qs ws S past gs  what the grants were, the newest first: the grant number of the newest is the list's length
use Rattle.std.specs.Prelude.{List, [], ◌∷◌, ℕ}
use Rattle.job.specs.declared.Request.{Request}
use Rattle.job.specs.declared.Wait.{Wait}
use Rattle.process.specs.declared.Head.{Head}
use Rattle.process.specs.Access.{access_of}
use Rattle.rules.specs.Table.{seen}
use Rattle.rules.specs.State.{State}
use Rattle.rules.specs.Action.{Action}
use Rattle.rules.specs.Step.{Turn, turn, advanced, step}
use Rattle.rules.specs.Step.Turn.{idled, serves}

-- A run is the list of grants of an accepted job, in any mix.
abbrev pub run : List Request → List Wait → State → List ℕ → State
run qs ws S [] = S
run qs ws S (h ∷ gs) = run qs ws (step qs ws S h) gs

-- The head's access, the word that it sees, and where that leads.
abbrev pub action_of : State → Head → Action
action_of S head = record { access = access_of head; seen = seen S.table (access_of head); event = (advanced S head).event }

-- What a grant was: idle, or used for request q, with what it did.
pub data Happening : Type 0 where
  idle : Happening
  serving : ℕ → Action → Happening

-- What the grant was, by whom it serves.
abbrev pub happened_by : State → Turn → Happening
happened_by S idled = idle
happened_by S (serves head) = serving head.task.request (action_of S head)

-- What a grant to head h is.
unfoldable pub happened : List Request → List Wait → State → ℕ → Happening
happened qs ws S h = happened_by S (turn qs ws S h)

-- What the grants of a run were, one by one.
abbrev pub history : List Request → List Wait → State → List Happening → List ℕ → List Happening
history qs ws S past [] = past
history qs ws S past (h ∷ gs) = history qs ws (step qs ws S h) (happened qs ws S h ∷ past) gs
