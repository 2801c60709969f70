-- Document 01, "One grant, one word": what stands before the first grant, by the numbers of the heads' first requests.
--
--   first_requests qs h m    the first request of each of the m heads from h on
--   first_task ws report q   the task of a head that rests before request q
--   at_rest task             the head that rests with that task
--   is_request requests q    q is the number of a request, of that many
--   work_flag requests head  the head has a request left, of that many
use Rattle.std.specs.Prelude.{Bool, List, [], ◌∷◌, ℕ, zero, suc, ltb}
use Rattle.job.specs.declared.Request.{Request}
use Rattle.job.specs.declared.Wait.{Wait}
use Rattle.process.specs.declared.Stage.TheVariants.{Resting}
use Rattle.process.specs.declared.Task.{Task}
use Rattle.process.specs.declared.Head.{Head}
use Rattle.rules.specs.declared.Row.{Row}
use Rattle.rules.specs.State.{seek, resting}
use Rattle.stepper.specs.Shown.{noted}

-- Every head rests before its first request; one that has none stands at the number of requests.
abbrev pub first_requests : List Request → ℕ → ℕ → List ℕ
first_requests qs h zero = []
first_requests qs h (suc m) = seek qs h 0 ∷ first_requests qs (suc h) m

-- (02, A3) Its record has what that request waits for.
abbrev pub first_task : List Wait → List Row → ℕ → Task
first_task ws report q = (noted ws report (resting q)).task

abbrev pub at_rest : Task → Head
at_rest task = record { stage = Resting; task = task }

abbrev pub is_request : ℕ → ℕ → Bool
is_request requests q = ltb q requests

-- The heads with work left are kept as a bit mask: one flag a head.
abbrev pub work_flag : ℕ → Head → Bool
work_flag requests head = is_request requests head.task.request
